-- The other classes reach up to the row.
use Rattle.std.proofs.Common.{ℕ, ◌-◌, ◌<◌, ◌≤◌}
use Rattle.stair_model.specs.Geometry.{classes, coverage}
use Rattle.stair_base.proofs.place.blocks_in_row.Given as goal

abbrev pub invariant-loop-classes_below : goal.invariant-loop-classes_below
invariant-loop-classes_below l = record {
  classes_left : l.classes_below ≤ classes l.geometry;
  reached : (k : ℕ) → l.classes_below ≤ k → k < classes l.geometry → l.geometry.r - coverage l.geometry k ≤ l.row;
}

abbrev pub decreases-loop-classes_below : goal.decreases-loop-classes_below
decreases-loop-classes_below l = l.classes_below
