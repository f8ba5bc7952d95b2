-- The cells before the stretch are found, and all of the stretch are erased.
use Rattle.std.proofs.Common.{◌≡◌, ℕ, ◌+◌, ◌*◌, ◌<◌, ◌≤◌}
use Rattle.std.specs.Prelude.{slice_index}
use Rattle.stair_model.specs.CellSet.{HasCell}
use Rattle.stair_model.specs.Geometry.{data_chunks}
use Rattle.stair_up.specs.ErasedAlong.{erased_in_row}
use Rattle.stair_up.specs.SolveSteps.{Keeps}
use Rattle.stair_up.proofs.FirstCells.{FindsBefore}
use Rattle.stair_up.proofs.solve.solve_first_cells.Given as goal

abbrev pub invariant-loop-place : goal.invariant-loop-place
invariant-loop-place g l = record {
  rising : l.start ≤ l.place;
  erased : (p : ℕ) → l.start ≤ p → p < l.place → HasCell l.order.erased l.row (slice_index l.order.columns p);
  kept : Keeps l.order.erased l.initial.canon l.canon;
  found : FindsBefore l.order.erased l.order.columns l.row l.start l.initial.canon l.canon;
  cost : l.steps ≡ l.initial.steps + data_chunks l.initial.canon.geometry * erased_in_row l.order l.start l.row;
}
