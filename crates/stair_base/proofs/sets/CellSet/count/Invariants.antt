-- The cells of the rows so far.
use Rattle.std.proofs.Common.{◌≡◌, ◌*◌, ◌≤◌, slice_index_or}
use Rattle.stair_model.specs.Sum.{sum_below}
use Rattle.stair_model.specs.Slots.{slot_count, no_slots}
use Rattle.stair_base.proofs.sets.CellSet.count.Given as goal

abbrev pub invariant-loop-row : goal.invariant-loop-row
invariant-loop-row l = record {
  so_far : l.count ≡ sum_below l.row-index (λ i. slot_count (slice_index_or l.row-items i no_slots));
  small : l.count ≤ 255 * l.row-index;
}
