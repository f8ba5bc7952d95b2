-- The marks so far.
use Rattle.std.proofs.Common.{◌≡◌, ℕ, ◌<◌, length, slice_index, if◌then◌else◌}
use Rattle.stair_model.specs.CellSet.{has_cell}
use Rattle.stair_up.proofs.light_rows.marks.Given as goal

abbrev pub invariant-loop-slot : goal.invariant-loop-slot
invariant-loop-slot l = record {
  long : length l.marks ≡ 32;
  so_far : (j : ℕ) → j < l.slot → slice_index l.marks j ≡ (if has_cell l.erased l.row j then 1 else 0);
}
