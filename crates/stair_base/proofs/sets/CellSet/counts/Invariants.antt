-- The counts of the rows so far.
use Rattle.std.proofs.Common.{◌≡◌, ℕ, ◌<◌, slice_index}
use Rattle.std.specs.Prelude.{if◌then◌else◌}
use Rattle.stair_model.specs.CellSet.{has_cell}
use Rattle.stair_model.specs.Sum.{sum_below}
use Rattle.stair_base.proofs.sets.CellSet.counts.Given as goal

abbrev pub invariant-loop-row : goal.invariant-loop-row
invariant-loop-row l =
    (j : ℕ) → j < 32 → slice_index l.counts j ≡ sum_below l.row (λ i. if has_cell (record { rows = l.self-inside.rows }) i j then 1 else 0)
