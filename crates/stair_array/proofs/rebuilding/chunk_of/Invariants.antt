-- the cells of this slot in the rows before this one were added
use Rattle.std.proofs.Common.{◌≡◌, ◌<◌, ℕ}
use Rattle.std.specs.Prelude.{◌↔◌}
use Rattle.stair_model.specs.CellSet.{HasCell, IsCellSet}
use Rattle.stair_array.proofs.rebuilding.chunk_of.Given as goal

abbrev pub invariant-loop-row : goal.invariant-loop-row
invariant-loop-row l = record {
  formed : IsCellSet l.cells;
  members : (i j : ℕ) → HasCell l.cells i j ↔ ((j ≡ l.slot) × (i < l.row));
}
