-- the cells that change with the blocks before this one are in the set
use Rattle.std.proofs.Common.{ℕ}
use Rattle.std.specs.Prelude.{◌↔◌}
use Rattle.stair_model.specs.CellSet.{HasCell, IsCellSet}
use Rattle.stair_array.specs.Calls.{ChangesWith}
use Rattle.stair_array.proofs.writing.dependents.Given as goal

abbrev pub invariant-loop-at : goal.invariant-loop-at
invariant-loop-at g l = record {
  formed : IsCellSet l.cells;
  members : (i j : ℕ) → HasCell l.cells i j ↔ ChangesWith l.geometry l.first l.at i j;
}
