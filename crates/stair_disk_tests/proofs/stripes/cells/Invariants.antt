-- The cells so far lie in two rows of four.
use Rattle.std.proofs.Common.{ℕ, ◌<◌}
use Rattle.stair_model.specs.CellSet.{HasCell, IsCellSet}
use Rattle.stair_disk_tests.proofs.stripes.cells.Given as goal

abbrev pub invariant-loop-number : goal.invariant-loop-number
invariant-loop-number l = record {
  inside : (i j : ℕ) → HasCell l.cells i j → (i < 2) × (j < 4);
  formed : IsCellSet l.cells;
}
