-- The cells of the rows so far.
use Rattle.std.proofs.Common.{ℕ, ◌<◌}
use Rattle.std.specs.Prelude.{◌↔◌}
use Rattle.stair_model.specs.CellSet.{HasCell, IsCellSet}
use Rattle.stair_journal.specs.GateSteps.{IsMarkedIn}
use Rattle.stair_journal.proofs.gate.marked_cells.Given as goal

abbrev pub invariant-loop-row : goal.invariant-loop-row
invariant-loop-row l = record {
  members : (i j : ℕ) → HasCell l.cells i j ↔ ((i < l.row) × IsMarkedIn l.geometry l.bytes i j);
  formed : IsCellSet l.cells;
}
