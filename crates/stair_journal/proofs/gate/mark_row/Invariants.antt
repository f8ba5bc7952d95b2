-- The cells of the row so far.
use Rattle.std.proofs.Common.{◌≡◌, ℕ, ◌<◌}
use Rattle.std.specs.Prelude.{◌⊎◌, ◌↔◌}
use Rattle.stair_model.specs.CellSet.{HasCell, IsCellSet}
use Rattle.stair_journal.specs.GateSteps.{IsMarkedIn}
use Rattle.stair_journal.proofs.gate.mark_row.Given as goal

abbrev pub invariant-loop-slot : goal.invariant-loop-slot
invariant-loop-slot l = record {
  members : (i j : ℕ) → HasCell l.cells i j
      ↔ (HasCell l.initial.cells i j ⊎ ((i ≡ l.row) × (j < l.slot) × IsMarkedIn l.geometry l.bytes i j));
  formed : IsCellSet l.cells;
}
