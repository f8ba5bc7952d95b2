-- the rows before this one are held
use Rattle.std.proofs.Common.{ℕ, ◌<◌}
use Rattle.stair_model.specs.CellSet.{HasCell}
use Rattle.stair_c.proofs.restore.held_rows.Given as goal

abbrev pub invariant-loop-row : goal.invariant-loop-row
invariant-loop-row l = (i : ℕ) → i < l.row → ¬ HasCell l.erased i l.slot
