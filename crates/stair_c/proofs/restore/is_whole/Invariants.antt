-- no cell of the chunks so far is erased
use Rattle.std.proofs.Common.{ℕ, ◌<◌}
use Rattle.stair_model.specs.CellSet.{HasCell}
use Rattle.stair_c.proofs.restore.is_whole.Given as goal

abbrev pub invariant-loop-slot : goal.invariant-loop-slot
invariant-loop-slot l = (i j : ℕ) → i < l.geometry.r → j < l.slot → ¬ HasCell l.erased i j
