-- the cells on those of the slots before this one are in the set
use Rattle.std.proofs.Common.{◌<◌, ℕ}
use Rattle.std.specs.Prelude.{◌↔◌}
use Rattle.stair_model.specs.CellSet.{HasCell, IsCellSet}
use Rattle.stair_model.specs.Slots.{HasSlot}
use Rattle.stair_array.proofs.mending.cells_on.Given as goal

abbrev pub invariant-loop-slot : goal.invariant-loop-slot
invariant-loop-slot l = record {
  formed : IsCellSet l.on;
  members : (i j : ℕ) → HasCell l.on i j ↔ (HasCell l.cells i j × HasSlot l.slots j × (j < l.slot));
}
