-- the slots below this one
use Rattle.std.proofs.Common.{◌<◌, ℕ}
use Rattle.std.specs.Prelude.{◌↔◌}
use Rattle.stair_model.specs.Slots.{HasSlot, IsSlotSet}
use Rattle.stair_array.proofs.new_device.slots_of.Given as goal

abbrev pub invariant-loop-slot : goal.invariant-loop-slot
invariant-loop-slot l = record { are : (j : ℕ) → HasSlot l.slots j ↔ (j < l.slot); formed : IsSlotSet l.slots }
