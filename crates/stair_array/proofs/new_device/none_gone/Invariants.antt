-- none of the slots below this one
use Rattle.std.proofs.Common.{◌<◌, ℕ}
use Rattle.stair_model.specs.Slots.{HasSlot, IsSlotSet}
use Rattle.stair_array.proofs.new_device.none_gone.Given as goal

abbrev pub invariant-loop-slot : goal.invariant-loop-slot
invariant-loop-slot l = record { none : (j : ℕ) → j < l.slot → ¬ HasSlot l.fn.gone j; formed : 0 < l.slot → IsSlotSet l.fn.gone }
