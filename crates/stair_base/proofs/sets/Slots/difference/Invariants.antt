-- The slots so far.
use Rattle.std.proofs.Common.{ℕ, ◌<◌, ◌↔◌}
use Rattle.stair_model.specs.Slots.{HasSlot, IsSlotSet}
use Rattle.stair_base.proofs.sets.Slots.difference.Given as goal

abbrev pub invariant-loop-slot : goal.invariant-loop-slot
invariant-loop-slot l = record { formed : IsSlotSet l.rest; members : (j : ℕ) → HasSlot l.rest j ↔ ((HasSlot l.self j × ¬ HasSlot l.other j) × (j < l.slot)) }
