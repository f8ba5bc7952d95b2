-- The slots so far.
use Rattle.std.proofs.Common.{ℕ, ◌<◌, ◌⊎◌, ◌↔◌}
use Rattle.stair_model.specs.Slots.{HasSlot, IsSlotSet}
use Rattle.stair_base.proofs.sets.Slots.union.Given as goal

abbrev pub invariant-loop-slot : goal.invariant-loop-slot
invariant-loop-slot l = record { formed : IsSlotSet l.both; members : (j : ℕ) → HasSlot l.both j ↔ ((HasSlot l.self j ⊎ HasSlot l.other j) × (j < l.slot)) }
