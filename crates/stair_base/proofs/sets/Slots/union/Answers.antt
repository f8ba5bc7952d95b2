-- Every slot of a set is below 32.
use Rattle.std.proofs.Common.{◌<◌, inl, inr, subst, arith}
use Rattle.stair_model.specs.Slots.{IsSlotSet}
use Rattle.stair_base.proofs.SlotLemmas.{HasSlot-below}
use Rattle.stair_base.proofs.sets.Slots.union.Goals as goal

pub returns-clause-members : goal.returns-clause-members
returns-clause-members c = λ j. (
  λ has. ((c.loop-slot.invariant.members j).0 has).0,
  λ either.
      let below : j < 32 =
      elim either [
        | inl has ↦ HasSlot-below c.args.self.now (subst IsSlotSet c.self.view_is c.self.invariant) j has
        | inr has ↦ HasSlot-below c.args.other.now (subst IsSlotSet c.other.view_is c.other.invariant) j has
      ] in
      (c.loop-slot.invariant.members j).1 (either, omega (arith, below, c.loop-slot.auto.slot-end)),
)
