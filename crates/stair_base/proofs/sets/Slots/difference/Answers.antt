-- Every slot of a set is below 32.
use Rattle.std.proofs.Common.{subst, arith}
use Rattle.stair_model.specs.Slots.{IsSlotSet}
use Rattle.stair_base.proofs.SlotLemmas.{HasSlot-below}
use Rattle.stair_base.proofs.sets.Slots.difference.Goals as goal

pub returns-clause-members : goal.returns-clause-members
returns-clause-members c = λ j. (
  λ has. ((c.loop-slot.invariant.members j).0 has).0,
  λ both.
      let below = HasSlot-below c.args.self.now (subst IsSlotSet c.self.view_is c.self.invariant) j both.0 in
      (c.loop-slot.invariant.members j).1 (both, omega (arith, below, c.loop-slot.auto.slot-end)),
)
