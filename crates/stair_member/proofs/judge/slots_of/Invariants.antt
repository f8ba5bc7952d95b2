-- the slots so far
use Rattle.stair_model.specs.Slots.{IsSlotSet}
use Rattle.stair_rack.specs.Media.{Image}
use Rattle.stair_member.specs.JudgeSteps.{Shows}
use Rattle.stair_member.specs.Superblocks.{CountsFor}
use Rattle.stair_member.proofs.JudgeLemmas.{IsSetBelow}
use Rattle.stair_member.proofs.judge.slots_of.Given as goal

abbrev pub invariant-loop-slot : goal.invariant-loop-slot
invariant-loop-slot l =
    IsSlotSet l.slots × ((image : Image) → Shows l.found image → IsSetBelow (CountsFor l.geometry image) l.slot l.slots)
