-- the live slots so far
use Rattle.std.proofs.Common.{◌≡◌}
use Rattle.stair_model.specs.Slots.{IsSlotSet}
use Rattle.stair_member.specs.Membership.{why_of}
use Rattle.stair_member.specs.declared.why.Why.TheVariants.{Here}
use Rattle.stair_member.proofs.JudgeLemmas.{IsSetBelow}
use Rattle.stair_array.proofs.session.ArrayCore.live.Given as goal

abbrev pub invariant-loop-slot : goal.invariant-loop-slot
invariant-loop-slot l = IsSlotSet l.live × IsSetBelow (λ j. why_of l.self.member j ≡ Here) l.slot l.live
