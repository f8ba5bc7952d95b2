-- the slots so far
use Rattle.std.proofs.Common.{◌≡◌}
use Rattle.std.specs.Prelude.{◌⊎◌}
use Rattle.stair_model.specs.Slots.{IsSlotSet}
use Rattle.stair_member.specs.Membership.{why_of}
use Rattle.stair_member.specs.declared.why.Why.TheVariants.{Here, Rebuilding}
use Rattle.stair_member.proofs.JudgeLemmas.{IsSetBelow}
use Rattle.stair_member.proofs.member.Member.here.Given as goal

abbrev pub invariant-loop-slot : goal.invariant-loop-slot
invariant-loop-slot l =
    IsSlotSet l.here × IsSetBelow (λ j. (why_of l.self j ≡ Here) ⊎ (why_of l.self j ≡ Rebuilding)) l.slot l.here
