-- the slots so far
use Rattle.std.proofs.Common.{◌≢◌}
use Rattle.std.specs.Prelude.{slice_index_or}
use Rattle.stair_model.specs.Slots.{IsSlotSet}
use Rattle.stair_member.specs.declared.why.Why.TheVariants.{Here}
use Rattle.stair_member.proofs.JudgeLemmas.{IsSetBelow}
use Rattle.stair_member.proofs.judge.missing.Given as goal

abbrev pub invariant-loop-slot : goal.invariant-loop-slot
invariant-loop-slot l = IsSlotSet l.slots × IsSetBelow (λ j. slice_index_or l.whys j Here ≢ Here) l.slot l.slots
