-- the slots so far were dropped
use Rattle.stair_member.proofs.ChangeLemmas.{AreLeftBelow}
use Rattle.stair_member.proofs.member.Member.mark_all_gone.Given as goal

abbrev pub invariant-loop-slot : goal.invariant-loop-slot
invariant-loop-slot l = AreLeftBelow l.leaving l.initial.self l.slot l.self
