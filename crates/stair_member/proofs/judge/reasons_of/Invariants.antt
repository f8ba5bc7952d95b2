-- the reasons of the slots so far
use Rattle.stair_member.proofs.ReasonLemmas.{AreReasonsBelow}
use Rattle.stair_member.proofs.judge.reasons_of.Given as goal

abbrev pub invariant-loop-slot : goal.invariant-loop-slot
invariant-loop-slot l = AreReasonsBelow l.found l.gone l.current l.slot l.whys
