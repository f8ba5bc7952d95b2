-- none of the slots so far counts for an array that stands, but for this one
use Rattle.stair_rack.specs.Media.{Image}
use Rattle.stair_member.specs.JudgeSteps.{Shows}
use Rattle.stair_member.proofs.JudgeLemmas.{IsNoneBelow}
use Rattle.stair_member.proofs.judge.first_standing.Given as goal

abbrev pub invariant-loop-slot : goal.invariant-loop-slot
invariant-loop-slot l = (image : Image) → Shows l.found image → IsNoneBelow l.but image l.slot
