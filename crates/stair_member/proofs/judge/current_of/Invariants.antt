-- the current one of the slots so far
use Rattle.stair_rack.specs.Media.{Image}
use Rattle.stair_member.specs.JudgeSteps.{Shows}
use Rattle.stair_member.proofs.JudgeLemmas.{IsCurrentBelow}
use Rattle.stair_member.proofs.judge.current_of.Given as goal

abbrev pub invariant-loop-slot : goal.invariant-loop-slot
invariant-loop-slot l = (image : Image) → Shows l.found image → IsCurrentBelow l.geometry image l.slot l.current
