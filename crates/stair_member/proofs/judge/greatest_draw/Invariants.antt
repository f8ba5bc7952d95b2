-- the greatest draw of the slots so far
use Rattle.stair_rack.specs.Media.{Image}
use Rattle.stair_member.specs.JudgeSteps.{Shows}
use Rattle.stair_member.proofs.JudgeLemmas.{IsDrawnBelow}
use Rattle.stair_member.proofs.judge.greatest_draw.Given as goal

abbrev pub invariant-loop-slot : goal.invariant-loop-slot
invariant-loop-slot l = (image : Image) → Shows l.found image → IsDrawnBelow l.geometry image l.slot l.drawn
