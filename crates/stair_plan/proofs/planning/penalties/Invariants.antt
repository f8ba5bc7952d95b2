use Rattle.stair_plan.specs.Penalty.{ArePenalties}
use Rattle.stair_plan.proofs.planning.penalties.Given as goal

abbrev pub invariant-loop-block : goal.invariant-loop-block
invariant-loop-block l = ArePenalties l.geometry l.block l.least l.greatest
