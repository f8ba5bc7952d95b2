use Rattle.std.proofs.Common.{◌≡◌, length}
use Rattle.stair_bench.proofs.rounds.solve_rounds.Given as goal

abbrev pub invariant-loop-round : goal.invariant-loop-round
invariant-loop-round g l = (l.mds.shape ≡ l.fn.mds.shape) × (length l.work ≡ l.fn.mds.shape.total)
