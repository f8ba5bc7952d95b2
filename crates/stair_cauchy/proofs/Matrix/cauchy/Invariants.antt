-- The rows so far, and the entries of the row so far.
use Rattle.stair_cauchy.proofs.Filling.{HasPushed}
use Rattle.stair_cauchy.proofs.Matrix.cauchy.Given as goal

abbrev pub invariant-loop-x : goal.invariant-loop-x
invariant-loop-x l = HasPushed l.xs l.ys l.entries.items l.x-index 0

abbrev pub invariant-loop-y : goal.invariant-loop-y
invariant-loop-y l = HasPushed l.xs l.ys l.entries.items l.x-index l.y-index
