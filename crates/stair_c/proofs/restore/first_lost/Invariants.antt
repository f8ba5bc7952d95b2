-- the stripes before this one are covered
use Rattle.std.proofs.Common.{ℕ, ◌<◌}
use Rattle.stair_c.specs.Restores.{IsCoveredAt}
use Rattle.stair_c.proofs.restore.first_lost.Given as goal

abbrev pub invariant-loop-number : goal.invariant-loop-number
invariant-loop-number l = (s : ℕ) → s < l.number → IsCoveredAt l.geometry l.count l.erased s
