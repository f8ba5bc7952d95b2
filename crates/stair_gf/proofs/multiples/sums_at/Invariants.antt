-- The multiples of the first i symbols are added, and in the first d sums that of one more.
use Rattle.stair_gf.proofs.MultipleLaws.{AreParts}
use Rattle.stair_gf.proofs.multiples.sums_at.Given as goal

abbrev pub invariant-loop-i : goal.invariant-loop-i
invariant-loop-i g l = AreParts l.symbols l.start l.from l.by l.factor l.width g.row.COUNT l.i 0 l.sums

abbrev pub invariant-loop-d : goal.invariant-loop-d
invariant-loop-d g l = AreParts l.symbols l.start l.from l.by l.factor l.width g.row.COUNT l.i l.d l.sums
