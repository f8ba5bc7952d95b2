-- The blocks below this one are stored, and of this one those of the sums before number d.
use Rattle.std.proofs.Common.{◌+◌, ◌*◌}
use Rattle.stair_gf.proofs.MultipleLaws.{AreStored}
use Rattle.stair_gf.proofs.multiples.sums_of.Given as goal

abbrev pub invariant-loop-block : goal.invariant-loop-block
invariant-loop-block g l =
    AreStored l.initial.symbols l.symbols l.into l.from l.by l.width l.first (l.first + g.row.COUNT) (64 * l.block) l.first

abbrev pub invariant-loop-d : goal.invariant-loop-d
invariant-loop-d g l =
    AreStored l.fn.symbols l.symbols l.into l.from l.by l.width l.first (l.first + g.row.COUNT) l.start (l.first + l.d)
