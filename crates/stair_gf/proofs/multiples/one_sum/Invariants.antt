-- The pairs of blocks below this one are stored.
use Rattle.std.proofs.Common.{◌+◌, ◌*◌}
use Rattle.stair_gf.proofs.MultipleLaws.{AreStored}
use Rattle.stair_gf.proofs.multiples.one_sum.Given as goal

abbrev pub invariant-loop-pair : goal.invariant-loop-pair
invariant-loop-pair l =
    AreStored l.initial.symbols l.symbols l.into l.from l.by l.width l.number (l.number + 1) (128 * l.pair) l.number
