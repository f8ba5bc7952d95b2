-- The sums so far.
use Rattle.std.proofs.Common.{◌*◌}
use Rattle.stair_gf.specs.SetsSums.{SetsSumsWithin}
use Rattle.stair_gf.proofs.multiples.sums.Given as goal

abbrev pub invariant-loop-four : goal.invariant-loop-four
invariant-loop-four l = SetsSumsWithin l.initial.symbols l.symbols l.into l.from l.by l.width 0 (4 * l.four)
