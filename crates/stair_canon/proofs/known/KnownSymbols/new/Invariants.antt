-- The marks so far are not set.
use Rattle.std.proofs.Common.{◌≡◌, false, replicate}
use Rattle.stair_canon.proofs.known.KnownSymbols.new.Given as goal

abbrev pub invariant-loop-made : goal.invariant-loop-made
invariant-loop-made l = l.known.items ≡ replicate l._made false
