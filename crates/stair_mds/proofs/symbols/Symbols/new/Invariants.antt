-- The symbols so far are zero.
use Rattle.std.proofs.Common.{◌≡◌, replicate}
use Rattle.stair_mds.proofs.symbols.Symbols.new.Given as goal

abbrev pub invariant-loop-made : goal.invariant-loop-made
invariant-loop-made l = l.symbols.items ≡ replicate l._made (replicate 512 0)
