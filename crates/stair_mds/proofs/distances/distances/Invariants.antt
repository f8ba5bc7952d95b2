-- The product over the points so far.
use Rattle.std.specs.Prelude.{bit_xor, slice_index}
use Rattle.stair_mds.proofs.Products.{IsProductOf}
use Rattle.stair_mds.proofs.distances.distances.Given as goal

abbrev pub invariant-loop-j : goal.invariant-loop-j
invariant-loop-j l = IsProductOf l.product l.j l.i (λ j. bit_xor l.x (slice_index l.points j))
