-- The product over the places so far.
use Rattle.std.specs.Prelude.{bit_xor}
use Rattle.stair_mds.proofs.Products.{IsProductOf}
use Rattle.stair_mds.proofs.distances.weight.Given as goal

abbrev pub invariant-loop-c : goal.invariant-loop-c
invariant-loop-c l = IsProductOf l.product l.c l.place (λ c. bit_xor l.place c)
