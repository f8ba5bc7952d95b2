-- The sum and the product that is left make the whole, and the bits that are left are those from the counter on.
use Rattle.std.proofs.Common.{◌≡◌, ◌/◌, ◌^◌}
use Rattle.std.specs.Prelude.{bit_xor}
use Rattle.stair_model.specs.Field.{product}
use Rattle.stair_gf.proofs.plain.mul_plain.Given as goal

abbrev pub invariant-loop : goal.invariant-loop
invariant-loop l = (bit_xor l.sum (product l.multiple l.bits) ≡ product l.a l.b) × (l.bits ≡ l.b / 2 ^ l.counter)
