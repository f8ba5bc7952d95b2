use Rattle.std.proofs.Common.{◌≡◌, ◌*◌, ◌/◌, ◌%◌, ap₂, ◌∙◌, sym, arith}
use Rattle.std.specs.Prelude.{bit_xor}
use Rattle.std.specs.Int.Bits.{xor_zero_r}
use Rattle.stair_model.specs.Field.{times_x}
use Rattle.stair_gf.proofs.plain.double.Goals as goal

pub returns-then-a-lt128 : goal.returns-then-a-lt128
unfolding times_x
returns-then-a-lt128 c =
    let low : c.args.a * 2 % 256 ≡ c.args.a % 128 * 2 = omega arith in
    let high : 0 ≡ c.args.a / 128 % 2 * 29 = omega arith in
    sym (xor_zero_r (c.args.a * 2 % 256)) ∙ ap₂ bit_xor low high

pub returns-else-a-lt128 : goal.returns-else-a-lt128
unfolding times_x
returns-else-a-lt128 c =
    let low : c.args.a * 2 % 256 ≡ c.args.a % 128 * 2 = omega arith in
    let high : 29 ≡ c.args.a / 128 % 2 * 29 = omega arith in
    ap₂ bit_xor low high
