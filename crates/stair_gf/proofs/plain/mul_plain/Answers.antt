use Rattle.std.proofs.Common.{◌≡◌, ◌/◌, ◌^◌, ◌<◌, sym, ap, ◌∙◌, arith}
use Rattle.std.specs.Prelude.{bit_xor}
use Rattle.std.specs.Int.Bits.{xor_zero_r}
use Rattle.std.proofs.lemmas.Nat.{and_mask, shr-shr}
use Rattle.stair_model.specs.Field.{times_x, product}
use Rattle.stair_model.proofs.FieldLaws.{product-zero_right}
use Rattle.stair_gf.proofs.ShiftAndAdd.{step_odd, step_even}
use Rattle.stair_gf.proofs.plain.mul_plain.Goals as goal
use Rattle.stair_gf.proofs.plain.mul_plain.Goals.{then-bits-eq1, else-bits-eq1}

pub loop-preserved : goal.loop-preserved
loop-preserved c =
    let multiple_byte : c.loop.multiple < 256 = omega (arith, c.loop.auto.multiple-fits) in
    let bits_byte : c.loop.bits < 256 = omega (arith, c.loop.auto.bits-fits) in
    let rest = product (times_x c.loop.multiple) (c.loop.bits / 2) in
    let step : bit_xor c.if-bits-eq1.sum (product (times_x c.loop.multiple) (c.loop.bits / 2)) ≡ product c.args.a c.args.b =
    elim c.if-bits-eq1.branch [
      | then-bits-eq1 w ↦
          ap (λ x. bit_xor x rest) w.sum-is
          ∙ step_odd c.loop.sum c.loop.multiple c.loop.bits _ multiple_byte bits_byte
          (sym (and_mask c.loop.bits 1) ∙ w.if-bits-eq1.true) c.loop.invariant.0
      | else-bits-eq1 w ↦
          ap (λ x. bit_xor x rest) w.sum-is
          ∙ step_even c.loop.sum c.loop.multiple c.loop.bits _ multiple_byte bits_byte
          (omega (arith, and_mask c.loop.bits 1, w.if-bits-eq1.false)) c.loop.invariant.0
    ] in (
      ap (λ x. bit_xor c.if-bits-eq1.sum (product x (c.loop.bits / 2))) c.double-multiple.ensures ∙ step,
      ap (λ x. x / 2) c.loop.invariant.1 ∙ shr-shr c.args.b c.loop.counter 1,
    )

pub returns : goal.returns
returns c =
    let last : c.loop.counter ≡ 8 = omega arith in
    let none : c.loop.bits ≡ 0 =
    c.loop.invariant.1 ∙ ap (λ i. c.args.b / 2 ^ i) last ∙ (let above : c.args.b / 256 ≡ 0 = omega (arith, c.ranges.b) in above) in
    sym (ap (bit_xor c.loop.sum) (ap (product c.loop.multiple) none ∙ product-zero_right c.loop.multiple) ∙ xor_zero_r c.loop.sum)
    ∙ c.loop.invariant.0
