-- One step of a product, as the loop takes it.
use Rattle.std.proofs.Common.{◌≡◌, ℕ, ◌*◌, ◌/◌, ◌%◌, ◌<◌, sym, ap, ◌∙◌, one-mul}
use Rattle.std.specs.Prelude.{bit_xor}
use Rattle.std.specs.Int.Bits.{xor_assoc}
use Rattle.std.proofs.Math.Nat.{zero-mul}
use Rattle.stair_model.specs.Field.{times_x, product}
use Rattle.stair_model.proofs.FieldLaws.{product_step}

-- where the lowest bit is set, the multiple goes over into the sum
pub step_odd : (sum multiple bits whole : ℕ) → multiple < 256 → bits < 256 → bits % 2 ≡ 1
    → bit_xor sum (product multiple bits) ≡ whole → bit_xor (bit_xor sum multiple) (product (times_x multiple) (bits / 2)) ≡ whole
step_odd sum multiple bits whole multiple_byte bits_byte odd so_far =
    xor_assoc sum multiple (product (times_x multiple) (bits / 2))
    ∙ ap (λ x. bit_xor sum (bit_xor x (product (times_x multiple) (bits / 2)))) (sym (ap (λ x. x * multiple) odd ∙ one-mul multiple))
    ∙ ap (bit_xor sum) (sym (product_step multiple bits multiple_byte bits_byte)) ∙ so_far

-- where it isn't, the sum stays
pub step_even : (sum multiple bits whole : ℕ) → multiple < 256 → bits < 256 → bits % 2 ≡ 0
    → bit_xor sum (product multiple bits) ≡ whole → bit_xor sum (product (times_x multiple) (bits / 2)) ≡ whole
step_even sum multiple bits whole multiple_byte bits_byte even so_far =
    ap (λ x. bit_xor sum (bit_xor x (product (times_x multiple) (bits / 2)))) (sym (ap (λ x. x * multiple) even ∙ zero-mul multiple))
    ∙ ap (bit_xor sum) (sym (product_step multiple bits multiple_byte bits_byte)) ∙ so_far
