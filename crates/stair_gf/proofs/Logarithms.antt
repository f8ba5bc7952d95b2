-- The powers of 2 in the field, and what the two tables say of them.
use Rattle.std.proofs.Common.{◌≡◌, ℕ, zero, suc, ◌+◌, ◌-◌, ◌^◌, ◌<◌, ◌≤◌, replicate, true, ◌||◌, inl, inr, refl, sym, ap, ap₂, ◌∙◌, eqb-true, ltb, ltb-true, arith}
use Rattle.std.specs.Prelude.{◌==◌, slice_index}
use Rattle.std.proofs.lemmas.Bool.{agree_below_at, or_cases}
use Rattle.std.proofs.lemmas.List.{get_or-replicate, length-replicate}
use Rattle.std.proofs.lemmas.Simd.{length-chunk, get_or-chunk}
use Rattle.std.specs.Simd.Lanes.{chunk}
use Rattle.stair_model.specs.Field.{times_x, product, inverse}
use Rattle.stair_model.proofs.FieldLaws.{product-one_left, product-zero_left, product-times_x_left, times_x-lt, inverse_only}
use Rattle.stair_gf.specs.declared.tables.TheConstants.{POWER, LOGARITHM}
use Rattle.stair_gf.specs.Lanes.{HasDoublings}

-- the power of 2, which is x, with this exponent
unfoldable pub power : ℕ → ℕ
power zero = 1
power (suc k) = times_x (power k)

pub power-lt : (k : ℕ) → power k < 256
unfolding power
power-lt zero = omega arith
power-lt (suc k) = times_x-lt (power k)

-- exponents are added
pub power-add : (j k : ℕ) → product (power j) (power k) ≡ power (j + k)
unfolding power
power-add zero k =
    let same : k ≡ 0 + k = omega arith in
    product-one_left (power k) (power-lt k) ∙ ap power same
power-add (suc j) k =
    let same : suc (j + k) ≡ suc j + k = omega arith in
    product-times_x_left (power j) (power k) ∙ ap times_x (power-add j k) ∙ ap power same

-- the first entry is 1, and each entry more is twice the one before
next : (k : ℕ) → k < 511 → slice_index POWER (suc k) ≡ times_x (slice_index POWER k)
unfolding times_x
next k h =
    eqb-true _ _ (agree_below_at (λ j. slice_index POWER (suc j) == times_x (slice_index POWER j)) (λ j. true) 511 k refl h)

-- the one table has the powers
pub POWER_at : (k : ℕ) → k < 512 → slice_index POWER k ≡ power k
unfolding power
POWER_at zero h = refl
POWER_at (suc k) h = next k (omega arith) ∙ ap times_x (POWER_at k (omega arith))

-- the other table has each byte's exponent
found : (a : ℕ) → 0 < a → a < 256 → slice_index POWER (slice_index LOGARITHM a) ≡ a
found a positive byte =
    elim (or_cases (a == 0) (slice_index POWER (slice_index LOGARITHM a) == a)
    (agree_below_at (λ k. (k == 0) || (slice_index POWER (slice_index LOGARITHM k) == k)) (λ k. true) 256 a refl byte)) [
      | inl none ↦ absurd (omega (arith, eqb-true a 0 none))
      | inr same ↦ eqb-true _ _ same
    ]

LOGARITHM-lt : (a : ℕ) → a < 256 → slice_index LOGARITHM a < 255
LOGARITHM-lt a byte =
    ltb-true _ _ (agree_below_at (λ k. ltb (slice_index LOGARITHM k) 255) (λ k. true) 256 a refl byte)

pub power_of_LOGARITHM : (a : ℕ) → 0 < a → a < 256 → power (slice_index LOGARITHM a) ≡ a
power_of_LOGARITHM a positive byte =
    sym (POWER_at (slice_index LOGARITHM a) (omega (arith, LOGARITHM-lt a byte))) ∙ found a positive byte

-- a product's logarithm is the sum of its factors'
pub product_by_tables : (a b : ℕ) → 0 < a → a < 256 → 0 < b → b < 256
    → slice_index POWER (slice_index LOGARITHM a + slice_index LOGARITHM b) ≡ product a b
product_by_tables a b a_positive a_byte b_positive b_byte =
    POWER_at _ (omega (arith, LOGARITHM-lt a a_byte, LOGARITHM-lt b b_byte))
    ∙ sym (power-add (slice_index LOGARITHM a) (slice_index LOGARITHM b))
    ∙ ap₂ product (power_of_LOGARITHM a a_positive a_byte) (power_of_LOGARITHM b b_positive b_byte)

-- the lowest powers are those of the number 2
low_power : (i : ℕ) → i < 8 → power i ≡ 2 ^ i
low_power i h =
    sym (POWER_at i (omega arith)) ∙ eqb-true _ _ (agree_below_at (λ j. slice_index POWER j == 2 ^ j) (λ j. true) 8 i refl h)

-- the powers from a byte's on are its products with them
pub doublings_by_tables : (a : ℕ) → 0 < a → a < 256 → HasDoublings a (chunk (slice_index LOGARITHM a) 16 POWER)
doublings_by_tables a positive byte =
    let start = slice_index LOGARITHM a in
    let within : start + 16 ≤ 512 = omega (arith, LOGARITHM-lt a byte) in record {
      long = length-chunk start 16 POWER within;
      each = λ i h.
          get_or-chunk start 16 POWER i 0 (omega arith) ∙ POWER_at (start + i) (omega arith) ∙ sym (power-add start i)
          ∙ ap₂ product (power_of_LOGARITHM a positive byte) (low_power i h);
    }

pub doublings_of_none : HasDoublings 0 (replicate 16 0)
doublings_of_none = record {
  long = length-replicate {A = ℕ} 16 0;
  each = λ i h. get_or-replicate 16 i 0 0 (omega arith) ∙ sym (product-zero_left (2 ^ i));
}

-- the 255th power is 1
power_255 : power 255 ≡ 1
power_255 = sym (POWER_at 255 (omega arith))

-- an inverse's logarithm is 255 less that of the byte
pub inverse_by_tables : (a : ℕ) → 0 < a → a < 256 → slice_index POWER (255 - slice_index LOGARITHM a) ≡ inverse a
inverse_by_tables a positive byte =
    let exponent = 255 - slice_index LOGARITHM a in
    let power_is : slice_index POWER exponent ≡ power exponent = POWER_at exponent (omega arith) in
    let whole : slice_index LOGARITHM a + exponent ≡ 255 = omega (arith, LOGARITHM-lt a byte) in
    inverse_only a (slice_index POWER exponent) positive byte (omega (arith, power_is, power-lt exponent))
    (ap₂ product (sym (power_of_LOGARITHM a positive byte)) power_is ∙ power-add (slice_index LOGARITHM a) exponent ∙ ap power whole ∙ power_255)
