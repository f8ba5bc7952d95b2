-- The laws of field_sum.
use Rattle.std.proofs.Common.{◌≡◌, ◌≢◌, ℕ, zero, suc, ◌<◌, refl, sym, ap, ap₂, ◌∙◌, inl, inr, zero-lt-suc, arith}
use Rattle.std.specs.Prelude.{bit_xor}
use Rattle.std.specs.Int.Bits.{xor_zero_r}
use Rattle.std.proofs.lemmas.Nat.{xor_lt}
use Rattle.std.proofs.lemmas.Bool.{cases_eq}
use Rattle.stair_model.specs.Field.{product}
use Rattle.stair_model.specs.Sum.{field_sum}
use Rattle.stair_model.proofs.FieldLaws.{xor_exchange, product-zero_left, product-zero_right, product-xor_left, product-xor_right}

-- no term
pub field_sum_none : (f : ℕ → ℕ) → field_sum 0 f ≡ 0
unfolding field_sum
field_sum_none f = refl

-- one term more
pub field_sum_more : (n : ℕ) (f : ℕ → ℕ) → field_sum (suc n) f ≡ bit_xor (field_sum n f) (f n)
unfolding field_sum
field_sum_more n f = refl

-- a sum of sums, term by term
pub field_sum-xor : (n : ℕ) (f g : ℕ → ℕ) → field_sum n (λ k. bit_xor (f k) (g k)) ≡ bit_xor (field_sum n f) (field_sum n g)
unfolding field_sum
field_sum-xor zero f g = refl
field_sum-xor (suc n) f g =
    ap (λ x. bit_xor x (bit_xor (f n) (g n))) (field_sum-xor n f g) ∙ xor_exchange (field_sum n f) (field_sum n g) (f n) (g n)

-- a factor on the left of each term
pub field_sum-product_left : (n c : ℕ) (f : ℕ → ℕ) → field_sum n (λ k. product c (f k)) ≡ product c (field_sum n f)
unfolding field_sum
field_sum-product_left zero c f = sym (product-zero_right c)
field_sum-product_left (suc n) c f =
    ap (λ x. bit_xor x (product c (f n))) (field_sum-product_left n c f) ∙ sym (product-xor_right c (field_sum n f) (f n))

-- a factor on the right of each term
pub field_sum-product_right : (n c : ℕ) (f : ℕ → ℕ) → field_sum n (λ k. product (f k) c) ≡ product (field_sum n f) c
unfolding field_sum
field_sum-product_right zero c f = sym (product-zero_left c)
field_sum-product_right (suc n) c f =
    ap (λ x. bit_xor x (product (f n) c)) (field_sum-product_right n c f) ∙ sym (product-xor_left (field_sum n f) (f n) c)

-- sums of the same terms are the same
pub field_sum_same : (n : ℕ) (f g : ℕ → ℕ) → ((k : ℕ) → k < n → f k ≡ g k) → field_sum n f ≡ field_sum n g
unfolding field_sum
field_sum_same zero f g same = refl
field_sum_same (suc n) f g same =
    ap₂ bit_xor (field_sum_same n f g (λ k h. same k (omega arith))) (same n (omega arith))

-- a sum of zeros is 0
pub field_sum_zero : (n : ℕ) (f : ℕ → ℕ) → ((k : ℕ) → k < n → f k ≡ 0) → field_sum n f ≡ 0
unfolding field_sum
field_sum_zero zero f none = refl
field_sum_zero (suc n) f none =
    ap₂ bit_xor (field_sum_zero n f (λ k h. none k (omega arith))) (none n (omega arith))

-- a sum with zeros beside one term is that term
pub field_sum_one_term : (n j : ℕ) (f : ℕ → ℕ) → j < n → ((k : ℕ) → k < n → k ≢ j → f k ≡ 0) → field_sum n f ≡ f j
unfolding field_sum
field_sum_one_term zero j f within others = absurd (omega arith)
field_sum_one_term (suc n) j f within others =
    elim (cases_eq j n) [
      | inl last ↦
          ap (λ x. bit_xor x (f n)) (field_sum_zero n f (λ k h. others k (omega arith) (λ e. omega arith))) ∙ ap f (sym last)
      | inr before ↦
          ap₂ bit_xor (field_sum_one_term n j f (omega arith) (λ k h. others k (omega arith))) (others n (omega arith) (λ e. before (sym e)))
          ∙ xor_zero_r (f j)
    ]

-- two sums change places
pub field_sum_exchange : (m n : ℕ) (f : ℕ → ℕ → ℕ)
    → field_sum m (λ i. field_sum n (λ j. f i j)) ≡ field_sum n (λ j. field_sum m (λ i. f i j))
unfolding field_sum
field_sum_exchange zero n f = sym (field_sum_zero n (λ j. 0) (λ k h. refl))
field_sum_exchange (suc m) n f =
    ap (λ x. bit_xor x (field_sum n (λ j. f m j))) (field_sum_exchange m n f)
    ∙ sym (field_sum-xor n (λ j. field_sum m (λ i. f i j)) (λ j. f m j))

-- a sum of bytes is a byte
pub field_sum-lt : (n : ℕ) (f : ℕ → ℕ) → ((k : ℕ) → k < n → f k < 256) → field_sum n f < 256
unfolding field_sum
field_sum-lt zero f bytes = zero-lt-suc 255
field_sum-lt (suc n) f bytes =
    xor_lt 8 (field_sum n f) (f n) (field_sum-lt n f (λ k h. bytes k (omega arith))) (bytes n (omega arith))
