-- The laws of field_product, and of product_except, which leaves one factor out.
use Rattle.std.proofs.Common.{◌≡◌, ◌≢◌, ℕ, zero, suc, ◌<◌, ◌≤◌, cond, refl, sym, ap, ap₂, ◌∙◌, inl, inr, eq-eqb, arith}
use Rattle.std.specs.Prelude.{◌==◌}
use Rattle.std.proofs.lemmas.Bool.{cases_eq, ne_eqb}
use Rattle.stair_model.specs.Field.{product}
use Rattle.stair_model.specs.Sum.{field_product, product_except}
use Rattle.stair_model.proofs.FieldLaws.{product-lt, product-pos, product-zero_left, product-zero_right, product-one_left, product-one_right, product_assoc, product_left_comm, product_right_comm}

-- no factor
pub field_product_none : (f : ℕ → ℕ) → field_product 0 f ≡ 1
unfolding field_product
field_product_none f = refl

-- one factor more
pub field_product_more : (n : ℕ) (f : ℕ → ℕ) → field_product (suc n) f ≡ product (field_product n f) (f n)
unfolding field_product
field_product_more n f = refl

-- products of the same factors are the same
pub field_product_same : (n : ℕ) (f g : ℕ → ℕ) → ((k : ℕ) → k < n → f k ≡ g k) → field_product n f ≡ field_product n g
unfolding field_product
field_product_same zero f g same = refl
field_product_same (suc n) f g same =
    ap₂ product (field_product_same n f g (λ k h. same k (omega arith))) (same n (omega arith))

-- a product is a byte
pub field_product-lt : (n : ℕ) (f : ℕ → ℕ) → field_product n f < 256
unfolding field_product
field_product-lt zero f = omega arith
field_product-lt (suc n) f = product-lt (field_product n f) (f n)

-- a product of products, factor by factor
pub field_product-product : (n : ℕ) (f g : ℕ → ℕ)
    → field_product n (λ k. product (f k) (g k)) ≡ product (field_product n f) (field_product n g)
unfolding field_product
field_product-product zero f g = sym (product-one_left 1 (omega arith))
field_product-product (suc n) f g =
    ap (λ x. product x (product (f n) (g n))) (field_product-product n f g)
    ∙ product_assoc (field_product n f) (field_product n g) (product (f n) (g n))
    ∙ ap (product (field_product n f)) (product_left_comm (field_product n g) (f n) (g n))
    ∙ sym (product_assoc (field_product n f) (f n) (product (field_product n g) (g n)))

-- a product of bytes other than 0 isn't 0
pub field_product-pos : (n : ℕ) (f : ℕ → ℕ) → ((k : ℕ) → k < n → 0 < f k) → ((k : ℕ) → k < n → f k < 256) → 0 < field_product n f
unfolding field_product
field_product-pos zero f positive bytes = omega arith
field_product-pos (suc n) f positive bytes =
    product-pos (field_product n f) (f n)
    (field_product-pos n f (λ k h. positive k (omega arith)) (λ k h. bytes k (omega arith))) (field_product-lt n f)
    (positive n (omega arith)) (bytes n (omega arith))

-- a product with a factor 0 is 0
pub field_product_zero : (n k : ℕ) (f : ℕ → ℕ) → k < n → f k ≡ 0 → field_product n f ≡ 0
unfolding field_product
field_product_zero zero k f within none = absurd (omega arith)
field_product_zero (suc n) k f within none =
    elim (cases_eq k n) [
      | inl last ↦ ap (product (field_product n f)) (ap f (sym last) ∙ none) ∙ product-zero_right (field_product n f)
      | inr before ↦ ap (λ x. product x (f n)) (field_product_zero n k f (omega arith) none) ∙ product-zero_left (f n)
    ]

-- ---- one factor left out

left_out : (i j x : ℕ) → j ≡ i → cond (j == i) 1 x ≡ 1
left_out i j x same = ap (λ b. cond b 1 x) (eq-eqb j i same)

kept : (i j x : ℕ) → j ≢ i → cond (j == i) 1 x ≡ x
kept i j x apart = ap (λ b. cond b 1 x) (ne_eqb j i apart)

-- where the factor to leave out is past the end, all are there
pub product_except_past : (n i : ℕ) (f : ℕ → ℕ) → n ≤ i → product_except n i f ≡ field_product n f
unfolding product_except
product_except_past n i f past =
    field_product_same n (λ j. cond (j == i) 1 (f j)) f (λ j h. kept i j (f j) (λ e. omega arith))

-- the last factor is the one left out
pub product_except_last : (n i : ℕ) (f : ℕ → ℕ) → n ≡ i → product_except (suc n) i f ≡ field_product n f
unfolding product_except
product_except_last n i f last =
    field_product_more n (λ j. cond (j == i) 1 (f j))
    ∙ ap₂ product (product_except_past n i f (omega arith)) (left_out i n (f n) last)
    ∙ product-one_right (field_product n f) (field_product-lt n f)

-- one factor more
pub product_except_more : (n i : ℕ) (f : ℕ → ℕ) → n ≢ i → product_except (suc n) i f ≡ product (product_except n i f) (f n)
unfolding product_except
product_except_more n i f apart =
    field_product_more n (λ j. cond (j == i) 1 (f j)) ∙ ap (product (product_except n i f)) (kept i n (f n) apart)

-- products of the same factors are the same
pub product_except_same : (n i : ℕ) (f g : ℕ → ℕ) → ((k : ℕ) → k < n → k ≢ i → f k ≡ g k) → product_except n i f ≡ product_except n i g
unfolding product_except
product_except_same n i f g same =
    field_product_same n (λ j. cond (j == i) 1 (f j)) (λ j. cond (j == i) 1 (g j)) (λ j h.
    elim (cases_eq j i) [
      | inl here ↦ left_out i j (f j) here ∙ sym (left_out i j (g j) here)
      | inr apart ↦ kept i j (f j) apart ∙ same j h apart ∙ sym (kept i j (g j) apart)
    ])

-- a product is a byte
pub product_except-lt : (n i : ℕ) (f : ℕ → ℕ) → product_except n i f < 256
unfolding product_except
product_except-lt n i f = field_product-lt n (λ j. cond (j == i) 1 (f j))

-- a product of bytes other than 0 isn't 0
pub product_except-pos : (n i : ℕ) (f : ℕ → ℕ) → ((k : ℕ) → k < n → k ≢ i → 0 < f k) → ((k : ℕ) → k < n → f k < 256)
    → 0 < product_except n i f
unfolding product_except
product_except-pos n i f positive bytes =
    field_product-pos n (λ j. cond (j == i) 1 (f j))
    (λ j h. elim (cases_eq j i) [
      | inl here ↦ omega (arith, left_out i j (f j) here)
      | inr apart ↦ omega (arith, kept i j (f j) apart, positive j h apart)
    ])
    (λ j h. elim (cases_eq j i) [
      | inl here ↦ omega (arith, left_out i j (f j) here)
      | inr apart ↦ omega (arith, kept i j (f j) apart, bytes j h)
    ])

-- a product with a factor 0 is 0
pub product_except_zero : (n i k : ℕ) (f : ℕ → ℕ) → k < n → k ≢ i → f k ≡ 0 → product_except n i f ≡ 0
unfolding product_except
product_except_zero n i k f within apart none =
    field_product_zero n k (λ j. cond (j == i) 1 (f j)) within (kept i k (f k) apart ∙ none)

-- the factor left out makes the product whole
pub product_except_whole : (n i : ℕ) (f : ℕ → ℕ) → i < n → field_product n f ≡ product (product_except n i f) (f i)
product_except_whole zero i f within = absurd (omega arith)
product_except_whole (suc n) i f within =
    elim (cases_eq n i) [
      | inl last ↦
          field_product_more n f ∙ ap₂ product (sym (product_except_last n i f last)) (ap f last)
      | inr apart ↦
          field_product_more n f ∙ ap (λ x. product x (f n)) (product_except_whole n i f (omega arith))
          ∙ product_right_comm (product_except n i f) (f i) (f n)
          ∙ ap (λ x. product x (f i)) (sym (product_except_more n i f apart))
    ]
