-- Products over all points but one, factor by factor.
use Rattle.std.proofs.Common.{◌≡◌, ◌≢◌, ℕ, ◌+◌, sym, ap, ap₂, ◌∙◌, arith, add-one}
use Rattle.stair_model.specs.Field.{product}
use Rattle.stair_model.specs.Sum.{product_except}
use Rattle.stair_model.proofs.ProductLaws.{field_product_none, product_except_past, product_except_last, product_except_more}

-- the product of the first n factors but number i
pub record IsProductOf (so_far n i : ℕ) (f : ℕ → ℕ) : Type 0 where
  pub is : so_far ≡ product_except n i f

pub IsProductOf-none : (i : ℕ) (f : ℕ → ℕ) → IsProductOf 1 0 i f
IsProductOf-none i f = record { is = sym (product_except_past 0 i f (omega arith) ∙ field_product_none f) }

-- the factor that is left out
pub IsProductOf-same : (so_far n i : ℕ) (f : ℕ → ℕ) → n ≡ i → IsProductOf so_far n i f → IsProductOf so_far (n + 1) i f
IsProductOf-same so_far n i f at before = record {
  is =
      before.is ∙ product_except_past n i f (omega arith) ∙ sym (product_except_last n i f at)
      ∙ ap (λ k. product_except k i f) (sym (add-one n));
}

-- one factor more
pub IsProductOf-more : (so_far n i factor : ℕ) (f : ℕ → ℕ) → n ≢ i → factor ≡ f n → IsProductOf so_far n i f
    → IsProductOf (product so_far factor) (n + 1) i f
IsProductOf-more so_far n i factor f other is before = record {
  is =
      ap₂ product before.is is ∙ sym (product_except_more n i f other)
      ∙ ap (λ k. product_except k i f) (sym (add-one n));
}
