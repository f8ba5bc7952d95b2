-- Sums in the field at each byte of a sector.
use Rattle.std.proofs.Common.{◌≡◌, ℕ, ◌+◌, ◌<◌, List, length, replicate, slice_index, sym, ap, ap₂, ◌∙◌, arith, add-one}
use Rattle.std.specs.Prelude.{bit_xor}
use Rattle.std.proofs.lemmas.List.{get_or-replicate, length-replicate}
use Rattle.stair_model.specs.Sum.{field_sum}
use Rattle.stair_model.specs.Field.{product}
use Rattle.stair_model.proofs.SumLaws.{field_sum_none, field_sum_more}
use Rattle.stair_gf.specs.AddsMultiple.{AddsMultiple}

-- at each byte p the sum of the first n terms f p 0, f p 1 and so on
pub record IsSumOf (sum : List ℕ) (n : ℕ) (f : ℕ → ℕ → ℕ) : Type 0 where
  pub long : length sum ≡ 512
  pub so_far : (p : ℕ) → p < 512 → slice_index sum p ≡ field_sum n (f p)

pub IsSumOf-none : (f : ℕ → ℕ → ℕ) → IsSumOf (replicate 512 0) 0 f
IsSumOf-none f = record {
  long = length-replicate {A = ℕ} 512 0;
  so_far = λ p h. get_or-replicate 512 p 0 0 h ∙ sym (field_sum_none (f p));
}

-- one term more
pub IsSumOf-more : (sum new from : List ℕ) (by n : ℕ) (f : ℕ → ℕ → ℕ) → IsSumOf sum n f → AddsMultiple sum new from by
    → ((p : ℕ) → p < 512 → product by (slice_index from p) ≡ f p n) → IsSumOf new (n + 1) f
IsSumOf-more sum new from by n f old adds term = record {
  long = adds.same_length ∙ old.long;
  so_far = λ p h.
      adds.bytes p (omega (arith, old.long)) ∙ ap₂ bit_xor (old.so_far p h) (term p h) ∙ sym (field_sum_more n (f p)) ∙ ap (λ k. field_sum k (f p)) (sym (add-one n));
}
