-- Each geometry has one standard cost.
use Rattle.std.proofs.Common.{◌≡◌, ℕ, List, replicate, sym, ◌∙◌, ap, lit<}
use Rattle.std.proofs.lemmas.List.{length-replicate, length-set}
use Rattle.std.proofs.lemmas.List.Elements.{All-replicate, All-set}
use Rattle.stair_model.specs.Geometry.{Geometry, IsWithinLimits, data_cells}
use Rattle.stair_model.specs.Stripe.{Stripe, SECTOR, IsSector}
use Rattle.stair_model.specs.Encoding.{IsEncodingOf}
use Rattle.stair_model.specs.Costs.{unit_blocks, nonzero_parities, standard_cost, IsStandardCost}
use Rattle.stair_model.proofs.CountLaws.{sum_below_same}
use Rattle.stair_model.proofs.StripeLaws.{filled-IsSector}
use Rattle.stair_model.proofs.EncodingLaws.{encoding_exists, encoding_unique}

-- the unit blocks have an encoded stripe, also where d is no data cell
pub unit_encoding : (g : Geometry) (d : ℕ) → IsWithinLimits g → (stripe : Stripe) × IsEncodingOf g (unit_blocks g d) stripe
unit_encoding g d limits =
    encoding_exists g (unit_blocks g d) limits
    (length-set zeros d (replicate SECTOR 1) ∙ length-replicate (data_cells g) (replicate SECTOR 0))
    (All-set IsSector zeros d (replicate SECTOR 1) (filled-IsSector 1 (lit< tt))
    (All-replicate IsSector (data_cells g) (replicate SECTOR 0) (filled-IsSector 0 (lit< tt))))
  where
    zeros : List (List ℕ)
    zeros = replicate (data_cells g) (replicate SECTOR 0)

-- what these stripes cost is the standard cost, since each block list has one encoded stripe
pub standard_cost_exists : (g : Geometry) → IsWithinLimits g → (cost : ℕ) × IsStandardCost g cost
standard_cost_exists g limits = (
  standard_cost g units,
  λ encoded are.
      sum_below_same (data_cells g) (λ d. nonzero_parities g (units d)) (λ d. nonzero_parities g (encoded d))
      (λ d d_in. ap (nonzero_parities g)
      (encoding_unique g (unit_blocks g d) (units d) (encoded d) limits (unit_encoding g d limits).1 (are d d_in))),
)
  where
    units : ℕ → Stripe
    units d = (unit_encoding g d limits).0

-- and there is no other
pub standard_cost_unique : (g : Geometry) (a b : ℕ) → IsWithinLimits g → IsStandardCost g a → IsStandardCost g b → a ≡ b
standard_cost_unique g a b limits first second =
    first (λ d. (unit_encoding g d limits).0) (λ d d_in. (unit_encoding g d limits).1)
    ∙ sym (second (λ d. (unit_encoding g d limits).0) (λ d d_in. (unit_encoding g d limits).1))
