-- The encoded stripe of some blocks.
use Rattle.std.specs.Prelude.{◌≡◌, ℕ, ◌<◌, List, [], slice_index_or}
use Rattle.stair_model.specs.Geometry.{Geometry}
use Rattle.stair_model.specs.Cell.{Data, cell_at}
use Rattle.stair_model.specs.Stripe.{Stripe, IsStripeOf, IsWellFormed, cell}
use Rattle.stair_model.specs.Codeword.{IsCodeword}

-- the stripe is a codeword of this geometry, and each of its data cells holds its block
pub record IsEncodingOf (g : Geometry) (blocks : List (List ℕ)) (stripe : Stripe) : Type 0 where
  pub of : IsStripeOf g stripe
  pub formed : IsWellFormed stripe
  pub codeword : IsCodeword g stripe
  pub holds : (i j d : ℕ) → i < g.r → j < g.n → cell_at g i j ≡ Data d →
      cell stripe i j ≡ slice_index_or blocks d []

-- each data cell has the same bytes in both stripes
abbrev pub SameData : Geometry → Stripe → Stripe → Type 0
SameData g a b = (i j d : ℕ) → i < g.r → j < g.n → cell_at g i j ≡ Data d → cell a i j ≡ cell b i j

-- a stripe that was encoded in place: its data cells are kept, and it is a codeword
pub record IsEncodedFrom (g : Geometry) (before after : Stripe) : Type 0 where
  pub of : IsStripeOf g after
  pub formed : IsWellFormed after
  pub codeword : IsCodeword g after
  pub same_data : SameData g before after
