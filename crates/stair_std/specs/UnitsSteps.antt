-- Stripes of which, at each byte position, one data cell is 1 and all others are zero.
use Rattle.std.specs.Prelude.{◌≡◌, ◌≢◌, ℕ, ◌+◌, ◌*◌, ◌<◌, ◌==◌, false, IsTrue, if◌then◌else◌, List, length, slice_index}
use Rattle.stair_model.specs.Geometry.{Geometry, data_cells}
use Rattle.stair_model.specs.Codeword.{IsCodeword}
use Rattle.stair_model.specs.Stripe.{Stripe, SECTOR, IsStripeOf, IsWellFormed}
use Rattle.stair_std.specs.Cells.{is_parity_number, parities_before, blocks_before, byte_of_number}
use Rattle.stair_std.specs.Coefficients.{coefficient_number}

-- byte p of data cell d: 1 where d is first + p
abbrev pub unit_byte : ℕ → ℕ → ℕ → ℕ
unit_byte first p d = if first + p == d then 1 else 0

-- so the data cells are
pub record AreUnitBlocks (g : Geometry) (first : ℕ) (stripe : Stripe) : Type 0 where
  pub of : IsStripeOf g stripe
  pub blocks :
      (p c : ℕ) → p < SECTOR → c < g.r * g.n → is_parity_number g c ≡ false →
      byte_of_number stripe p c ≡ unit_byte first p (blocks_before g c)

-- and the stripe is a codeword
pub record AreUnits (g : Geometry) (first : ℕ) (stripe : Stripe) : Type 0 where
  pub units : AreUnitBlocks g first stripe
  pub formed : IsWellFormed stripe
  pub codeword : IsCodeword g stripe

-- the coefficients over data cell d are those bytes of the parities of the stripe, and all others are as they were
pub record HasColumnSet (g : Geometry) (stripe : Stripe) (p d : ℕ) (old new : List ℕ) : Type 0 where
  pub count : length new ≡ length old
  pub set :
      (c : ℕ) → c < g.r * g.n → IsTrue (is_parity_number g c) →
      slice_index new (coefficient_number g (parities_before g c) d) ≡ byte_of_number stripe p c
  pub kept :
      (a e : ℕ) → e < data_cells g → e ≢ d →
      slice_index new (coefficient_number g a e) ≡ slice_index old (coefficient_number g a e)
