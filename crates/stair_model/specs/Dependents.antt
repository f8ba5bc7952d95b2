-- The dependents of a data cell: the cells of a stripe that change with it.
use Rattle.std.specs.Prelude.{◌≡◌, ◌≢◌, ℕ, ◌<◌, ◌⊎◌, ◌↔◌, IsTrue, List}
use Rattle.stair_model.specs.Geometry.{Geometry}
use Rattle.stair_model.specs.Cell.{Data, cell_at, is_parity}
use Rattle.stair_model.specs.CellSet.{CellSet, HasCell}
use Rattle.stair_model.specs.Codeword.{IsCodeword}
use Rattle.stair_model.specs.Costs.{unit_blocks, is_nonzero}
use Rattle.stair_model.specs.Encoding.{IsEncodingOf}
use Rattle.stair_model.specs.Stripe.{Stripe, SECTOR, IsStripeOf, IsWellFormed, cell, byte_of}

-- where `encoded` is the encoded stripe of unit_blocks g d: cell (i, j) is data cell d, or a row
-- parity or a global parity that isn't zero in it
abbrev pub IsDependentIn : Geometry → Stripe → ℕ → ℕ → ℕ → Type 0
IsDependentIn g encoded d i j =
    (cell_at g i j ≡ Data d)
    ⊎ (IsTrue (is_parity (cell_at g i j)) × IsTrue (is_nonzero (cell encoded i j)))

-- cell (i, j) of a stripe is one of the dependents of data cell d, whatever that encoded stripe is
pub record IsDependent (g : Geometry) (d i j : ℕ) : Type 0 where
  pub row : i < g.r
  pub chunk : j < g.n
  pub in_each :
      (encoded : Stripe) → IsEncodingOf g (unit_blocks g d) encoded → IsDependentIn g encoded d i j

-- the set has all dependents of data cell d, and no other cells
abbrev pub AreDependents : Geometry → ℕ → CellSet → Type 0
AreDependents g d set = (i j : ℕ) → HasCell set i j ↔ IsDependent g d i j

-- the factor of cell (i, j) over data cell d: each byte of the cell in that encoded stripe,
-- whatever this is
abbrev pub IsFactor : Geometry → ℕ → ℕ → ℕ → ℕ → Type 0
IsFactor g d i j factor =
    (encoded : Stripe) (p : ℕ) → p < SECTOR → IsEncodingOf g (unit_blocks g d) encoded →
    byte_of encoded p i j ≡ factor

-- each data cell but d has the same bytes in both stripes
abbrev pub SameOtherData : Geometry → ℕ → Stripe → Stripe → Type 0
SameOtherData g d a b =
    (i j e : ℕ) → i < g.r → j < g.n → cell_at g i j ≡ Data e → e ≢ d → cell a i j ≡ cell b i j

-- each dependent of data cell d has the same bytes in both stripes
abbrev pub SameDependents : Geometry → ℕ → Stripe → Stripe → Type 0
SameDependents g d a b = (i j : ℕ) → IsDependent g d i j → cell a i j ≡ cell b i j

-- a codeword that has this block in data cell d, and in each other data cell what was there before
pub record HasBlockSet (g : Geometry) (d : ℕ) (block : List ℕ) (before after : Stripe)
    : Type 0 where
  pub of : IsStripeOf g after
  pub formed : IsWellFormed after
  pub codeword : IsCodeword g after
  pub holds : (i j : ℕ) → i < g.r → j < g.n → cell_at g i j ≡ Data d → cell after i j ≡ block
  pub same_data : SameOtherData g d before after

-- a stripe whose data cell d was set to this block in place: where its dependents were those of a
-- codeword, they are those of that codeword with the block set; all other cells are as they were
pub record IsUpdatedFrom (g : Geometry) (d : ℕ) (block : List ℕ) (old new : Stripe) : Type 0 where
  pub of : IsStripeOf g new
  pub formed : IsWellFormed new
  pub dependents :
      (before after : Stripe) → IsStripeOf g before → IsWellFormed before → IsCodeword g before →
      SameDependents g d before old → HasBlockSet g d block before after →
      SameDependents g d after new
  pub others : (i j : ℕ) → i < g.r → j < g.n → ¬ IsDependent g d i j → cell new i j ≡ cell old i j
