-- Rows and intermediate chunks of a canonical stripe that are completed, each to the one codeword of its code.
use Rattle.std.specs.Prelude.{◌≡◌, ℕ, ◌+◌, ◌-◌, ◌<◌, ◌≤◌, false}
use Rattle.stair_model.specs.Canonical.{canonical_chunks, IsRowCodeword, IsColumnCodeword}
use Rattle.stair_model.specs.Cell.{is_global}
use Rattle.stair_model.specs.Geometry.{Geometry, classes, coverage, data_chunks}
use Rattle.stair_model.specs.Stripe.{SECTOR}
use Rattle.stair_canon.specs.Canonical.{CanonicalStripe, symbol, byte_at}

-- Row i is completed from its data cells and, for each class whose global parities it has, its intermediate symbol: each
-- codeword of the row code that has these is the new row. No other row changes.
pub record CompletesRow (g : Geometry) (i : ℕ) (old new : CanonicalStripe) : Type 0 where
  pub geometry : new.geometry ≡ old.geometry
  pub others : (t j : ℕ) → ¬ (t ≡ i) → symbol new t j ≡ symbol old t j
  pub row :
      (q : ℕ) (c : ℕ → ℕ) → q < SECTOR → IsRowCodeword g c →
      ((j : ℕ) → j < data_chunks g → is_global g i j ≡ false → c j ≡ byte_at old q i j) →
      ((l : ℕ) → l < classes g → g.r - coverage g l ≤ i → c (g.n + l) ≡ byte_at old q i (g.n + l)) →
      (j : ℕ) → j < canonical_chunks g → c j ≡ byte_at new q i j

-- Intermediate chunk l is completed from its symbols above the rows of its global parities and its first e_l virtual
-- symbols: each codeword of the column code that has these has the new symbols of all these rows. No other chunk changes.
pub record CompletesChunk (g : Geometry) (l : ℕ) (old new : CanonicalStripe) : Type 0 where
  pub geometry : new.geometry ≡ old.geometry
  pub others : (i j : ℕ) → ¬ (j ≡ g.n + l) → symbol new i j ≡ symbol old i j
  pub chunk :
      (q : ℕ) (c : ℕ → ℕ) → q < SECTOR → IsColumnCodeword g c →
      ((i : ℕ) → i < g.r - coverage g l → c i ≡ byte_at old q i (g.n + l)) →
      ((h : ℕ) → h < coverage g l → c (g.r + h) ≡ byte_at old q (g.r + h) (g.n + l)) →
      (i : ℕ) → i < g.r + coverage g l → c i ≡ byte_at new q i (g.n + l)
