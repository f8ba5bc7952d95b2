-- What the calls make of a canonical stripe.
use Rattle.std.specs.Prelude.{◌≡◌, ℕ, ◌<◌, ◌≤◌, ◌⊎◌, ◌↔◌, List, replicate, All, Contains}
use Rattle.stair_model.specs.Canonical.{canonical_chunks, canonical_rows, IsRowCodeword, IsColumnCodeword}
use Rattle.stair_model.specs.CauchyCode.{AreSolved}
use Rattle.stair_model.specs.Geometry.{Geometry, data_chunks}
use Rattle.stair_model.specs.Stripe.{Stripe, SECTOR, cell}
use Rattle.stair_mds.specs.Solving.{Shape}
use Rattle.stair_canon.specs.Canonical.{CanonicalStripe, symbol, byte_at, IsKnown}

-- the row code and the column code of a geometry
abbrev pub row_shape : Geometry → Shape
row_shape g = record { held = data_chunks g; total = canonical_chunks g }

abbrev pub column_shape : Geometry → Shape
column_shape g = record { held = g.r; total = canonical_rows g }

-- row i of column j is a cell of the stripe
abbrev pub IsCell : Geometry → ℕ → ℕ → Type 0
IsCell g i j = (i < g.r) × (j < g.n)

-- the cells are those of the stripe, and known; all other symbols are zero, and not known
pub record Loads (stripe : Stripe) (old new : CanonicalStripe) : Type 0 where
  pub geometry : new.geometry ≡ old.geometry
  pub cells : (i j : ℕ) → IsCell old.geometry i j → symbol new i j ≡ cell stripe i j
  pub others :
      (i j : ℕ) → i < canonical_rows old.geometry → j < canonical_chunks old.geometry →
      ¬ IsCell old.geometry i j →
      symbol new i j ≡ replicate SECTOR 0
  pub known :
      (i j : ℕ) → i < canonical_rows old.geometry → j < canonical_chunks old.geometry →
      IsKnown new i j ↔ IsCell old.geometry i j

-- nothing but the solved symbols changes, and those are known from then on
pub record ChangesOnly (IsSolved : ℕ → ℕ → Type 0) (old new : CanonicalStripe) : Type 0 where
  pub geometry : new.geometry ≡ old.geometry
  pub others : (i j : ℕ) → ¬ IsSolved i j → symbol new i j ≡ symbol old i j
  pub known : (i j : ℕ) → IsKnown new i j ↔ (IsKnown old i j ⊎ IsSolved i j)

-- the wanted symbols of a row are those of the one codeword of the row code that has the known ones
pub record SolvesRow (row : ℕ) (known wanted : List ℕ) (old new : CanonicalStripe) : Type 0 where
  pub symbols : AreSolved (IsRowCodeword old.geometry) known wanted (λ q j. byte_at old q row j)
      (λ q j. byte_at new q row j)
  pub changes : ChangesOnly (λ i j. (i ≡ row) × Contains wanted j) old new

-- the same of each of these rows
pub record SolvesRows (rows known wanted : List ℕ) (old new : CanonicalStripe) : Type 0 where
  pub symbols : All (λ row. AreSolved (IsRowCodeword old.geometry) known wanted
      (λ q j. byte_at old q row j) (λ q j. byte_at new q row j)) rows
  pub changes : ChangesOnly (λ i j. Contains rows i × Contains wanted j) old new

-- the wanted symbols of a chunk are those of the one codeword of the column code that has the known ones
pub record SolvesChunk (column : ℕ) (known wanted : List ℕ) (old new : CanonicalStripe)
    : Type 0 where
  pub symbols : AreSolved (IsColumnCodeword old.geometry) known wanted
      (λ q i. byte_at old q i column) (λ q i. byte_at new q i column)
  pub changes : ChangesOnly (λ i j. Contains wanted i × (j ≡ column)) old new

-- the chunk's virtual symbols are those of its r real ones
pub record ExtendsChunk (column : ℕ) (old new : CanonicalStripe) : Type 0 where
  pub symbols : (q : ℕ) → q < SECTOR → IsColumnCodeword old.geometry (λ i. byte_at new q i column)
  pub changes : ChangesOnly (λ i j. (old.geometry.r ≤ i) × (i < canonical_rows old.geometry)
      × (j ≡ column)) old new
