-- The canonical stripe of Li and Lee (STAIR Codes, FAST 2014), by which the code solves: after the n chunks of a stripe
-- stand its m' intermediate chunks, and below the r rows of all these e_max rows of virtual symbols.
use Rattle.std.specs.Prelude.{◌≡◌, ℕ, ◌+◌, ◌<◌}
use Rattle.stair_model.specs.CauchyCode.{IsSystematicCodeword}
use Rattle.stair_model.specs.Codeword.{Word, row_sum, column_sum}
use Rattle.stair_model.specs.Geometry.{Geometry, classes, coverage, data_chunks, greatest_coverage}
use Rattle.stair_model.specs.Matrix.{row_coefficient, column_coefficient}

-- the chunks of a stripe and its intermediate chunks
abbrev pub canonical_chunks : Geometry → ℕ
canonical_chunks g = g.n + classes g

-- the rows of a stripe and its virtual rows
abbrev pub canonical_rows : Geometry → ℕ
canonical_rows g = g.r + greatest_coverage g

-- the row code: of n-m symbols that are held, the m row parities and then the m' intermediate symbols
abbrev pub IsRowCodeword : Geometry → (ℕ → ℕ) → Type 0
IsRowCodeword g w = IsSystematicCodeword (data_chunks g) (canonical_chunks g) (row_coefficient g) w

-- the column code: of the r symbols of a chunk, its e_max virtual symbols
abbrev pub IsColumnCodeword : Geometry → (ℕ → ℕ) → Type 0
IsColumnCodeword g w = IsSystematicCodeword g.r (canonical_rows g) (column_coefficient g) w

-- at one byte position, x is the word w of a stripe with its intermediate chunks and virtual symbols
pub record IsExtensionOf (g : Geometry) (w x : Word) : Type 0 where
  pub cells : (i j : ℕ) → i < g.r → j < g.n → x i j ≡ w i j
  -- intermediate chunk l is made row by row, by row m+l of the row matrix
  pub intermediate : (i l : ℕ) → i < g.r → l < classes g → x i (g.n + l) ≡ row_sum g w i (g.m + l)
  -- virtual symbol h of each chunk is made by row h of the column matrix
  pub virtual : (h j : ℕ) → h < greatest_coverage g → j < canonical_chunks g →
      x (g.r + h) j ≡ column_sum g (λ i. x i j) h

-- the first e_l virtual symbols of intermediate chunk l are zero, for every l
abbrev pub HasGlobalZeros : Geometry → Word → Type 0
HasGlobalZeros g x = (l h : ℕ) → l < classes g → h < coverage g l → x (g.r + h) (g.n + l) ≡ 0

-- every row is a codeword of the row code, every chunk one of the column code, and the global zeros stand
pub record IsCanonicalCodeword (g : Geometry) (x : Word) : Type 0 where
  pub rows : (i : ℕ) → i < canonical_rows g → IsRowCodeword g (λ j. x i j)
  pub chunks : (j : ℕ) → j < canonical_chunks g → IsColumnCodeword g (λ i. x i j)
  pub zeros : HasGlobalZeros g x
