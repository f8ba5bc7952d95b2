-- The equations of the code.
use Rattle.std.specs.Prelude.{◌≡◌, ℕ, ◌+◌, ◌<◌}
use Rattle.stair_model.specs.Sum.{field_sum}
use Rattle.stair_model.specs.Field.{product}
use Rattle.stair_model.specs.Geometry.{Geometry, classes, coverage, data_chunks}
use Rattle.stair_model.specs.Matrix.{row_coefficient, column_coefficient}
use Rattle.stair_model.specs.Stripe.{Stripe, SECTOR, byte_of}

-- The bytes of a stripe at one position: row and chunk to byte.
abbrev pub Word : Type 0
Word = ℕ → ℕ → ℕ

-- row k of the row matrix over row i: the sum over j < n-m of A[k][j]·cell(i, j)
abbrev pub row_sum : Geometry → Word → ℕ → ℕ → ℕ
row_sum g w i k = field_sum (data_chunks g) (λ j. product (row_coefficient g k j) (w i j))

-- row parity k of row i is row k of the row matrix over it
abbrev pub IsRowEquation : Geometry → Word → ℕ → ℕ → Type 0
IsRowEquation g w i k = w i (data_chunks g + k) ≡ row_sum g w i k

-- row h of the column matrix over the symbols of a chunk: the sum over i < r of B[h][i]·symbol(i)
abbrev pub column_sum : Geometry → (ℕ → ℕ) → ℕ → ℕ
column_sum g symbol h = field_sum g.r (λ i. product (column_coefficient g h i) (symbol i))

-- row h of the column matrix over intermediate chunk l, whose symbols are row m+l of the row matrix over each row
abbrev pub global_sum : Geometry → Word → ℕ → ℕ → ℕ
global_sum g w l h = column_sum g (λ i. row_sum g w i (g.m + l)) h

-- virtual symbol h of intermediate chunk l is zero
abbrev pub IsGlobalEquation : Geometry → Word → ℕ → ℕ → Type 0
IsGlobalEquation g w l h = global_sum g w l h ≡ 0

-- all row equations hold
abbrev pub MeetsRowEquations : Geometry → Word → Type 0
MeetsRowEquations g w = (i k : ℕ) → i < g.r → k < g.m → IsRowEquation g w i k

-- all global equations hold
abbrev pub MeetsGlobalEquations : Geometry → Word → Type 0
MeetsGlobalEquations g w = (l h : ℕ) → l < classes g → h < coverage g l → IsGlobalEquation g w l h

-- the word meets all equations
pub record MeetsEquations (g : Geometry) (w : Word) : Type 0 where
  pub rows : MeetsRowEquations g w
  pub globals : MeetsGlobalEquations g w

-- so does the stripe at each byte position
pub record IsCodeword (g : Geometry) (stripe : Stripe) : Type 0 where
  pub words : (p : ℕ) → p < SECTOR → MeetsEquations g (byte_of stripe p)
