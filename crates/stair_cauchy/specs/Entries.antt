-- The entries of a matrix, and the points of a Cauchy matrix.
use Rattle.std.specs.Prelude.{◌≡◌, ℕ, ◌+◌, ◌*◌, ◌<◌, List, length, slice_index, All, bit_xor}
use Rattle.stair_model.specs.Field.{inverse, product}
use Rattle.stair_model.specs.Sum.{field_sum}
use Rattle.stair_model.specs.CauchyCode.{AreBytes, AreDistinct}

pub record Entries : Type 0 where
  pub rows : ℕ
  pub columns : ℕ
  -- row by row
  pub entries : List ℕ

-- the entry in a row and a column
abbrev pub entry : Entries → ℕ → ℕ → ℕ
entry matrix i j = slice_index matrix.entries (i * matrix.columns + j)

-- no two places of the list have one entry
abbrev pub IsDistinct : List ℕ → Type 0
IsDistinct xs = AreDistinct (length xs) (slice_index xs)

-- a matrix over these points: entry (i, j) is 1/(x_i + y_j)
pub record IsCauchy (matrix : Entries) (xs ys : List ℕ) : Type 0 where
  pub rows : matrix.rows ≡ length xs
  pub columns : matrix.columns ≡ length ys
  pub entries : (i j : ℕ) → i < length xs → j < length ys →
      entry matrix i j ≡ inverse (bit_xor (slice_index xs i) (slice_index ys j))

-- equally many rows and columns of a matrix, none of them twice
pub record IsSquareChoice (matrix : Entries) (rows columns : List ℕ) : Type 0 where
  pub square : length rows ≡ length columns
  pub rows_in : All (λ i. i < matrix.rows) rows
  pub columns_in : All (λ j. j < matrix.columns) columns
  pub rows_distinct : IsDistinct rows
  pub columns_distinct : IsDistinct columns

-- each square submatrix sends no vector but zero to zero
abbrev pub SquaresAreNonsingular : Entries → Type 0
SquaresAreNonsingular matrix =
    (rows columns : List ℕ) (v : ℕ → ℕ) → IsSquareChoice matrix rows columns →
    AreBytes (length rows) v
    → ((i : ℕ) → i < length rows
    → field_sum (length rows) (λ j. product (entry matrix (slice_index rows i)
    (slice_index columns j)) (v j)) ≡ 0)
    → (j : ℕ) → j < length rows → v j ≡ 0
