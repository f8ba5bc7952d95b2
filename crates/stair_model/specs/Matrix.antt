-- The two Cauchy matrices of the code.
use Rattle.std.specs.Prelude.{ℕ}
use Rattle.stair_model.specs.Geometry.{Geometry, data_chunks}
use Rattle.stair_model.specs.CauchyCode.{coefficient}

-- of row parity k, or from k = m on of intermediate chunk k - m, over chunk j: A[k][j] = 1/((n-m+k) + j)
abbrev pub row_coefficient : Geometry → ℕ → ℕ → ℕ
row_coefficient g k j = coefficient (data_chunks g) k j

-- of virtual row h over row i: B[h][i] = 1/((r+h) + i)
abbrev pub column_coefficient : Geometry → ℕ → ℕ → ℕ
column_coefficient g h i = coefficient g.r h i
