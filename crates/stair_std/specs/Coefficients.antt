-- The coefficients of the parities over the data cells.
use Rattle.std.specs.Prelude.{◌≡◌, ℕ, ◌+◌, ◌-◌, ◌*◌, ◌<◌, ◌==◌, not, IsTrue, List, length, slice_index, count_by}
use Rattle.stair_model.specs.Geometry.{Geometry, IsWithinLimits, data_cells}
use Rattle.stair_model.specs.Cell.{cell_at, is_parity}
use Rattle.stair_model.specs.Dependents.{IsFactor}
use Rattle.stair_std.specs.Cells.{parities_before}

-- a generator as contracts see it: the geometry of its stripes, and the steps of encoding one
pub record StandardCode : Type 0 where
  pub geometry : Geometry
  pub cost : ℕ

-- a byte for each parity, row or global, and each data cell
pub record Coefficients : Type 0 where
  pub geometry : Geometry
  pub bytes : List ℕ

-- the row parities and the global parities of a stripe
abbrev pub parity_cells : Geometry → ℕ
parity_cells g = g.r * g.n - data_cells g

-- where the coefficient of this parity over data cell d stands: parity by parity
abbrev pub coefficient_number : Geometry → ℕ → ℕ → ℕ
coefficient_number g parity d = parity * data_cells g + d

-- of this parity over data cell d; the parities are counted row by row
abbrev pub coefficient_of : Coefficients → ℕ → ℕ → ℕ
coefficient_of c parity d = slice_index c.bytes (coefficient_number c.geometry parity d)

-- of the parity in row i of chunk j
abbrev pub coefficient : Coefficients → ℕ → ℕ → ℕ → ℕ
coefficient c i j d = coefficient_of c (parities_before c.geometry (i * c.geometry.n + j)) d

-- each coefficient is the factor of its parity over its data cell
pub record IsGenerator (c : Coefficients) : Type 0 where
  pub limits : IsWithinLimits c.geometry
  pub count : length c.bytes ≡ parity_cells c.geometry * data_cells c.geometry
  pub factors :
      (d i j : ℕ) → d < data_cells c.geometry → i < c.geometry.r → j < c.geometry.n →
      IsTrue (is_parity (cell_at c.geometry i j)) → IsFactor c.geometry d i j (coefficient c i j d)

-- how many of them aren't zero
abbrev pub nonzero_coefficients : Coefficients → ℕ
nonzero_coefficients c = count_by (λ b. not (b == 0)) c.bytes
