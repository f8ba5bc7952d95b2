-- The cells of a stripe in one row of numbers: cell (i, j) is number i·n + j.
use Rattle.std.specs.Prelude.{◌≡◌, ℕ, ◌+◌, ◌*◌, ◌/◌, ◌%◌, ◌<◌, Bool, IsTrue, List, [], length, slice_index_or, if◌then◌else◌}
use Rattle.stair_model.specs.Geometry.{Geometry}
use Rattle.stair_model.specs.Cell.{Cell, Data, cell_at, is_parity}
use Rattle.stair_model.specs.Stripe.{Stripe, symbol_byte}
use Rattle.stair_model.specs.Sum.{sum_below}
use Rattle.stair_std.specs.declared.cells.Part.{Part}
use Rattle.stair_std.specs.declared.cells.Part.TheVariants.{Block, Parity}

-- what the cell of this number holds
abbrev pub cell_of_number : Geometry → ℕ → Cell
cell_of_number g c = cell_at g (c / g.n) (c % g.n)

-- whether it is a row parity or a global parity
abbrev pub is_parity_number : Geometry → ℕ → Bool
is_parity_number g c = is_parity (cell_of_number g c)

-- the parities and the data cells among the first c cells
abbrev pub parities_before : Geometry → ℕ → ℕ
parities_before g c = sum_below c (λ t. if is_parity_number g t then 1 else 0)

abbrev pub blocks_before : Geometry → ℕ → ℕ
blocks_before g c = sum_below c (λ t. if is_parity_number g t then 0 else 1)

-- cell (i, j) is this part: data cell d, or the parity with so many parities before it
abbrev pub IsPart : Geometry → ℕ → ℕ → Part → Type 0
IsPart g i j (Block d) = cell_at g i j ≡ Data d
IsPart g i j (Parity a) = IsTrue (is_parity (cell_at g i j)) × (a ≡ parities_before g (i * g.n + j))

-- so is each cell, row by row
pub record AreParts (g : Geometry) (parts : List Part) : Type 0 where
  pub count : length parts ≡ g.r * g.n
  pub each :
      (i j : ℕ) → i < g.r → j < g.n →
      IsPart g i j (slice_index_or parts (i * g.n + j) (Block 0))

-- the bytes of the cell of this number, and byte p of them
abbrev pub bytes_of : Stripe → ℕ → List ℕ
bytes_of stripe c = slice_index_or stripe.cells c []

abbrev pub byte_of_number : Stripe → ℕ → ℕ → ℕ
byte_of_number stripe = symbol_byte stripe.cells
