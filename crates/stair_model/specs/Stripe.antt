-- A stripe as its cells.
use Rattle.std.specs.Prelude.{◌≡◌, ℕ, ◌+◌, ◌*◌, ◌<◌, List, [], length, slice_index, slice_index_or, slice_set, replicate, All}
use Rattle.stair_model.specs.Geometry.{Geometry}

-- how many bytes a sector has, and so a cell and a block
abbrev pub SECTOR : ℕ
SECTOR = 512

-- the bytes of a sector
abbrev pub IsSector : List ℕ → Type 0
IsSector bytes = (length bytes ≡ SECTOR) × All (λ b. b < 256) bytes

pub record Stripe : Type 0 where
  -- sectors of a chunk
  pub rows : ℕ
  pub chunks : ℕ
  -- row by row
  pub cells : List (List ℕ)

-- the bytes of cell (i, j)
abbrev pub cell : Stripe → ℕ → ℕ → List ℕ
cell stripe i j = slice_index_or stripe.cells (i * stripe.chunks + j) []

-- byte p of each symbol of a list, a symbol being the bytes of a sector
abbrev pub symbol_byte : List (List ℕ) → ℕ → ℕ → ℕ
symbol_byte symbols p place = slice_index (slice_index_or symbols place []) p

-- byte p of cell (i, j)
abbrev pub byte_of : Stripe → ℕ → ℕ → ℕ → ℕ
byte_of stripe p i j = slice_index (cell stripe i j) p

-- the stripe with other bytes in cell (i, j)
abbrev pub with_cell : Stripe → ℕ → ℕ → List ℕ → Stripe
with_cell stripe i j bytes = record stripe {
  cells =
      slice_set stripe.cells (i * stripe.chunks + j) bytes;
}

-- the stripe of a geometry in which every byte is zero
abbrev pub zero_stripe : Geometry → Stripe
zero_stripe g = record {
  rows = g.r;
  chunks = g.n;
  cells = replicate (g.r * g.n) (replicate SECTOR 0);
}

-- the stripe is one of this geometry
pub record IsStripeOf (g : Geometry) (stripe : Stripe) : Type 0 where
  pub rows : stripe.rows ≡ g.r
  pub chunks : stripe.chunks ≡ g.n

-- each cell of the stripe has the bytes of a sector
pub record IsWellFormed (stripe : Stripe) : Type 0 where
  pub count : length stripe.cells ≡ stripe.rows * stripe.chunks
  pub sectors : All IsSector stripe.cells
