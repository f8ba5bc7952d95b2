-- Where things lie on a device of the array: which sector, counted from 0, is for what. A sector holds 512 bytes.
use Rattle.std.specs.Prelude.{ℕ, ◌+◌, ◌*◌, ◌<◌, ⊤}
use Rattle.stair_model.specs.Geometry.{Geometry}

-- what a sector is for
pub data DevicePart : Type 0 where
  -- one of the two superblock places
  Superblock : ℕ → DevicePart
  -- the gate, which says whether the journal's body is to be done again
  Gate : DevicePart
  -- in the journal's body, the cell in this row of this slot's chunk
  Body : ℕ → ℕ → DevicePart
  -- of the device's chunk of this stripe, this row
  Chunk : ℕ → ℕ → DevicePart

-- the parts that a device of this geometry has
abbrev pub IsOnDevice : Geometry → DevicePart → Type 0
IsOnDevice g (Superblock place) = place < 2
IsOnDevice g Gate = ⊤
IsOnDevice g (Body row slot) = (row < g.r) × (slot < g.n)
IsOnDevice g (Chunk stripe row) = (stripe < g.stripes) × (row < g.r)

-- the two superblock places come first
abbrev pub first_place : ℕ
first_place = 0

abbrev pub second_place : ℕ
second_place = 1

-- the gate follows them
abbrev pub gate_sector : ℕ
gate_sector = 2

-- the journal's body follows the gate, with a sector for each of the n·r cells of a stripe, row by row
abbrev pub body_start : ℕ
body_start = gate_sector + 1

abbrev pub body_sector : Geometry → ℕ → ℕ → ℕ
body_sector g row slot = body_start + row * g.n + slot

-- the chunks follow the journal's body, stripe by stripe
abbrev pub chunks_start : Geometry → ℕ
chunks_start g = body_start + g.n * g.r

abbrev pub cell_sector : Geometry → ℕ → ℕ → ℕ
cell_sector g stripe row = chunks_start g + stripe * g.r + row

-- the sector of each part
abbrev pub sector_of : Geometry → DevicePart → ℕ
sector_of g (Superblock place) = place
sector_of g Gate = gate_sector
sector_of g (Body row slot) = body_sector g row slot
sector_of g (Chunk stripe row) = cell_sector g stripe row
