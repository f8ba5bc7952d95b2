-- The media of a rack, as a crash leaves them and as they lie outside.
use Rattle.std.specs.Prelude.{ℕ, Bool, false, List, Option, None, Some, nat_lt, if◌then◌else◌}
use Rattle.stair_rack.specs.Sector.{Cell, Sector, settled, damaged}

-- a medium that lies outside a slot
pub record Medium : Type 0 where
  -- its number of sectors
  pub size : ℕ
  pub cell : ℕ → Cell

-- a slot as a crash leaves it
pub record SlotImage : Type 0 where
  -- the number of sectors of its medium, None where it holds none
  pub size : Option ℕ
  pub cell : ℕ → Cell
  -- the media that were pulled from the slot and aren't back in it, the first of them first
  pub removed : List Medium

-- what a crash leaves of each slot
abbrev pub Image : Type 0
Image = ℕ → SlotImage

-- a medium of this size, None where there is none, has the sector
abbrev pub has_sector : Option ℕ → ℕ → Bool
has_sector None k = false
has_sector (Some size) k = nat_lt k size

-- these cells as the sectors of a medium of this size: nothing can be read past its end, or where there is no medium
abbrev pub sectors_of : Option ℕ → (ℕ → Cell) → ℕ → Sector
sectors_of size cell k = if has_sector size k then settled (cell k) else damaged
