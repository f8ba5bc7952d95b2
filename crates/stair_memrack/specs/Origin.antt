-- What a rack in memory was made over.
use Rattle.std.specs.Prelude.{◌≡◌, ℕ, ◌+◌, ◌<◌, false, List, [], length, map, replicate, Option, None, Some, option_map, if◌then◌else◌, nat_lt, slice_index_or}
use Rattle.stair_rack.specs.Sector.{Cell, Damaged}
use Rattle.stair_rack.specs.Media.{Medium, SlotImage, Image}
use Rattle.stair_memrack.specs.declared.disk.StoredCell.{StoredCell}
use Rattle.stair_memrack.specs.declared.disk.StoredCell.TheVariants as stored
use Rattle.stair_memrack.specs.declared.disk.StoredSector.{StoredSector}
use Rattle.stair_memrack.specs.Disk.{cell_of}
use Rattle.stair_memrack.specs.Place.{PlaceState}

-- what a slot held then
pub record OriginState : Type 0 where
  -- the cells of its medium, None where it held none
  pub medium : Option (List StoredCell)
  -- those of the media in its drawer, the first that was pulled first
  pub removed : List (List StoredCell)

abbrev pub no_origin : OriginState
no_origin = record { medium = None; removed = [] }

abbrev pub origin_at : List OriginState → ℕ → OriginState
origin_at made j = slice_index_or made j no_origin

-- nothing can be read past the end, nor where there is no medium
abbrev pub cell_at : List StoredCell → ℕ → Cell
cell_at cells k = cell_of (slice_index_or cells k stored.Damaged)

abbrev pub cell_in : Option (List StoredCell) → ℕ → Cell
cell_in None k = Damaged
cell_in (Some cells) k = cell_at cells k

abbrev pub medium_over : List StoredCell → Medium
medium_over cells = record { size = length cells; cell = cell_at cells }

abbrev pub slot_over : OriginState → SlotImage
slot_over o = record {
  size = option_map length o.medium;
  cell = cell_in o.medium;
  removed = map medium_over o.removed;
}

-- the image that a rack is made over
abbrev pub image_over : List OriginState → Image
image_over made j = slot_over (origin_at made j)

-- A SLOT OVER IT

abbrev pub held : StoredCell → StoredSector
held cell = record { base = cell; now = cell; pending = 0 }

-- nothing is unsynced, and its drawer has memory for so many media more
abbrev pub place_over : ℕ → OriginState → PlaceState
place_over more o = record {
  medium = option_map (map held) o.medium;
  removed = map (map held) o.removed;
  attached = false;
  found = 0;
  room = length o.removed + more;
}

-- BLANK MEDIA

abbrev pub blank_origin : ℕ → ℕ → ℕ → OriginState
blank_origin media sectors j = record {
  medium = if nat_lt j media then Some (replicate sectors stored.Damaged) else None;
  removed = [];
}

-- the first n slots, of which the first ones hold blank media
pub record AreBlankOrigins (n media sectors : ℕ) (made : List OriginState) : Type 0 where
  pub count : length made ≡ n
  pub each : (j : ℕ) → j < n → origin_at made j ≡ blank_origin media sectors j
