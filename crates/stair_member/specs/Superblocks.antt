-- The superblocks of media, and which array stands by them.
use Rattle.std.specs.Prelude.{◌≡◌, ◌<◌, ℕ, List, Option, None, Some}
use Rattle.stair_model.specs.Device.{first_place, second_place}
use Rattle.stair_model.specs.Geometry.{Geometry}
use Rattle.stair_rack.specs.Media.{Image}
use Rattle.stair_rack.specs.Sector.{Cell, Good}
use Rattle.stair_super.specs.Newer.{IsOlder}
use Rattle.stair_super.specs.Spelling.{SpellsSuperblock}
use Rattle.stair_super.specs.Superblock.{Superblock}
use Rattle.stair_member.specs.Counting.{MoreThan}

-- the cell is good, and its bytes are those of this superblock
pub record HoldsSuper (cell : Cell) (s : Superblock) : Type 0 where
  pub bytes : List ℕ
  pub good : cell ≡ Good bytes
  pub spells : SpellsSuperblock bytes s

-- the superblock that the cell holds, None where it holds none
abbrev pub HoldsThis : Cell → Option Superblock → Type 0
HoldsThis cell None = (s : Superblock) → ¬ HoldsSuper cell s
HoldsThis cell (Some s) = HoldsSuper cell s

-- one of the two superblock places of a medium with these cells holds one, of whatever array
pub record HasSuper (cell : ℕ → Cell) : Type 0 where
  pub place : ℕ
  pub place_in : place < 2
  pub super : Superblock
  pub holds : HoldsSuper (cell place) super

-- The superblock of a medium with these cells: of those in its two places the newer one, and the first at a tie.
pub data IsSuperOf (cell : ℕ → Cell) (s : Superblock) : Type 0 where
  First : HoldsSuper (cell first_place) s
      → ((other : Superblock) → HoldsSuper (cell second_place) other → ¬ IsOlder s other)
      → IsSuperOf cell s
  Second : HoldsSuper (cell second_place) s
      → ((other : Superblock) → HoldsSuper (cell first_place) other → IsOlder other s)
      → IsSuperOf cell s

-- It is the superblock of slot j's medium and counts for this array: it names the slot in which it lies.
pub record Counts (g : Geometry) (image : Image) (j : ℕ) (s : Superblock) : Type 0 where
  pub super : IsSuperOf ((image j).cell) s
  pub slot : s.slot ≡ j
  pub identity : s.array.geometry ≡ g

-- the medium of slot j counts for this array
pub record CountsFor (g : Geometry) (image : Image) (j : ℕ) : Type 0 where
  pub super : Superblock
  pub counts : Counts g image j super

-- An array, which all of its geometry identifies, stands: more than m slots count for it.
abbrev pub Identifies : Geometry → Image → Type 0
Identifies g image = MoreThan g.m (CountsFor g image)

-- it stands, and no other one does
pub record IsOnlyIdentity (g : Geometry) (image : Image) : Type 0 where
  pub stands : Identifies g image
  pub alone : (other : Geometry) → Identifies other image → other ≡ g
