-- The table of the volumes of an array, and when it is well formed.
use Rattle.std.specs.Prelude.{◌≢◌, ◌⊎◌, ℕ, ◌+◌, ◌^◌, ◌<◌, ◌≤◌, ◌==◌, ◌&&◌, ◌||◌, Bool, true, not, List, [], ◌∷◌, All, AllPairs, Option, None, Some, bytes_eq, is_none, length, nat_le, nat_lt, if◌then◌else◌}
use Rattle.std.specs.Int.{is_in_range}
use Rattle.std.specs.List.{list_all}
use Rattle.stair_conf.specs.Name.{IsName}
use Rattle.stair_volume.specs.declared.extent.Entry.{Entry}
use Rattle.stair_volume.specs.declared.extent.Extent.{Extent}

pub record Table : Type 0 where
  -- the number of blocks of the array
  pub blocks : ℕ
  -- its volumes, in the order of the table
  pub entries : List Entry

abbrev pub table_with : ℕ → List Entry → Table
table_with blocks entries = record { blocks = blocks; entries = entries }

-- EXTENTS

-- `blocks` blocks from `first` on
abbrev pub extent_of : (first blocks : ℕ) → Extent
extent_of first blocks = record { first = first; blocks = blocks }

-- the block after the last one
abbrev pub end_of : Extent → ℕ
end_of extent = extent.first + extent.blocks

-- The extent is within an array of `blocks` blocks, after block 0, which is the table.
pub record IsWithin (blocks : ℕ) (extent : Extent) : Type 0 where
  pub behind_table : 1 ≤ extent.first
  pub inside : end_of extent ≤ blocks

-- No block is in both.
abbrev pub AreApart : Extent → Extent → Type 0
AreApart a b = (end_of a ≤ b.first) ⊎ (end_of b ≤ a.first)

-- TABLES

-- The entry is a volume of an array of `blocks` blocks.
pub record IsVolume (blocks : ℕ) (entry : Entry) : Type 0 where
  pub name : IsName entry.name
  pub some : 1 ≤ entry.extent.blocks
  pub within : IsWithin blocks entry.extent

-- A table is well formed if its array has fewer than 2^37 blocks and it has at most 15 volumes. No two of them share a
-- name or a block.
pub record IsTable (table : Table) : Type 0 where
  pub size : table.blocks < 2 ^ 37
  pub few : length table.entries ≤ 15
  pub volumes : All (IsVolume table.blocks) table.entries
  pub named_apart : AllPairs (λ a b. a.name ≢ b.name) table.entries
  pub apart : AllPairs (λ a b. AreApart a.extent b.extent) table.entries

-- THE SAME AS TESTS

abbrev pub is_name_byte : ℕ → Bool
is_name_byte byte = is_in_range 97 122 byte || (is_in_range 48 57 byte || byte == 95)

abbrev pub is_name : List ℕ → Bool
is_name text = nat_lt 0 (length text) && (nat_le (length text) 16 && list_all is_name_byte text)

abbrev pub is_within : ℕ → Extent → Bool
is_within blocks extent = nat_le 1 extent.first && nat_le (end_of extent) blocks

abbrev pub is_volume : ℕ → Entry → Bool
is_volume blocks entry =
    is_name entry.name && (nat_le 1 entry.extent.blocks && is_within blocks entry.extent)

-- some block is in both
abbrev pub meets : Extent → Extent → Bool
meets a b = nat_lt a.first (end_of b) && nat_lt b.first (end_of a)

-- no volume has a block of it
abbrev pub is_free : List Entry → Extent → Bool
is_free entries extent = list_all (λ entry. not (meets entry.extent extent)) entries

abbrev pub is_named : List ℕ → Entry → Bool
is_named name entry = bytes_eq entry.name name

-- the blocks of the volume of this name
abbrev pub find_in : List Entry → (name : List ℕ) → Option Extent
find_in [] name = None
find_in (entry ∷ later) name =
    if is_named name entry then Some entry.extent else find_in later name

-- no other volume has its name or a block of it
abbrev pub is_apart : List Entry → Entry → Bool
is_apart others entry = is_none (find_in others entry.name) && is_free others entry.extent

-- each is a volume, and apart from those after it
abbrev pub are_volumes : (blocks : ℕ) → List Entry → Bool
are_volumes blocks [] = true
are_volumes blocks (entry ∷ later) =
    is_volume blocks entry && (is_apart later entry && are_volumes blocks later)

unfoldable pub is_table : Table → Bool
is_table table = nat_lt table.blocks (2 ^ 37)
    && (nat_le (length table.entries) 15 && are_volumes table.blocks table.entries)
