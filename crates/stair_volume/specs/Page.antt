-- The 512 bytes of a table. All numbers are big-endian.
use Rattle.std.specs.Prelude.{◌≡◌, ℕ, ◌+◌, ◌-◌, ◌*◌, ◌^◌, ◌/◌, ◌%◌, ◌<◌, ◌&&◌, List, ◌∷◌, ◌++◌, Option, None, Some, bytes_eq, codes, drop, flat_map, length, map, replicate, slice_index, take, if◌then◌else◌}
use Rattle.std.specs.Int.{w32, w64, from_be_bytes, to_be_bytes}
use Rattle.std.specs.List.{range_with_len}
use Rattle.stair_conf.specs.Name.{IsName, padded}
use Rattle.stair_volume.specs.declared.extent.Entry.{Entry}
use Rattle.stair_volume.specs.Table.{Table, IsTable, extent_of, is_table, table_with}

-- WHAT A TABLE IS WRITTEN AS

abbrev pub zeros : ℕ → List ℕ
zeros count = replicate count 0

-- bytes 0 to 31: `STAIRVT1`, the number of entries, and zeros
abbrev pub heading : ℕ → List ℕ
heading count = codes "STAIRVT1" ++ (count ∷ zeros 23)

-- 32 bytes: the length of the name, the name in 16 bytes, two zeros, the high byte of the number of blocks, the first
-- block, and the four low bytes of the number of blocks
unfoldable pub entry_bytes : Entry → List ℕ
entry_bytes entry = length entry.name ∷ (padded entry.name
    ++ (zeros 2 ++ (entry.extent.blocks / 2 ^ 32 ∷ (to_be_bytes w64 entry.extent.first
    ++ to_be_bytes w32 (entry.extent.blocks % 2 ^ 32)))))

-- the heading, the entries in order, and zeros up to byte 512
unfoldable pub table_bytes : List Entry → List ℕ
table_bytes entries = heading (length entries)
    ++ (flat_map entry_bytes entries ++ zeros (480 - 32 * length entries))

-- The same if first block and number of blocks are below 2^32: seven zeros, and four bytes for each number.
abbrev pub small_entry_bytes : Entry → List ℕ
small_entry_bytes entry = length entry.name ∷ (padded entry.name
    ++ (zeros 7 ++ (to_be_bytes w32 entry.extent.first ++ to_be_bytes w32 entry.extent.blocks)))

-- and the table of such entries
abbrev pub small_table_bytes : List Entry → List ℕ
small_table_bytes entries = heading (length entries)
    ++ (flat_map small_entry_bytes entries ++ zeros (480 - 32 * length entries))

-- The bytes are those of a well-formed table of an array of `blocks` blocks.
pub record HasTable (blocks : ℕ) (bytes : List ℕ) (table : Table) : Type 0 where
  pub of_array : table.blocks ≡ blocks
  pub rules : IsTable table
  pub text : bytes ≡ table_bytes table.entries

-- the bytes with a field written over those from `at` on
unfoldable pub with_field : List ℕ → (at : ℕ) → (field : List ℕ) → List ℕ
with_field bytes at field = take at bytes ++ (field ++ drop (at + length field) bytes)

-- WHAT BYTES ARE READ AS

-- the number in the four bytes at a place
abbrev pub number_at : (at : ℕ) → List ℕ → ℕ
number_at at bytes = from_be_bytes w32 (take 4 (drop at bytes))

-- the number in the eight bytes at a place
abbrev pub long_at : (at : ℕ) → List ℕ → ℕ
long_at at bytes = from_be_bytes w64 (take 8 (drop at bytes))

-- the place of entry k
abbrev pub place_of : ℕ → ℕ
place_of k = 32 + 32 * k

-- the entry that the bytes hold at the place of entry k
unfoldable pub entry_at : List ℕ → ℕ → Entry
entry_at bytes k = let at = place_of k in record {
  name = take (slice_index bytes at) (drop (at + 1) bytes);
  extent = extent_of (long_at (at + 20) bytes)
      (slice_index bytes (at + 19) * 2 ^ 32 + number_at (at + 28) bytes);
}

-- One of the first `count` entries has no name.
abbrev pub HasNoName : List ℕ → (count : ℕ) → Type 0
HasNoName bytes count = (k : ℕ) × (k < count) × (¬ IsName (entry_at bytes k).name)

-- The first `count` of these entries are those that the bytes hold.
abbrev pub HasEntries : List ℕ → (count : ℕ) → List Entry → Type 0
HasEntries bytes count entries =
    take count entries ≡ map (entry_at bytes) (range_with_len 0 count)

-- the table of as many entries as byte 8 says
unfoldable pub table_at : (blocks : ℕ) → List ℕ → Table
table_at blocks bytes =
    table_with blocks (map (entry_at bytes) (range_with_len 0 (slice_index bytes 8)))

-- the table that the bytes are; None if it is not well formed or is not written as these bytes
unfoldable pub table_of : (blocks : ℕ) → List ℕ → Option Table
table_of blocks bytes = let table = table_at blocks bytes in
    if is_table table && bytes_eq bytes (table_bytes table.entries) then Some table else None
