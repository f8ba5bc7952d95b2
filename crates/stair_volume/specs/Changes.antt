-- What adding a volume and removing one make of the table.
use Rattle.std.specs.Prelude.{◌≡◌, ◌≢◌, ℕ, ◌-◌, ◌<◌, ◌≤◌, true, not, List, [], ◌∷◌, ◌++◌, All, Contains, Option, None, Some, Result, Ok, Err, filter, find, is_some, length, nat_le, if◌then◌else◌}
use Rattle.std.specs.List.{range_with_len}
use Rattle.stair_volume.specs.declared.extent.Entry.{Entry}
use Rattle.stair_volume.specs.declared.extent.Extent.{Extent}
use Rattle.stair_volume.specs.declared.table_fault.TableFault.{TableFault}
use Rattle.stair_volume.specs.declared.table_fault.TableFault.TheVariants.{NoVolume, NameTaken, TableFull, NoRoom}
use Rattle.stair_volume.specs.Table.{Table, IsWithin, AreApart, end_of, extent_of, meets, find_in, is_free, is_named, table_with}

-- ROOM

-- A range is free if it is within the array and no volume has a block of it.
pub record IsFree (table : Table) (extent : Extent) : Type 0 where
  pub within : IsWithin table.blocks extent
  pub apart : All (λ entry. AreApart entry.extent extent) table.entries

-- the block at which an upward search continues: the one after a volume that has a block of the range
abbrev pub EndsMet : List Entry → Extent → (end : ℕ) → Type 0
EndsMet entries extent end = (entry : Entry) × Contains entries entry
    × (meets entry.extent extent ≡ true) × (end ≡ end_of entry.extent)

-- the least first block from which so many blocks are free
pub record IsLeastFree (table : Table) (count first : ℕ) : Type 0 where
  pub free : IsFree table (extent_of first count)
  pub least : (other : ℕ) → IsFree table (extent_of other count) → first ≤ other

-- a search for it, from block 1 on
unfoldable pub room : Table → (count : ℕ) → Option ℕ
room table count = find (λ first. is_free table.entries (extent_of first count))
    (range_with_len 1 (table.blocks - count))

-- ADDING A VOLUME

abbrev pub volume_of : (name : List ℕ) → Extent → Entry
volume_of name extent = record { name = name; extent = extent }

-- at the end of the table
abbrev pub with_entry : Table → Entry → Table
with_entry table entry = table_with table.blocks (table.entries ++ entry ∷ [])

-- where there is room
abbrev pub placed : Table → (name : List ℕ) → (count : ℕ) → Option ℕ → Result Table TableFault
placed table name count None = Err (NoRoom count)
placed table name count (Some first) = Ok (with_entry table (volume_of name (extent_of first count)))

-- the table with one volume of this name and `count` blocks added, or why it is not changed
unfoldable pub with_volume : Table → (name : List ℕ) → (count : ℕ) → Result Table TableFault
with_volume table name count =
    if is_some (find_in table.entries name) then Err NameTaken
    else (if nat_le 15 (length table.entries) then Err TableFull
    else placed table name count (room table count))

-- The new table has one more volume, at its end. It has this name and the first free range of `count` blocks.
pub record Adds (old new : Table) (name : List ℕ) (count : ℕ) : Type 0 where
  pub first : ℕ
  pub least : IsLeastFree old count first
  pub few : length old.entries < 15
  pub named_apart : All (λ entry. entry.name ≢ name) old.entries
  pub is : new ≡ with_entry old (volume_of name (extent_of first count))

-- REMOVING A VOLUME

abbrev pub without_entry : Table → (name : List ℕ) → Table
without_entry table name =
    table_with table.blocks (filter (λ entry. not (is_named name entry)) table.entries)

-- the table without the volume of this name
unfoldable pub without_volume : Table → (name : List ℕ) → Result Table TableFault
without_volume table name =
    if is_some (find_in table.entries name) then Ok (without_entry table name) else Err NoVolume

-- The new table has one volume less, the one of this name, and the others in their order.
pub record Removes (old new : Table) (name : List ℕ) : Type 0 where
  pub before : List Entry
  pub extent : Extent
  pub after : List Entry
  pub was : old.entries ≡ before ++ volume_of name extent ∷ after
  pub is : new ≡ table_with old.blocks (before ++ after)
