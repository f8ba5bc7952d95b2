-- What is kept of a table.
use Rattle.std.proofs.Common.{◌≡◌, ℕ, ◌<◌, ◌≤◌, not, false, List, Option, None, Some, Ok, length, take, refl, sym, ap, ◌∙◌, arith}
use Rattle.std.specs.Prelude.{filter, is_some, option_map}
use Rattle.std.proofs.lemmas.List.{length-take-le}
use Rattle.std.proofs.lemmas.Option.{none-some, same_Some}
use Rattle.stair_conf.specs.Name.{IsName}
use Rattle.stair_volume.specs.declared.extent.Entry.{Entry}
use Rattle.stair_volume.specs.declared.extent.Extent.{Extent}
use Rattle.stair_volume.specs.declared.table.Table.TheInside.{Inside}
use Rattle.stair_volume.specs.Table.{Table, IsTable, extent_of, find_in, is_named}
use Rattle.stair_volume.specs.StoredTable.{IsStored, shown}
use Rattle.stair_volume.specs.Changes.{room, volume_of, with_entry, with_volume, without_entry}
use Rattle.stair_volume.proofs.ChangeLaws.{IsTable-added, added_by_with, with_volume-placed}

-- as many entries as are counted
pub length-shown : (a : Inside) (table : Table) → IsStored a → shown a ≡ table → length table.entries ≡ a.len
length-shown a table stored same = sym (ap (λ (t : Table). length t.entries) same) ∙ length-take-le a.len a.entries (omega (arith, stored.count, stored.whole))

-- the least first block, and its blocks
record IsPlaced (count : ℕ) (place : Option ℕ) (extent : Extent) : Type 0 where
  first : ℕ
  is : place ≡ Some first
  there : extent ≡ extent_of first count

placed_extent : (count : ℕ) (place : Option ℕ) (extent : Extent) → option_map (λ first. extent_of first count) place ≡ Some extent → IsPlaced count place extent
placed_extent count None extent same = absurd (none-some extent same)
placed_extent count (Some first) extent same = record { first = first; is = refl; there = sym (same_Some (extent_of first count) extent same) }

-- a volume that was put there
pub with_volume-there : (table : Table) (name : List ℕ) (count : ℕ) (extent : Extent) → is_some (find_in table.entries name) ≡ false → length table.entries < 15 → option_map (λ first. extent_of first count) (room table count) ≡ Some extent → with_volume table name count ≡ Ok (with_entry table (volume_of name extent))
with_volume-there table name count extent other few same =
    let there = placed_extent count (room table count) extent same in
    with_volume-placed table name count (Some there.first) other few there.is
    ∙ ap (λ (e : Extent). Ok (with_entry table (volume_of name e))) (sym there.there)

pub IsTable-there : (table : Table) (name : List ℕ) (count : ℕ) (extent : Extent) → IsTable table → IsName name → 1 ≤ count → is_some (find_in table.entries name) ≡ false → length table.entries < 15 → option_map (λ first. extent_of first count) (room table count) ≡ Some extent → IsTable (with_entry table (volume_of name extent))
IsTable-there table name count extent rules is_name some other few same =
    IsTable-added table (with_entry table (volume_of name extent)) name count rules is_name some
    (added_by_with table (with_entry table (volume_of name extent)) name count (with_volume-there table name count extent other few same))

-- those of another name are kept
pub shown-without : (a : Inside) (table : Table) (name : List ℕ) (entries : List Entry) (len : ℕ) → shown a ≡ table → take len entries ≡ filter (λ entry. not (is_named name entry)) table.entries → shown (record a { len = len; entries = entries }) ≡ without_entry table name
shown-without a table name entries len same kept =
    let blocks = ap (λ (t : Table). t.blocks) same in
    λ i. record { blocks = blocks i; entries = kept i }

pub no_extent : (count : ℕ) (place : Option ℕ) → ◌≡◌ {A = Option Extent} (option_map (λ first. extent_of first count) place) None → place ≡ None
no_extent count None same = refl
no_extent count (Some first) same = cc
