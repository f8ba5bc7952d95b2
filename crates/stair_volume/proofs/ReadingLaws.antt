-- Bytes are read as the one table that they are, or as none.
use Rattle.std.proofs.Common.{◌≡◌, ℕ, ◌+◌, ◌-◌, ◌*◌, ◌^◌, ◌<◌, List, [], ◌∷◌, ◌++◌, Option, None, Some, drop, get_or, length, map, refl, set, sym, take, ap, ◌∙◌, subst, arith, ◌&&◌}
use Rattle.std.specs.Prelude.{◌↔◌, bytes_eq}
use Rattle.std.specs.List.{range_with_len}
use Rattle.std.proofs.lemmas.Bool.{and_parts, and_from, cond-true}
use Rattle.std.proofs.lemmas.List.{length-drop, length-take, take_more_set}
use Rattle.std.proofs.lemmas.List.FromFn.{map-range_with_len_more}
use Rattle.std.proofs.lemmas.Option.{cond_some}
use Rattle.std.proofs.lemmas.Slice.Eq.{bytes_eq-Decides}
use Rattle.stair_conf.specs.Name.{IsName}
use Rattle.stair_volume.specs.declared.extent.Entry.{Entry}
use Rattle.stair_volume.specs.Table.{Table, IsTable, extent_of, is_table, table_with}
use Rattle.stair_volume.specs.Changes.{volume_of}
use Rattle.stair_volume.specs.Page.{HasEntries, HasNoName, HasTable, entry_at, long_at, number_at, place_of, table_at, table_bytes, table_of}
use Rattle.stair_volume.proofs.TestLaws.{Decides-table}
use Rattle.stair_volume.proofs.PageLaws.{AllHaveRoom-table, count_stands, entry_at-table_bytes, table_at-table_bytes}

-- the table that bytes are has the entries that they hold
pub table_at-is : (blocks : ℕ) (bytes : List ℕ) (table : Table) → HasTable blocks bytes table → table_at blocks bytes ≡ table
table_at-is blocks bytes table has =
    ap (table_at blocks) has.text
    ∙ table_at-table_bytes blocks table.entries (AllHaveRoom-table table has.rules)
    ∙ ap (λ (n : ℕ). table_with n table.entries) (sym has.of_array)

blocks_at : (blocks : ℕ) (bytes : List ℕ) → (table_at blocks bytes).blocks ≡ blocks
unfolding table_at
blocks_at blocks bytes = refl

-- what is read is what the bytes are
pub has_table_read : (blocks : ℕ) (bytes : List ℕ) (table : Table) → table_of blocks bytes ≡ Some table → HasTable blocks bytes table
unfolding table_of
has_table_read blocks bytes table read =
    let at = table_at blocks bytes in
    let both = cond_some (is_table at && bytes_eq bytes (table_bytes at.entries)) at table read in
    let parts = and_parts (is_table at) (bytes_eq bytes (table_bytes at.entries)) both.0 in
    record {
      of_array = ap (λ (t : Table). t.blocks) (sym both.1) ∙ blocks_at blocks bytes;
      rules = subst IsTable both.1 ((Decides-table at).0 parts.0);
      text = (bytes_eq-Decides bytes (table_bytes at.entries)).0 parts.1 ∙ ap (λ (t : Table). table_bytes t.entries) both.1;
    }

pub table_of-has_table : (blocks : ℕ) (bytes : List ℕ) (table : Table) → HasTable blocks bytes table → table_of blocks bytes ≡ Some table
unfolding table_of
table_of-has_table blocks bytes table has =
    let at = table_at blocks bytes in
    let same = table_at-is blocks bytes table has in
    let rules = (Decides-table at).1 (subst IsTable (sym same) has.rules) in
    let text = (bytes_eq-Decides bytes (table_bytes at.entries)).1 (has.text ∙ ap (λ (t : Table). table_bytes t.entries) (sym same)) in
    cond-true (is_table at && bytes_eq bytes (table_bytes at.entries)) (Some at) None (and_from _ _ rules text) ∙ ap Some same

pub table_of-is : (blocks : ℕ) (bytes : List ℕ) (table : Table) → (table_of blocks bytes ≡ Some table) ↔ HasTable blocks bytes table
table_of-is blocks bytes table = (has_table_read blocks bytes table, table_of-has_table blocks bytes table)

-- bytes are those of one table at most
pub one_table : (blocks : ℕ) (bytes : List ℕ) (a b : Table) → HasTable blocks bytes a → HasTable blocks bytes b → a ≡ b
one_table blocks bytes a b first second = sym (table_at-is blocks bytes a first) ∙ table_at-is blocks bytes b second

-- what is written has the table
pub has_table_written : (table : Table) → IsTable table → HasTable table.blocks (table_bytes table.entries) table
has_table_written table rules = record { of_array = refl; rules = rules; text = refl }

pub table_of-table_bytes : (table : Table) → IsTable table → table_of table.blocks (table_bytes table.entries) ≡ Some table
table_of-table_bytes table rules = table_of-has_table table.blocks (table_bytes table.entries) table (has_table_written table rules)

-- WHAT A READER FINDS

-- bytes that no table has
none_by_cases : (blocks : ℕ) (bytes : List ℕ) (read : Option Table) → table_of blocks bytes ≡ read → ((table : Table) → HasTable blocks bytes table → ⊥) → ◌≡◌ {A = Option Table} None (table_of blocks bytes)
none_by_cases blocks bytes None is none = sym is
none_by_cases blocks bytes (Some table) is none = absurd (none table (has_table_read blocks bytes table is))

pub none_read : (blocks : ℕ) (bytes : List ℕ) → ((table : Table) → HasTable blocks bytes table → ⊥) → ◌≡◌ {A = Option Table} None (table_of blocks bytes)
none_read blocks bytes none = none_by_cases blocks bytes (table_of blocks bytes) refl none

pub exactly_read : (blocks : ℕ) (bytes : List ℕ) (read : Option Table) → read ≡ table_of blocks bytes → (table : Table) → (read ≡ Some table) ↔ HasTable blocks bytes table
exactly_read blocks bytes read is table = (
  λ found. has_table_read blocks bytes table (sym is ∙ found),
  λ has. is ∙ table_of-has_table blocks bytes table has,
)

-- byte 8 says how many entries there are
pub count_is : (blocks : ℕ) (bytes : List ℕ) (table : Table) → HasTable blocks bytes table → get_or bytes 8 0 ≡ length table.entries
count_is blocks bytes table has = ap (λ (l : List ℕ). get_or l 8 0) has.text ∙ count_stands table.entries

-- byte 8 is at most 15
pub too_many : (blocks : ℕ) (bytes : List ℕ) → 15 < get_or bytes 8 0 → (table : Table) → HasTable blocks bytes table → ⊥
too_many blocks bytes many table has = omega (arith, has.rules.few, count_is blocks bytes table has)

-- each entry has a name
pub unnamed : (blocks : ℕ) (bytes : List ℕ) (count : ℕ) → count ≡ get_or bytes 8 0 → HasNoName bytes count → (table : Table) → HasTable blocks bytes table → ⊥
unnamed blocks bytes count counted nameless table has =
    let k = nameless.0 in
    let d = entry_at bytes k in
    let within : k < length table.entries = omega (arith, counted, nameless.1, count_is blocks bytes table has) in
    let is : entry_at bytes k ≡ get_or table.entries k d =
    ap (λ (l : List ℕ). entry_at l k) has.text ∙ entry_at-table_bytes table.entries k d (AllHaveRoom-table table has.rules) within in
    nameless.2 (subst (λ (e : Entry). IsName e.name) (sym is) (has.rules.volumes k d within).name)

-- the table has the entries that the bytes hold
pub entries_are : (blocks : ℕ) (bytes : List ℕ) (count : ℕ) (entries : List Entry) → count ≡ get_or bytes 8 0 → HasEntries bytes count entries → (table : Table) → HasTable blocks bytes table → table ≡ table_with blocks (take count entries)
unfolding table_at
entries_are blocks bytes count entries counted stand table has =
    sym (table_at-is blocks bytes table has)
    ∙ ap (λ (n : ℕ). table_with blocks (map (entry_at bytes) (range_with_len 0 n))) (sym counted)
    ∙ ap (table_with blocks) (sym stand)

-- one entry more
pub entries_more : (bytes : List ℕ) (k : ℕ) (entries : List Entry) (entry : Entry) → k < length entries → HasEntries bytes k entries → entry ≡ entry_at bytes k → HasEntries bytes (k + 1) (set entries k entry)
entries_more bytes k entries entry within so_far is =
    take_more_set entries k entry within
    ∙ ap (λ (l : List Entry). l ++ entry ∷ []) so_far
    ∙ ap (λ (e : Entry). map (entry_at bytes) (range_with_len 0 k) ++ e ∷ []) is
    ∙ sym (map-range_with_len_more (entry_at bytes) 0 k k (omega arith))

-- a name is no longer than 16 bytes
pub too_long : (bytes : List ℕ) (k : ℕ) → k < 15 → length bytes ≡ 512 → 16 < get_or bytes (place_of k) 0 → IsName (entry_at bytes k).name → ⊥
unfolding entry_at
too_long bytes k within long many named =
    let at = place_of k in
    omega (arith, named.short, length-take (get_or bytes at 0) (drop (at + 1) bytes), length-drop (at + 1) bytes)

-- the bytes of a name are as many as its first byte says
pub name_read : (bytes : List ℕ) (k count : ℕ) → count ≡ get_or bytes (place_of k) 0 → take (place_of k + 1 + count - (place_of k + 1)) (drop (place_of k + 1) bytes) ≡ (entry_at bytes k).name
unfolding entry_at
name_read bytes k count counted =
    let same : place_of k + 1 + count - (place_of k + 1) ≡ get_or bytes (place_of k) 0 = omega arith in
    ap (λ (n : ℕ). take n (drop (place_of k + 1) bytes)) same

-- the entry at a place, by its parts
pub entry_read : (bytes : List ℕ) (k : ℕ) (name : List ℕ) (first blocks : ℕ) → name ≡ (entry_at bytes k).name → first ≡ long_at (place_of k + 20) bytes → blocks ≡ get_or bytes (place_of k + 19) 0 * 2 ^ 32 + number_at (place_of k + 28) bytes → volume_of name (extent_of first blocks) ≡ entry_at bytes k
unfolding entry_at
entry_read bytes k name first blocks name_is first_is blocks_is =
    λ i. record { name = name_is i; extent = record { first = first_is i; blocks = blocks_is i } }
