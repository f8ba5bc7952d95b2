-- The place of each entry in the bytes of a table, and what is read there.
use Rattle.std.proofs.Common.{◌≡◌, ℕ, zero, suc, ◌+◌, ◌-◌, ◌*◌, ◌<◌, ◌≤◌, ◌^◌, ◌/◌, ◌%◌, List, [], ◌∷◌, ◌++◌, length, get_or, take, drop, map, replicate, refl, sym, ap, ◌∙◌, append_assoc, arith, add-zero, ltb, true}
use Rattle.std.specs.Prelude.{All, codes, flat_map}
use Rattle.std.specs.Int.{w32, w64, byte_at, bytes_high_first, from_be_bytes, to_be_bytes}
use Rattle.std.specs.List.{range_with_len}
use Rattle.std.proofs.lemmas.Nat.{div-add-mod', div_below, from_be_bytes-to_be_bytes_4, from_be_bytes-to_be_bytes_8, mod_below}
use Rattle.std.proofs.lemmas.List.{take_at, drop_at, drop-drop, get_or-drop, length-append, length-replicate}
use Rattle.std.proofs.lemmas.List.Elements.{All-nil, All-cons, All-append, All-replicate, All-weaker, All-head, All-tail}
use Rattle.std.proofs.lemmas.List.FromFn.{fill_by_all}
use Rattle.std.proofs.lemmas.List.Sums.{AllPass-from_list_all}
use Rattle.std.proofs.lemmas.Bool.{leb-true, ltb-true}
use Rattle.stair_conf.specs.Name.{IsName, IsNameByte, padded}
use Rattle.stair_volume.specs.declared.extent.Entry.{Entry}
use Rattle.stair_volume.specs.Table.{Table, IsTable, table_with}
use Rattle.stair_volume.specs.Page.{zeros, heading, entry_bytes, table_bytes, long_at, number_at, place_of, entry_at, small_entry_bytes, small_table_bytes, table_at}

-- an entry's name and numbers have room in its 32 bytes
pub record HasRoom (entry : Entry) : Type 0 where
  pub name : length entry.name ≤ 16
  pub first : entry.extent.first < 2 ^ 64
  pub blocks : entry.extent.blocks < 2 ^ 40

-- the entries of a table have
pub AllHaveRoom-table : (table : Table) → IsTable table → All HasRoom table.entries
AllHaveRoom-table table rules k d lt =
    let volume = rules.volumes k d lt in
    record {
      name = volume.name.short;
      first = omega (arith, volume.within.inside, rules.size);
      blocks = omega (arith, volume.within.inside, rules.size);
    }

length-padded : (text : List ℕ) → length text ≤ 16 → length (padded text) ≡ 16
length-padded text short = omega (arith, length-append text (replicate (16 - length text) 0), length-replicate {A = ℕ} (16 - length text) 0)

pub length-entry_bytes : (entry : Entry) → length entry.name ≤ 16 → length (entry_bytes entry) ≡ 32
unfolding entry_bytes
length-entry_bytes entry short = omega (
  arith,
  length-append (padded entry.name) (zeros 2 ++ (entry.extent.blocks / 2 ^ 32 ∷ (to_be_bytes w64 entry.extent.first ++ to_be_bytes w32 (entry.extent.blocks % 2 ^ 32)))),
  length-padded entry.name short,
)

pub length-entries : (entries : List Entry) → All HasRoom entries → length (flat_map entry_bytes entries) ≡ 32 * length entries
length-entries [] room = refl
length-entries (entry ∷ later) room =
    omega (
      arith,
      length-append (entry_bytes entry) (flat_map entry_bytes later),
      length-entry_bytes entry (All-head HasRoom entry later room).name,
      length-entries later (All-tail HasRoom entry later room),
    )

pub length-heading : (count : ℕ) → length (heading count) ≡ 32
length-heading count = refl

pub length-table_bytes : (entries : List Entry) → All HasRoom entries → length entries ≤ 15 → length (table_bytes entries) ≡ 512
unfolding table_bytes
length-table_bytes entries room few = omega (
  arith,
  length-append (heading (length entries)) (flat_map entry_bytes entries ++ zeros (480 - 32 * length entries)),
  length-heading (length entries),
  length-append (flat_map entry_bytes entries) (zeros (480 - 32 * length entries)),
  length-entries entries room,
  length-replicate {A = ℕ} (480 - 32 * length entries) 0,
)

-- the bytes from a place on are an entry and a rest
pub record StandsAt (bytes : List ℕ) (at : ℕ) (entry : Entry) : Type 0 where
  pub rest : List ℕ
  pub text : drop at bytes ≡ entry_bytes entry ++ rest

among : (entries : List Entry) (k : ℕ) (d : Entry) (rest : List ℕ) → All HasRoom entries → k < length entries → StandsAt (flat_map entry_bytes entries ++ rest) (32 * k) (get_or entries k d)
among [] k d rest room lt = absurd (omega arith)
among (entry ∷ later) zero d rest room lt = record {
  rest = flat_map entry_bytes later ++ rest;
  text = append_assoc (entry_bytes entry) (flat_map entry_bytes later) rest;
}
among (entry ∷ later) (suc k) d rest room lt =
    let behind = among later k d rest (All-tail HasRoom entry later room) (omega arith) in
    let long = length-entry_bytes entry (All-head HasRoom entry later room).name in
    let there : 32 * suc k ≡ 32 + 32 * k = omega arith in
    record {
      rest = behind.rest;
      text =
          ap (λ (n : ℕ). drop n ((entry_bytes entry ++ flat_map entry_bytes later) ++ rest)) there
          ∙ ap (λ (l : List ℕ). drop (32 + 32 * k) l) (append_assoc (entry_bytes entry) (flat_map entry_bytes later) rest)
          ∙ sym (drop-drop (32 * k) 32 (entry_bytes entry ++ (flat_map entry_bytes later ++ rest)))
          ∙ ap (λ (l : List ℕ). drop (32 * k) l) (drop_at (entry_bytes entry) (flat_map entry_bytes later ++ rest) 32 long)
          ∙ behind.text;
    }

-- the bytes hold entry k at its place
pub stands_at_place : (entries : List Entry) (k : ℕ) (d : Entry) → All HasRoom entries → k < length entries → StandsAt (table_bytes entries) (place_of k) (get_or entries k d)
unfolding table_bytes
stands_at_place entries k d room lt =
    let rest = zeros (480 - 32 * length entries) in
    let here = among entries k d rest room lt in
    record {
      rest = here.rest;
      text =
          sym (drop-drop (32 * k) 32 (heading (length entries) ++ (flat_map entry_bytes entries ++ rest)))
          ∙ ap (λ (l : List ℕ). drop (32 * k) l) (drop_at (heading (length entries)) (flat_map entry_bytes entries ++ rest) 32 (length-heading (length entries)))
          ∙ here.text;
    }

-- byte 8 is the number of entries
pub count_stands : (entries : List Entry) → get_or (table_bytes entries) 8 0 ≡ length entries
unfolding table_bytes
count_stands entries = refl

-- the bytes from a place on are the field and a rest
field_at : (bytes field rest : List ℕ) (at size : ℕ) → drop at bytes ≡ field ++ rest → length field ≡ size → take size (drop at bytes) ≡ field
field_at bytes field rest at size here sized = ap (λ (l : List ℕ). take size l) here ∙ take_at field rest size sized

behind : (bytes field rest : List ℕ) (at size next : ℕ) → drop at bytes ≡ field ++ rest → length field ≡ size → at + size ≡ next → drop next bytes ≡ rest
behind bytes field rest at size next here sized there =
    ap (λ (n : ℕ). drop n bytes) (sym there)
    ∙ sym (drop-drop size at bytes)
    ∙ ap (λ (l : List ℕ). drop size l) here
    ∙ drop_at field rest size sized

number_back : (bytes rest : List ℕ) (at n : ℕ) → drop at bytes ≡ to_be_bytes w32 n ++ rest → n < 2 ^ 32 → number_at at bytes ≡ n
number_back bytes rest at n here fits =
    ap (λ (l : List ℕ). from_be_bytes w32 l) (field_at bytes (to_be_bytes w32 n) rest at 4 here refl)
    ∙ from_be_bytes-to_be_bytes_4 n fits

long_back : (bytes rest : List ℕ) (at n : ℕ) → drop at bytes ≡ to_be_bytes w64 n ++ rest → n < 2 ^ 64 → long_at at bytes ≡ n
long_back bytes rest at n here fits =
    ap (λ (l : List ℕ). from_be_bytes w64 l) (field_at bytes (to_be_bytes w64 n) rest at 8 here refl)
    ∙ from_be_bytes-to_be_bytes_8 n fits

-- the byte at a place
byte_back : (bytes rest : List ℕ) (at byte : ℕ) → drop at bytes ≡ byte ∷ rest → get_or bytes at 0 ≡ byte
byte_back bytes rest at byte here =
    ap (λ (n : ℕ). get_or bytes n 0) (sym (add-zero at)) ∙ sym (get_or-drop at bytes 0 0) ∙ ap (λ (l : List ℕ). get_or l 0 0) here

-- a number by its high and its low part
parts_back : (high low n : ℕ) → high ≡ n / 2 ^ 32 → low ≡ n % 2 ^ 32 → high * 2 ^ 32 + low ≡ n
parts_back high low n high_is low_is =
    ap (λ (m : ℕ). m * 2 ^ 32 + low) high_is ∙ ap (λ (m : ℕ). n / 2 ^ 32 * 2 ^ 32 + m) low_is ∙ div-add-mod' n (2 ^ 32)

low_fits : (n : ℕ) → n % 2 ^ 32 < 2 ^ 32
low_fits n = mod_below n (2 ^ 32) (omega arith)

high_fits : (n : ℕ) → n < 2 ^ 40 → n / 2 ^ 32 < 256
high_fits n fits = div_below n (2 ^ 32) 256 (omega arith) fits

five : (a b c d x : List ℕ) (byte : ℕ) → (a ++ (b ++ (byte ∷ (c ++ d)))) ++ x ≡ a ++ (b ++ (byte ∷ (c ++ (d ++ x))))
five a b c d x byte = simp append_assoc

-- an entry is read from the place where the bytes hold it
pub entry_at-place : (bytes : List ℕ) (k : ℕ) (entry : Entry) → HasRoom entry → StandsAt bytes (place_of k) entry → entry_at bytes k ≡ entry
unfolding entry_at entry_bytes
entry_at-place bytes k entry room here =
    let at = place_of k in
    let name = entry.name in
    let high = entry.extent.blocks / 2 ^ 32 in
    let first = to_be_bytes w64 entry.extent.first in
    let low = to_be_bytes w32 (entry.extent.blocks % 2 ^ 32) in
    let at0 : drop at bytes ≡ length name ∷ (padded name ++ (zeros 2 ++ (high ∷ (first ++ (low ++ here.rest))))) =
    here.text ∙ ap (λ (l : List ℕ). length name ∷ l) (five (padded name) (zeros 2) first low here.rest high) in
    let at1 = behind bytes (length name ∷ []) (padded name ++ (zeros 2 ++ (high ∷ (first ++ (low ++ here.rest))))) at 1 (at + 1) at0 refl refl in
    let at17 = behind bytes (padded name) _ (at + 1) 16 (at + 17) at1 (length-padded name room.name) (omega arith) in
    let at19 = behind bytes (zeros 2) _ (at + 17) 2 (at + 19) at17 refl (omega arith) in
    let at20 = behind bytes (high ∷ []) (first ++ (low ++ here.rest)) (at + 19) 1 (at + 20) at19 refl (omega arith) in
    let at28 = behind bytes first _ (at + 20) 8 (at + 28) at20 refl (omega arith) in
    let count = byte_back bytes _ at (length name) at0 in
    let text : take (get_or bytes at 0) (drop (at + 1) bytes) ≡ name =
    ap (λ (n : ℕ). take n (drop (at + 1) bytes)) count
    ∙ field_at bytes name (replicate (16 - length name) 0 ++ (zeros 2 ++ (high ∷ (first ++ (low ++ here.rest))))) (at + 1) (length name) (at1 ∙ append_assoc name (replicate (16 - length name) 0) (zeros 2 ++ (high ∷ (first ++ (low ++ here.rest))))) refl in
    let first_is = long_back bytes (low ++ here.rest) (at + 20) entry.extent.first at20 room.first in
    let low_is = number_back bytes here.rest (at + 28) (entry.extent.blocks % 2 ^ 32) at28 (low_fits entry.extent.blocks) in
    let blocks_is = parts_back _ _ entry.extent.blocks (byte_back bytes (first ++ (low ++ here.rest)) (at + 19) high at19) low_is in
    λ i. record { name = text i; extent = record { first = first_is i; blocks = blocks_is i } }

-- each entry of a table is read from its bytes
pub entry_at-table_bytes : (entries : List Entry) (k : ℕ) (d : Entry) → All HasRoom entries → k < length entries → entry_at (table_bytes entries) k ≡ get_or entries k d
entry_at-table_bytes entries k d room lt = entry_at-place (table_bytes entries) k (get_or entries k d) (room k d lt) (stands_at_place entries k d room lt)

-- all entries are read
pub entries_read : (entries : List Entry) → All HasRoom entries → map (entry_at (table_bytes entries)) (range_with_len 0 (length entries)) ≡ entries
entries_read [] room = refl
entries_read (entry ∷ later) room =
    let entries = entry ∷ later in
    sym (fill_by_all (entry_at (table_bytes entries)) entries (length entries) entry refl (λ k lt. sym (entry_at-table_bytes entries k entry room lt)))

pub table_at-table_bytes : (blocks : ℕ) (entries : List Entry) → All HasRoom entries → table_at blocks (table_bytes entries) ≡ table_with blocks entries
unfolding table_at
table_at-table_bytes blocks entries room =
    ap (λ (n : ℕ). table_with blocks (map (entry_at (table_bytes entries)) (range_with_len 0 n))) (count_stands entries)
    ∙ ap (λ (l : List Entry). table_with blocks l) (entries_read entries room)

-- ALL ARE BYTES

byte_fits : (k n : ℕ) → byte_at k n < 256
byte_fits zero n = mod_below n 256 (omega arith)
byte_fits (suc k) n = mod_below (n / 256 ^ suc k) 256 (omega arith)

high_first_is_bytes : (k n : ℕ) → All (λ byte. byte < 256) (bytes_high_first k n)
high_first_is_bytes zero n = All-nil (λ byte. byte < 256)
high_first_is_bytes (suc k) n = All-cons (λ byte. byte < 256) (byte_at k n) (bytes_high_first k n) (byte_fits k n) (high_first_is_bytes k n)

name_is_bytes : (text : List ℕ) → IsName text → All (λ byte. byte < 256) text
name_is_bytes text rules = All-weaker IsNameByte (λ byte. byte < 256) (λ byte h. name_byte byte h) text rules.bytes where
  name_byte : (byte : ℕ) → IsNameByte byte → byte < 256
  name_byte byte h = omega arith

entry_is_bytes : (entry : Entry) → IsName entry.name → HasRoom entry → All (λ byte. byte < 256) (entry_bytes entry)
unfolding entry_bytes
entry_is_bytes entry rules room =
    let P : ℕ → Type 0 = λ byte. byte < 256 in
    let zero_fits : 0 < 256 = omega arith in
    let high = entry.extent.blocks / 2 ^ 32 in
    let first = to_be_bytes w64 entry.extent.first in
    let low = to_be_bytes w32 (entry.extent.blocks % 2 ^ 32) in
    All-cons P (length entry.name) (padded entry.name ++ (zeros 2 ++ (high ∷ (first ++ low)))) (omega (arith, rules.short))
    (All-append P (padded entry.name) (zeros 2 ++ (high ∷ (first ++ low)))
    (All-append P entry.name (replicate (16 - length entry.name) 0) (name_is_bytes entry.name rules) (All-replicate P (16 - length entry.name) 0 zero_fits))
    (All-append P (zeros 2) (high ∷ (first ++ low)) (All-replicate P 2 0 zero_fits)
    (All-cons P high (first ++ low) (high_fits entry.extent.blocks room.blocks)
    (All-append P first low (high_first_is_bytes 8 entry.extent.first) (high_first_is_bytes 4 (entry.extent.blocks % 2 ^ 32))))))

entries_are_bytes : (entries : List Entry) → All (λ entry. IsName entry.name) entries → All HasRoom entries → All (λ byte. byte < 256) (flat_map entry_bytes entries)
entries_are_bytes [] named room = All-nil (λ byte. byte < 256)
entries_are_bytes (entry ∷ later) named room =
    All-append (λ byte. byte < 256) (entry_bytes entry) (flat_map entry_bytes later)
    (entry_is_bytes entry (All-head (λ (e : Entry). IsName e.name) entry later named) (All-head HasRoom entry later room))
    (entries_are_bytes later (All-tail (λ (e : Entry). IsName e.name) entry later named) (All-tail HasRoom entry later room))

heading_is_bytes : (count : ℕ) → count ≤ 15 → All (λ byte. byte < 256) (heading count)
heading_is_bytes count few =
    let P : ℕ → Type 0 = λ byte. byte < 256 in
    All-append P (codes "STAIRVT1") (count ∷ zeros 23)
    (All-weaker (λ byte. ltb byte 256 ≡ true) P (λ byte h. ltb-true byte 256 h) (codes "STAIRVT1") (AllPass-from_list_all (λ byte. ltb byte 256) (codes "STAIRVT1") refl))
    (All-cons P count (zeros 23) (omega arith) (All-replicate P 23 0 (omega arith)))

-- what a table is written as are 512 bytes
pub table_is_bytes : (table : Table) → IsTable table → All (λ byte. byte < 256) (table_bytes table.entries)
unfolding table_bytes
table_is_bytes table rules =
    let P : ℕ → Type 0 = λ byte. byte < 256 in
    let rest = zeros (480 - 32 * length table.entries) in
    All-append P (heading (length table.entries)) (flat_map entry_bytes table.entries ++ rest) (heading_is_bytes (length table.entries) rules.few)
    (All-append P (flat_map entry_bytes table.entries) rest
    (entries_are_bytes table.entries (λ k d lt. (rules.volumes k d lt).name) (AllHaveRoom-table table rules))
    (All-replicate P (480 - 32 * length table.entries) 0 (omega arith)))

pub table_is_sector : (table : Table) → IsTable table → length (table_bytes table.entries) ≡ 512
table_is_sector table rules = length-table_bytes table.entries (AllHaveRoom-table table rules) rules.few

-- SMALL NUMBERS

-- both numbers fit four bytes
pub record IsSmall (entry : Entry) : Type 0 where
  pub first : entry.extent.first < 2 ^ 32
  pub blocks : entry.extent.blocks < 2 ^ 32

none_of : (n d : ℕ) → n < d → n / d ≡ 0
none_of n d below = omega (arith, div_below n d 1 (omega arith) (omega arith))

rest_of : (n d : ℕ) → n < d → n % d ≡ n
rest_of n d below = omega (arith, ap (λ (m : ℕ). m * d + n % d) (sym (none_of n d below)) ∙ div-add-mod' n d)

high_byte : (n d : ℕ) → n < 2 ^ 32 → 2 ^ 32 ≤ d → n / d % 256 ≡ 0
high_byte n d fits above = ap (λ (m : ℕ). m % 256) (none_of n d (omega arith))

-- the four high bytes are zeros
eight_of_four : (n : ℕ) → n < 2 ^ 32 → to_be_bytes w64 n ≡ zeros 4 ++ to_be_bytes w32 n
eight_of_four n fits = λ i.
    high_byte n (256 ^ 7) fits (leb-true (2 ^ 32) (256 ^ 7) refl) i
    ∷ (high_byte n (256 ^ 6) fits (leb-true (2 ^ 32) (256 ^ 6) refl) i
    ∷ (high_byte n (256 ^ 5) fits (leb-true (2 ^ 32) (256 ^ 5) refl) i
    ∷ (high_byte n (256 ^ 4) fits (leb-true (2 ^ 32) (256 ^ 4) refl) i ∷ to_be_bytes w32 n)))

-- then the bytes are seven zeros, and four for each number
pub entry_bytes-small : (entry : Entry) → IsSmall entry → entry_bytes entry ≡ small_entry_bytes entry
unfolding entry_bytes
entry_bytes-small entry small =
    let high = none_of entry.extent.blocks (2 ^ 32) small.blocks in
    let first = eight_of_four entry.extent.first small.first in
    let low = rest_of entry.extent.blocks (2 ^ 32) small.blocks in
    λ i. length entry.name ∷ (padded entry.name ++ (zeros 2 ++ (high i ∷ (first i ++ to_be_bytes w32 (low i)))))

entries_small : (entries : List Entry) → All IsSmall entries → flat_map entry_bytes entries ≡ flat_map small_entry_bytes entries
entries_small [] small = refl
entries_small (entry ∷ later) small =
    ap (λ (l : List ℕ). l ++ flat_map entry_bytes later) (entry_bytes-small entry (All-head IsSmall entry later small))
    ∙ ap (λ (l : List ℕ). small_entry_bytes entry ++ l) (entries_small later (All-tail IsSmall entry later small))

-- the entries of a small array are such
pub table_bytes-small : (table : Table) → IsTable table → table.blocks ≤ 4194304 → table_bytes table.entries ≡ small_table_bytes table.entries
unfolding table_bytes
table_bytes-small table rules few =
    ap (λ (l : List ℕ). heading (length table.entries) ++ (l ++ zeros (480 - 32 * length table.entries)))
    (entries_small table.entries (λ k d lt.
    let volume = rules.volumes k d lt in
    record {
      first = omega (arith, volume.within.inside);
      blocks = omega (arith, volume.within.inside);
    }))
