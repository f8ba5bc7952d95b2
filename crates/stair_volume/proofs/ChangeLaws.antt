-- A volume is found by its name, put after the others, and taken out.
use Rattle.std.proofs.Common.{◌≡◌, ◌≢◌, ℕ, zero, suc, ◌<◌, ◌≤◌, Bool, true, false, cond, not, List, [], ◌∷◌, ◌++◌, Option, None, Some, Result, Ok, Err, length, get_or, refl, sym, ap, ◌∙◌, subst, arith, inl, inr}
use Rattle.std.specs.Prelude.{◌↔◌, All, AllPairs, Contains, filter, is_some, nat_le}
use Rattle.std.proofs.lemmas.Bool.{cases_Bool, cond-true, cond-false, le-leb, lt-leb, leb-false, not_from_false, not_from_true, false_from_ne_true}
use Rattle.std.proofs.lemmas.Option.{none-some, same_Some}
use Rattle.std.proofs.lemmas.Slice.Eq.{bytes_eq-Decides}
use Rattle.std.proofs.lemmas.List.{length_push}
use Rattle.std.proofs.lemmas.List.Elements.{All-push, All-filter}
use Rattle.std.proofs.lemmas.List.Filters.{length-filter_both}
use Rattle.std.proofs.lemmas.List.Kept.{AllPairs-filter}
use Rattle.std.proofs.lemmas.List.Quantifiers.{all_pairs_push}
use Rattle.stair_conf.specs.Name.{IsName}
use Rattle.stair_volume.specs.declared.extent.Entry.{Entry}
use Rattle.stair_volume.specs.declared.extent.Extent.{Extent}
use Rattle.stair_volume.specs.declared.table_fault.TableFault.{TableFault}
use Rattle.stair_volume.specs.declared.table_fault.TableFault.TheVariants.{NoVolume, NameTaken, TableFull}
use Rattle.stair_volume.specs.Table.{Table, IsTable, IsVolume, AreApart, extent_of, find_in, is_named, table_with}
use Rattle.stair_volume.specs.Changes.{Adds, IsLeastFree, Removes, placed, room, volume_of, with_entry, with_volume, without_entry, without_volume}
use Rattle.stair_volume.proofs.PairLemmas.{AllPairs-head, AllPairs-tail}
use Rattle.stair_volume.proofs.TestLaws.{Decides-unnamed}
use Rattle.stair_volume.proofs.RoomLaws.{least_from_room}

pub find_in-named : (entry : Entry) (later : List Entry) (name : List ℕ) → is_named name entry ≡ true → find_in (entry ∷ later) name ≡ Some entry.extent
find_in-named entry later name named = cond-true (is_named name entry) (Some entry.extent) (find_in later name) named

pub find_in-other : (entry : Entry) (later : List Entry) (name : List ℕ) → is_named name entry ≡ false → find_in (entry ∷ later) name ≡ find_in later name
find_in-other entry later name other = cond-false (is_named name entry) (Some entry.extent) (find_in later name) other

same_volume : (entry : Entry) (name : List ℕ) (extent : Extent) → entry.name ≡ name → entry.extent ≡ extent → entry ≡ volume_of name extent
same_volume entry name extent named placed = λ i. record { name = named i; extent = placed i }

-- what is found is the volume of the name
pub Contains-from_find : (entries : List Entry) (name : List ℕ) (extent : Extent) → find_in entries name ≡ Some extent → Contains entries (volume_of name extent)
Contains-from_find [] name extent found = absurd (none-some extent found)
Contains-from_find (entry ∷ later) name extent found =
    elim (cases_Bool (is_named name entry)) [
      | inl named ↦
          let same = same_volume entry name extent ((bytes_eq-Decides entry.name name).0 named) (same_Some entry.extent extent (sym (find_in-named entry later name named) ∙ found)) in
          (0, (omega arith), same)
      | inr other ↦
          let rest = Contains-from_find later name extent (sym (find_in-other entry later name other) ∙ found) in
          (suc rest.0, (omega (arith, rest.1)), rest.2)
    ]

find_at : (entries : List Entry) (name : List ℕ) (extent : Extent) (k : ℕ) → AllPairs (λ a b. a.name ≢ b.name) entries → k < length entries → get_or entries k (volume_of name extent) ≡ volume_of name extent → find_in entries name ≡ Some extent
find_at [] name extent k apart within here = absurd (omega arith)
find_at (entry ∷ later) name extent zero apart within here =
    find_in-named entry later name ((bytes_eq-Decides entry.name name).1 (ap (λ (e : Entry). e.name) here))
    ∙ ap (λ (e : Entry). Some e.extent) here
find_at (entry ∷ later) name extent (suc k) apart within here =
    let differ : entry.name ≢ name = λ same. AllPairs-head (λ (a b : Entry). a.name ≢ b.name) entry later apart k (volume_of name extent) (omega arith) (same ∙ sym (ap (λ (e : Entry). e.name) here)) in
    find_in-other entry later name (false_from_ne_true (is_named name entry) (λ named. differ ((bytes_eq-Decides entry.name name).0 named)))
    ∙ find_at later name extent k (AllPairs-tail (λ (a b : Entry). a.name ≢ b.name) entry later apart) (omega arith) here

-- a name finds the blocks of the one volume that has it
pub find_is_volume : (table : Table) (name : List ℕ) (extent : Extent) → IsTable table → (find_in table.entries name ≡ Some extent) ↔ Contains table.entries (volume_of name extent)
find_is_volume table name extent rules = (
  Contains-from_find table.entries name extent,
  λ among. find_at table.entries name extent among.0 rules.named_apart among.1 among.2,
)

-- A VOLUME MORE

pub with_volume-taken : (table : Table) (name : List ℕ) (count : ℕ) → is_some (find_in table.entries name) ≡ true → with_volume table name count ≡ Err NameTaken
unfolding with_volume
with_volume-taken table name count taken = cond-true _ (Err NameTaken) _ taken

pub with_volume-full : (table : Table) (name : List ℕ) (count : ℕ) → is_some (find_in table.entries name) ≡ false → 15 ≤ length table.entries → with_volume table name count ≡ Err TableFull
unfolding with_volume
with_volume-full table name count other full = cond-false _ (Err NameTaken) _ other ∙ cond-true _ (Err TableFull) _ (le-leb 15 (length table.entries) full)

pub with_volume-placed : (table : Table) (name : List ℕ) (count : ℕ) (place : Option ℕ) → is_some (find_in table.entries name) ≡ false → length table.entries < 15 → room table count ≡ place → with_volume table name count ≡ placed table name count place
unfolding with_volume
with_volume-placed table name count place other few is =
    cond-false _ (Err NameTaken) _ other
    ∙ cond-false _ (Err TableFull) _ (lt-leb 15 (length table.entries) few)
    ∙ ap (placed table name count) is

adds_by_cases : (old new : Table) (name : List ℕ) (count : ℕ) (taken full : Bool) (place : Option ℕ) → is_some (find_in old.entries name) ≡ taken → nat_le 15 (length old.entries) ≡ full → room old count ≡ place → ◌≡◌ {A = Result Table TableFault} (cond taken (Err NameTaken) (cond full (Err TableFull) (placed old name count place))) (Ok new) → Adds old new name count
adds_by_cases old new name count true full place a b c done = cc
adds_by_cases old new name count false true place a b c done = cc
adds_by_cases old new name count false false None a b c done = cc
adds_by_cases old new name count false false (Some first) a b c done = record {
  first = first;
  least = least_from_room old count first c;
  few = leb-false 15 (length old.entries) b;
  named_apart = (Decides-unnamed name old.entries).0 (not_from_false _ a);
  is = cc;
}

pub added_by_with : (old new : Table) (name : List ℕ) (count : ℕ) → with_volume old name count ≡ Ok new → Adds old new name count
unfolding with_volume
added_by_with old new name count done =
    adds_by_cases old new name count (is_some (find_in old.entries name)) (nat_le 15 (length old.entries)) (room old count) refl refl refl done

-- a volume more leaves a table well formed
pub IsTable-with_entry : (old : Table) (name : List ℕ) (count first : ℕ) → IsTable old → IsName name → 1 ≤ count → length old.entries < 15 → All (λ entry. entry.name ≢ name) old.entries → IsLeastFree old count first → IsTable (with_entry old (volume_of name (extent_of first count)))
IsTable-with_entry old name count first rules is_name some few named_apart least =
    let entry = volume_of name (extent_of first count) in
    record {
      size = rules.size;
      few = omega (arith, length_push old.entries entry);
      volumes = All-push (IsVolume old.blocks) old.entries entry rules.volumes (record { name = is_name; some = some; within = least.free.within });
      named_apart = all_pairs_push (λ (a b : Entry). a.name ≢ b.name) old.entries entry rules.named_apart (λ k d lt. named_apart k d lt);
      apart = all_pairs_push (λ (a b : Entry). AreApart a.extent b.extent) old.entries entry rules.apart (λ k d lt. least.free.apart k d lt);
    }

pub IsTable-added : (old new : Table) (name : List ℕ) (count : ℕ) → IsTable old → IsName name → 1 ≤ count → Adds old new name count → IsTable new
IsTable-added old new name count rules is_name some adds =
    subst IsTable (sym adds.is) (IsTable-with_entry old name count adds.first rules is_name some adds.few adds.named_apart adds.least)

-- A VOLUME LESS

filter_all : (name : List ℕ) (entries : List Entry) → All (λ entry. entry.name ≢ name) entries → filter (λ entry. not (is_named name entry)) entries ≡ entries
filter_all name [] differ = refl
filter_all name (entry ∷ later) differ =
    let other : is_named name entry ≡ false = false_from_ne_true (is_named name entry) (λ named. differ 0 entry (omega arith) ((bytes_eq-Decides entry.name name).0 named)) in
    cond-true (not (is_named name entry)) (entry ∷ filter (λ entry. not (is_named name entry)) later) (filter (λ entry. not (is_named name entry)) later) (not_from_false _ other)
    ∙ ap (λ (l : List Entry). entry ∷ l) (filter_all name later (λ k d lt. differ (suc k) d (omega arith)))

-- the one entry that a list has of the name, and those around it
record IsSplit (entries : List Entry) (name : List ℕ) : Type 0 where
  before : List Entry
  extent : Extent
  after : List Entry
  was : entries ≡ before ++ volume_of name extent ∷ after
  rest : filter (λ entry. not (is_named name entry)) entries ≡ before ++ after

split_at_name : (entries : List Entry) (name : List ℕ) → AllPairs (λ a b. a.name ≢ b.name) entries → is_some (find_in entries name) ≡ true → IsSplit entries name
split_at_name [] name apart found = cc
split_at_name (entry ∷ later) name apart found =
    elim (cases_Bool (is_named name entry)) [
      | inl named ↦
          let same = (bytes_eq-Decides entry.name name).0 named in
          record {
            before = [];
            extent = entry.extent;
            after = later;
            was = ap (λ (e : Entry). e ∷ later) (same_volume entry name entry.extent same refl);
            rest =
                cond-false (not (is_named name entry)) (entry ∷ filter (λ entry. not (is_named name entry)) later) (filter (λ entry. not (is_named name entry)) later) (not_from_true _ named)
                ∙ filter_all name later (λ k d lt other. AllPairs-head (λ (a b : Entry). a.name ≢ b.name) entry later apart k d lt (same ∙ sym other));
          }
      | inr other ↦
          let split = split_at_name later name (AllPairs-tail (λ (a b : Entry). a.name ≢ b.name) entry later apart) (ap is_some (sym (find_in-other entry later name other)) ∙ found) in
          record {
            before = entry ∷ split.before;
            extent = split.extent;
            after = split.after;
            was = ap (λ (l : List Entry). entry ∷ l) split.was;
            rest =
                cond-true (not (is_named name entry)) (entry ∷ filter (λ entry. not (is_named name entry)) later) (filter (λ entry. not (is_named name entry)) later) (not_from_false _ other)
                ∙ ap (λ (l : List Entry). entry ∷ l) split.rest;
          }
    ]

-- what is taken out was there
record IsTakenOut (old new : Table) (name : List ℕ) : Type 0 where
  there : is_some (find_in old.entries name) ≡ true
  is : new ≡ without_entry old name

taken_by_cases : (old new : Table) (name : List ℕ) (there : Bool) → is_some (find_in old.entries name) ≡ there → ◌≡◌ {A = Result Table TableFault} (cond there (Ok (without_entry old name)) (Err NoVolume)) (Ok new) → IsTakenOut old new name
taken_by_cases old new name true a done = record { there = a; is = cc }
taken_by_cases old new name false a done = cc

taken_out : (old new : Table) (name : List ℕ) → without_volume old name ≡ Ok new → IsTakenOut old new name
unfolding without_volume
taken_out old new name done = taken_by_cases old new name (is_some (find_in old.entries name)) refl done

pub removed_by_without : (old new : Table) (name : List ℕ) → IsTable old → without_volume old name ≡ Ok new → Removes old new name
removed_by_without old new name rules done =
    let out = taken_out old new name done in
    let split = split_at_name old.entries name rules.named_apart out.there in
    record {
      before = split.before;
      extent = split.extent;
      after = split.after;
      was = split.was;
      is = out.is ∙ ap (λ (l : List Entry). table_with old.blocks l) split.rest;
    }

pub without_volume-there : (table : Table) (name : List ℕ) → is_some (find_in table.entries name) ≡ true → without_volume table name ≡ Ok (without_entry table name)
unfolding without_volume
without_volume-there table name there = cond-true _ (Ok (without_entry table name)) _ there

pub without_volume-none : (table : Table) (name : List ℕ) → is_some (find_in table.entries name) ≡ false → without_volume table name ≡ Err NoVolume
unfolding without_volume
without_volume-none table name other = cond-false _ (Ok (without_entry table name)) _ other

-- a volume less leaves a table well formed
pub IsTable-without_entry : (table : Table) (name : List ℕ) → IsTable table → IsTable (without_entry table name)
IsTable-without_entry table name rules =
    let p : Entry → Bool = λ entry. not (is_named name entry) in
    record {
      size = rules.size;
      few = omega (arith, rules.few, length-filter_both p (λ entry. not (p entry)) (λ _. refl) table.entries);
      volumes = All-filter p (IsVolume table.blocks) table.entries rules.volumes;
      named_apart = AllPairs-filter (λ (a b : Entry). a.name ≢ b.name) p table.entries rules.named_apart;
      apart = AllPairs-filter (λ (a b : Entry). AreApart a.extent b.extent) p table.entries rules.apart;
    }

pub IsTable-removed : (old new : Table) (name : List ℕ) → IsTable old → without_volume old name ≡ Ok new → IsTable new
IsTable-removed old new name rules done = subst IsTable (sym (taken_out old new name done).is) (IsTable-without_entry old name rules)
