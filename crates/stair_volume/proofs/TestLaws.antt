-- The tests of a table say what its facts say.
use Rattle.std.proofs.Common.{◌≡◌, ◌≢◌, ℕ, ◌^◌, ◌<◌, ◌≤◌, Bool, true, false, cond, not, ◌&&◌, List, [], ◌∷◌, Option, Some, length, refl, sym, arith, inl, inr, rules, Decides}
use Rattle.std.specs.Prelude.{All, AllPairs, is_none, nat_le}
use Rattle.std.specs.List.{list_all}
use Rattle.std.specs.Int.{IsInRange, is_in_range}
use Rattle.std.proofs.lemmas.Bool.{leb-true, le-leb, not-true, not_from_false, le-ltb, ltb-false, and_cases, and_left, and_right}
use Rattle.std.proofs.lemmas.Bool.Decides.{Decides-ltb, Decides-eqb, Decides-and, Decides-not, Decides-or, Decides-like, Decides-by_and}
use Rattle.std.proofs.lemmas.Slice.Eq.{bytes_eq-Decides}
use Rattle.std.proofs.lemmas.List.Elements.{All-nil, All-cons, All-head, All-tail, All-weaker}
use Rattle.std.proofs.lemmas.List.Kept.{AllPairs-cons}
use Rattle.stair_conf.specs.Name.{IsName, IsNameByte}
use Rattle.stair_volume.specs.declared.extent.Entry.{Entry}
use Rattle.stair_volume.specs.declared.extent.Extent.{Extent}
use Rattle.stair_volume.specs.Table.{Table, IsTable, IsVolume, IsWithin, AreApart, end_of, is_name_byte, is_name, is_within, is_volume, meets, is_free, is_named, find_in, is_apart, are_volumes, is_table, table_with}
use Rattle.stair_volume.proofs.PairLemmas.{AllPairs-head, AllPairs-tail}

Decides-leb : (a b : ℕ) → Decides (nat_le a b) (a ≤ b)
Decides-leb a b = (leb-true a b, le-leb a b)

Decides-in_range : (low high n : ℕ) → Decides (is_in_range low high n) (IsInRange low high n)
Decides-in_range low high n = Decides-and _ _ (Decides-leb low n) (Decides-leb n high)

Decides-name_byte : (byte : ℕ) → Decides (is_name_byte byte) (IsNameByte byte)
Decides-name_byte byte =
    Decides-or _ _ (Decides-in_range 97 122 byte) (Decides-or _ _ (Decides-in_range 48 57 byte) (Decides-eqb byte 95))

-- a text is a name
pub Decides-name : (text : List ℕ) → Decides (is_name text) (IsName text)
Decides-name text =
    Decides-like (is_name text)
    (λ h. record { some = h.0; short = h.1.0; bytes = h.1.1 })
    (λ h. (h.some, (h.short, h.bytes)))
    (Decides-and _ _ (Decides-ltb 0 (length text)) (Decides-and _ _ (Decides-leb (length text) 16)
    (Decides-by_and is_name_byte IsNameByte (λ bytes. list_all is_name_byte bytes) Decides-name_byte refl (λ _ _. refl) text)))

-- blocks lie after block 0 and within the array
pub Decides-within : (blocks : ℕ) (extent : Extent) → Decides (is_within blocks extent) (IsWithin blocks extent)
Decides-within blocks extent =
    Decides-like (is_within blocks extent)
    (λ h. record { behind_table = h.0; inside = h.1 })
    (λ h. (h.behind_table, h.inside))
    (Decides-and _ _ (Decides-leb 1 extent.first) (Decides-leb (end_of extent) blocks))

-- an entry is a volume
pub Decides-volume : (blocks : ℕ) (entry : Entry) → Decides (is_volume blocks entry) (IsVolume blocks entry)
Decides-volume blocks entry =
    Decides-like (is_volume blocks entry)
    (λ h. record { name = h.0; some = h.1.0; within = h.1.1 })
    (λ h. (h.name, (h.some, h.within)))
    (Decides-and _ _ (Decides-name entry.name) (Decides-and _ _ (Decides-leb 1 entry.extent.blocks) (Decides-within blocks entry.extent)))

-- no block is in both
pub Decides-apart : (a b : Extent) → Decides (not (meets a b)) (AreApart a b)
Decides-apart a b = (
  λ h. elim (and_cases _ _ (not-true _ h)) [
    | inl before ↦ inr (ltb-false a.first (end_of b) before)
    | inr behind ↦ inl (ltb-false b.first (end_of a) behind)
  ],
  λ apart. not_from_false _ (elim apart [
    | inl before ↦ and_right _ _ (le-ltb b.first (end_of a) before)
    | inr behind ↦ and_left _ _ (le-ltb a.first (end_of b) behind)
  ]),
)

pub apart_swapped : (a b : Extent) → AreApart a b → AreApart b a
apart_swapped a b (inl h) = inr h
apart_swapped a b (inr h) = inl h

-- no volume has a block of it
pub Decides-free : (entries : List Entry) (extent : Extent) → Decides (is_free entries extent) (All (λ entry. AreApart entry.extent extent) entries)
Decides-free entries extent =
    Decides-by_and (λ entry. not (meets entry.extent extent)) (λ entry. AreApart entry.extent extent) (λ others. is_free others extent)
    (λ entry. Decides-apart entry.extent extent) refl (λ _ _. refl) entries

is_none-cond : {A : Type 0} (b : Bool) (x : A) (o : Option A) → is_none (cond b (Some x) o) ≡ (not b && is_none o)
is_none-cond true x o = refl
is_none-cond false x o = refl

-- no volume has the name
pub Decides-unnamed : (name : List ℕ) (entries : List Entry) → Decides (is_none (find_in entries name)) (All (λ entry. entry.name ≢ name) entries)
Decides-unnamed name entries =
    Decides-by_and (λ entry. not (is_named name entry)) (λ entry. entry.name ≢ name) (λ others. is_none (find_in others name))
    (λ entry. Decides-not _ (bytes_eq-Decides entry.name name)) refl
    (λ entry later. is_none-cond (is_named name entry) entry.extent (find_in later name)) entries

pub Decides-apart_from : (others : List Entry) (entry : Entry) → Decides (is_apart others entry)
    (All (λ other. other.name ≢ entry.name) others × All (λ other. AreApart other.extent entry.extent) others)
Decides-apart_from others entry = Decides-and _ _ (Decides-unnamed entry.name others) (Decides-free others entry.extent)

-- what a table's test says of its entries
pub record AreVolumes (blocks : ℕ) (entries : List Entry) : Type 0 where
  pub volumes : All (IsVolume blocks) entries
  pub named_apart : AllPairs (λ a b. a.name ≢ b.name) entries
  pub apart : AllPairs (λ a b. AreApart a.extent b.extent) entries

All-swapped : (entry : Entry) (others : List Entry) → All (λ other. AreApart other.extent entry.extent) others → All (λ other. AreApart entry.extent other.extent) others
All-swapped entry others = All-weaker (λ (other : Entry). AreApart other.extent entry.extent) (λ (other : Entry). AreApart entry.extent other.extent) (λ other. apart_swapped other.extent entry.extent) others

All-back : (entry : Entry) (others : List Entry) → All (λ other. AreApart entry.extent other.extent) others → All (λ other. AreApart other.extent entry.extent) others
All-back entry others = All-weaker (λ (other : Entry). AreApart entry.extent other.extent) (λ (other : Entry). AreApart other.extent entry.extent) (λ other. apart_swapped entry.extent other.extent) others

All-named : (entry : Entry) (others : List Entry) → All (λ other. other.name ≢ entry.name) others → All (λ other. entry.name ≢ other.name) others
All-named entry others = All-weaker (λ (other : Entry). other.name ≢ entry.name) (λ (other : Entry). entry.name ≢ other.name) (λ other differ same. differ (sym same)) others

All-named_back : (entry : Entry) (others : List Entry) → All (λ other. entry.name ≢ other.name) others → All (λ other. other.name ≢ entry.name) others
All-named_back entry others = All-weaker (λ (other : Entry). entry.name ≢ other.name) (λ (other : Entry). other.name ≢ entry.name) (λ other differ same. differ (sym same)) others

-- each is a volume, and apart from those after it
pub Decides-volumes : (blocks : ℕ) (entries : List Entry) → Decides (are_volumes blocks entries) (AreVolumes blocks entries)
Decides-volumes blocks [] = (
  λ _. record {
    volumes = All-nil (IsVolume blocks);
    named_apart = λ i j d lt within. absurd (omega arith);
    apart = λ i j d lt within. absurd (omega arith);
  },
  λ _. refl,
)
Decides-volumes blocks (entry ∷ later) =
    Decides-like (are_volumes blocks (entry ∷ later))
    (λ h. record {
      volumes = All-cons (IsVolume blocks) entry later h.0 h.1.1.volumes;
      named_apart = AllPairs-cons (λ (a b : Entry). a.name ≢ b.name) entry later (All-named entry later h.1.0.0) h.1.1.named_apart;
      apart = AllPairs-cons (λ (a b : Entry). AreApart a.extent b.extent) entry later (All-swapped entry later h.1.0.1) h.1.1.apart;
    })
    (λ (h : AreVolumes blocks (entry ∷ later)). (
      All-head (IsVolume blocks) entry later h.volumes,
      (
        (
          All-named_back entry later (AllPairs-head (λ (a b : Entry). a.name ≢ b.name) entry later h.named_apart),
          All-back entry later (AllPairs-head (λ (a b : Entry). AreApart a.extent b.extent) entry later h.apart),
        ),
        record {
          volumes = All-tail (IsVolume blocks) entry later h.volumes;
          named_apart = AllPairs-tail (λ (a b : Entry). a.name ≢ b.name) entry later h.named_apart;
          apart = AllPairs-tail (λ (a b : Entry). AreApart a.extent b.extent) entry later h.apart;
        },
      ),
    ))
    (Decides-and _ _ (Decides-volume blocks entry) (Decides-and _ _ (Decides-apart_from later entry) (Decides-volumes blocks later)))

-- a table is well formed
pub Decides-table : (table : Table) → Decides (is_table table) (IsTable table)
unfolding is_table
Decides-table table =
    Decides-like (is_table table)
    (λ h. record {
      size = h.0;
      few = h.1.0;
      volumes = h.1.1.volumes;
      named_apart = h.1.1.named_apart;
      apart = h.1.1.apart;
    })
    (λ (h : IsTable table). (
      h.size,
      (
        h.few,
        record { volumes = h.volumes; named_apart = h.named_apart; apart = h.apart },
      ),
    ))
    (Decides-and _ _ (Decides-ltb table.blocks (2 ^ 37)) (Decides-and _ _ (Decides-leb (length table.entries) 15) (Decides-volumes table.blocks table.entries)))

pub IsTable-from_volumes : (blocks : ℕ) (entries : List Entry) → blocks < 2 ^ 37 → length entries ≤ 15 → are_volumes blocks entries ≡ true → IsTable (table_with blocks entries)
IsTable-from_volumes blocks entries size few passes =
    let h = (Decides-volumes blocks entries).0 passes in
    record { size = size; few = few; volumes = h.volumes; named_apart = h.named_apart; apart = h.apart }

pub volumes_from_table : (table : Table) → IsTable table → are_volumes table.blocks table.entries ≡ true
volumes_from_table table rules =
    (Decides-volumes table.blocks table.entries).1 (record { volumes = rules.volumes; named_apart = rules.named_apart; apart = rules.apart })
