-- What an array holds of volumes after some of its blocks were written.
use Rattle.std.proofs.Common.{◌≡◌, ◌≢◌, ◌∙◌, ◌+◌, ◌<◌, ◌≤◌, ◌++◌, ◌⊎◌, ℕ, zero, suc, Bool, true, false, cond, not, List, [], ◌∷◌, inl, inr, length, map, get_or, replicate, Some, Ok, refl, sym, ap, subst, arith}
use Rattle.std.specs.Prelude.{All, Contains, filter, nat_lt}
use Rattle.std.proofs.lemmas.Bool.{cases_Bool, cases_order, cond-true, cond-false, false≢true, ltb-false, ltb-true}
use Rattle.std.proofs.lemmas.List.{get_or_default}
use Rattle.std.proofs.lemmas.Option.{same_Some}
use Rattle.std.proofs.lemmas.List.Elements.{All-head, All-map, All-tail}
use Rattle.std.proofs.lemmas.Slice.Eq.{bytes_eq-Decides}
use Rattle.stair_state.specs.Blocks.{Blocks, zero_block}
use Rattle.stair_conf.specs.Name.{IsName}
use Rattle.stair_conf.specs.declared.job.VolumeJob.TheVariants as volume
use Rattle.stair_volume.specs.declared.extent.Entry.{Entry}
use Rattle.stair_volume.specs.declared.extent.Extent.{Extent}
use Rattle.stair_volume.specs.Changes.{Adds, volume_of, without_entry, without_volume}
use Rattle.stair_volume.specs.Page.{HasTable, table_bytes}
use Rattle.stair_volume.specs.Table.{AreApart, IsTable, Table, end_of, extent_of, find_in, is_named, table_with}
use Rattle.stair_volume.specs.Volumes.{HasDone, HasNone, HasVolumes, IsAmong, KeepsVolumes, Volume, is_of, overwritten, volume_at}
use Rattle.stair_volume.proofs.BlockLemmas.{IsSetTo, blocks_from-all, blocks_from-same, length-blocks_from, overwritten-none, range_set}
use Rattle.stair_volume.proofs.ChangeLaws.{Contains-from_find, find_is_volume, removed_by_without}
use Rattle.stair_volume.proofs.ReadingLaws.{has_table_written, one_table}
use Rattle.stair_volume.proofs.TestLaws.{apart_swapped}

-- ---- lists

map_same : {X Y : Type 0} (f g : X → Y) (xs : List X) → All (λ x. f x ≡ g x) xs → map f xs ≡ map g xs
map_same f g [] same = refl
map_same f g (x ∷ xs) same = λ i. All-head (λ x. f x ≡ g x) x xs same i ∷ map_same f g xs (All-tail (λ x. f x ≡ g x) x xs same) i

filter-map : {X Y : Type 0} (test : Y → Bool) (f : X → Y) (xs : List X) → filter test (map f xs) ≡ map f (filter (λ x. test (f x)) xs)
filter-map test f [] = refl
filter-map test f (x ∷ xs) =
    elim (cases_Bool (test (f x))) [
      | inl passes ↦
          cond-true (test (f x)) _ _ passes ∙ ap (λ l. f x ∷ l) (filter-map test f xs) ∙ ap (map f) (sym (cond-true (test (f x)) _ _ passes))
      | inr fails ↦ cond-false (test (f x)) _ _ fails ∙ filter-map test f xs ∙ ap (map f) (sym (cond-false (test (f x)) _ _ fails))
    ]

map-push : {X Y : Type 0} (f : X → Y) (xs : List X) (x : X) → map f (xs ++ x ∷ []) ≡ map f xs ++ f x ∷ []
map-push f [] x = refl
map-push f (y ∷ xs) x = ap (λ l. f y ∷ l) (map-push f xs x)

-- an element has lists on both sides
between : {X : Type 0} (xs : List X) (x : X) → Contains xs x → (before : List X) × (after : List X) × (xs ≡ before ++ x ∷ after)
between [] x among = absurd (omega (arith, among.1))
between (y ∷ xs) x (zero, within, here) = ([], xs, ap (λ z. z ∷ xs) here)
between (y ∷ xs) x (suc k, within, here) =
    let rest = between xs x (k, omega arith, here) in (y ∷ rest.0, rest.1, ap (λ l. y ∷ l) rest.2)

map-between : {X Y : Type 0} (f : X → Y) (before : List X) (x : X) (after : List X) → map f (before ++ x ∷ after) ≡ map f before ++ f x ∷ map f after
map-between f [] x after = refl
map-between f (y ∷ before) x after = ap (λ l. f y ∷ l) (map-between f before x after)

-- ---- what is kept

-- as table and volumes are what they were
keeps_by : (count : ℕ) (held now : Blocks) → now 0 ≡ held 0
    → ((t : Table) → HasTable count (held 0) t → All (λ e. volume_at now e ≡ volume_at held e) t.entries) → KeepsVolumes count held now
keeps_by count held now zero_same same = record {
  some = λ volumes has. record {
    table = has.table;
    is_table = subst (λ (bytes : List ℕ). HasTable count bytes has.table) (sym zero_same) has.is_table;
    are = has.are ∙ sym (map_same (volume_at now) (volume_at held) has.table.entries (same has.table has.is_table));
  };
  none = λ none t is. none t (subst (λ (bytes : List ℕ). HasTable count bytes t) zero_same is);
}

pub keeps_same : (count : ℕ) (held : Blocks) → KeepsVolumes count held held
keeps_same count held = keeps_by count held held refl (λ t is k d within. refl)

-- blocks outside a range are as they were
abbrev pub IsBeside : Extent → Blocks → Blocks → Type 0
IsBeside extent held now = (b : ℕ) → (b < extent.first) ⊎ (end_of extent ≤ b) → now b ≡ held b

-- a volume apart from the range is as it was
apart_same : (held now : Blocks) (extent : Extent) (e : Entry) → IsBeside extent held now → AreApart e.extent extent → volume_at now e ≡ volume_at held e
apart_same held now extent e beside (inl before) =
    ap (λ (blocks : List (List ℕ)). let v : Volume = record { name = e.name; blocks = blocks } in v)
    (blocks_from-same held now e.extent.first e.extent.blocks (λ b from below. beside b (inl (omega (arith, below, before)))))
apart_same held now extent e beside (inr behind) =
    ap (λ (blocks : List (List ℕ)). let v : Volume = record { name = e.name; blocks = blocks } in v)
    (blocks_from-same held now e.extent.first e.extent.blocks (λ b from below. beside b (inr (omega (arith, from, behind)))))

-- volumes that are apart from a range after the table are kept
pub keeps_beside : (count : ℕ) (held now : Blocks) (extent : Extent) (t : Table) → HasTable count (held 0) t → 1 ≤ extent.first
    → All (λ e. AreApart e.extent extent) t.entries → IsBeside extent held now → KeepsVolumes count held now
keeps_beside count held now extent t has first apart beside =
    keeps_by count held now (beside 0 (inl (omega (arith, first))))
    (λ other is. subst (λ (table : Table). All (λ e. volume_at now e ≡ volume_at held e) table.entries)
    (one_table count (held 0) t other has is)
    (λ k d within. apart_same held now extent (get_or t.entries k d) beside (apart k d within)))

-- ---- what is there

-- the volumes of a table
pub has_volumes : (count : ℕ) (held : Blocks) (t : Table) → HasTable count (held 0) t → HasVolumes count held (map (volume_at held) t.entries)
has_volumes count held t has = record { table = t; is_table = has; are = refl }

-- one that is found is among them
pub found_among : (held : Blocks) (t : Table) (name : List ℕ) (extent : Extent) → find_in t.entries name ≡ Some extent
    → IsAmong (map (volume_at held) t.entries) name (volume_at held (volume_of name extent))
found_among held t name extent found =
    let parts = between t.entries (volume_of name extent) (Contains-from_find t.entries name extent found) in
    record {
      before = map (volume_at held) parts.0;
      after = map (volume_at held) parts.1;
      are = ap (map (volume_at held)) parts.2 ∙ map-between (volume_at held) parts.0 (volume_of name extent) parts.1;
      named = refl;
    }

-- block 0 alone is written, with a table
pub record IsTableSet (count : ℕ) (held now : Blocks) (t : Table) : Type 0 where
  pub is : now 0 ≡ table_bytes t.entries
  pub beside : (b : ℕ) → 1 ≤ b → now b ≡ held b
  pub rules : IsTable t
  pub size : t.blocks ≡ count

-- block 0 is then the table
set_has : (count : ℕ) (held now : Blocks) (t : Table) → IsTableSet count held now t → HasTable count (now 0) t
set_has count held now t set =
    subst (λ (bytes : List ℕ). HasTable count bytes t) (sym set.is)
    (subst (λ (n : ℕ). HasTable n (table_bytes t.entries) t) set.size (has_table_written t set.rules))

-- and volumes are what they were
set_same : (count : ℕ) (held now : Blocks) (t : Table) (e : Entry) → IsTableSet count held now t → 1 ≤ e.extent.first → volume_at now e ≡ volume_at held e
set_same count held now t e set first =
    ap (λ (blocks : List (List ℕ)). let v : Volume = record { name = e.name; blocks = blocks } in v)
    (blocks_from-same held now e.extent.first e.extent.blocks (λ b from below. set.beside b (omega (arith, from, first))))

pub ready_done : (count : ℕ) (held now : Blocks) → HasNone count held → IsTableSet count held now (table_with count []) → HasDone volume.Ready [] count held now
ready_done count held now none set =
    record { volumes = []; begins = none; fits = tt; has = has_volumes count now (table_with count []) (set_has count held now (table_with count []) set) }

-- a volume of zeros added
pub made_done : (count : ℕ) (held mid now : Blocks) (t t' : Table) (name : List ℕ) (blocks : ℕ) → HasTable count (held 0) t → IsName name → 1 ≤ blocks
    → (adds : Adds t t' name blocks) → IsBeside (extent_of adds.first blocks) held mid
    → ((b : ℕ) → adds.first ≤ b → b < adds.first + blocks → mid b ≡ zero_block)
    → IsTableSet count mid now t' → HasDone (volume.Make name blocks) [] count held now
made_done count held mid now t t' name blocks has is_name some adds beside zeros set =
    let extent = extent_of adds.first blocks in
    let old = map (volume_at held) t.entries in
    let new : Volume = record { name = name; blocks = replicate blocks zero_block } in
    let first : 1 ≤ adds.first = adds.least.free.within.behind_table in
    let same : map (volume_at now) t.entries ≡ old =
    map_same (volume_at now) (volume_at held) t.entries
    (λ k d within. set_same count mid now t' (get_or t.entries k d) set (has.rules.volumes k d within).within.behind_table
    ∙ apart_same held mid extent (get_or t.entries k d) beside (adds.least.free.apart k d within)) in
    let added : volume_at now (volume_of name extent) ≡ new =
    set_same count mid now t' (volume_of name extent) set first
    ∙ ap (λ (l : List (List ℕ)). let v : Volume = record { name = name; blocks = l } in v) (blocks_from-all mid zero_block adds.first blocks zeros) in
    let entries : t'.entries ≡ t.entries ++ volume_of name extent ∷ [] = ap (λ (table : Table). table.entries) adds.is in
    record {
      volumes = old;
      begins = has_volumes count held t has;
      fits = All-map (λ (v : Volume). v.name ≢ name) (volume_at held) t.entries adds.named_apart;
      has = record {
        table = t';
        is_table = set_has count mid now t' set;
        are = sym (ap (map (volume_at now)) entries ∙ map-push (volume_at now) t.entries (volume_of name extent)
            ∙ (λ i. same i ++ added i ∷ []));
      };
    }

-- one volume removed
pub removed_done : (count : ℕ) (held now : Blocks) (t t' : Table) (name : List ℕ) → HasTable count (held 0) t → without_volume t name ≡ Ok t'
    → t' ≡ without_entry t name → IsTableSet count held now t' → HasDone (volume.Remove name) [] count held now
removed_done count held now t t' name has done is set =
    let removes = removed_by_without t t' name has.rules done in
    let old = map (volume_at held) t.entries in
    let kept = filter (λ entry. not (is_named name entry)) t.entries in
    let entries : t'.entries ≡ kept = ap (λ (table : Table). table.entries) is in
    let same : map (volume_at now) t.entries ≡ old =
    map_same (volume_at now) (volume_at held) t.entries
    (λ k d within. set_same count held now t' (get_or t.entries k d) set (has.rules.volumes k d within).within.behind_table) in
    let left : filter (λ v. not (is_of name v)) old ≡ map (volume_at now) t'.entries =
    ap (filter (λ v. not (is_of name v))) (sym same) ∙ filter-map (λ v. not (is_of name v)) (volume_at now) t.entries
    ∙ ap (map (volume_at now)) (sym entries) in
    record {
      volumes = old;
      begins = has_volumes count held t has;
      fits = (
        volume_at held (volume_of name removes.extent),
        record {
          before = map (volume_at held) removes.before;
          after = map (volume_at held) removes.after;
          are = ap (map (volume_at held)) removes.was ∙ map-between (volume_at held) removes.before (volume_of name removes.extent) removes.after;
          named = refl;
        },
      );
      has = record { table = t'; is_table = set_has count held now t' set; are = left };
    }

-- ---- blocks of a volume

-- the others are apart from the volume of a name
others_apart : (t : Table) (name : List ℕ) (extent : Extent) → IsTable t → Contains t.entries (volume_of name extent)
    → (k : ℕ) (d : Entry) → k < length t.entries → is_named name (get_or t.entries k d) ≡ false → AreApart (get_or t.entries k d).extent extent
others_apart t name extent rules among k d within other = by (cases_order k among.0)
  where
    target : Entry
    target = volume_of name extent

    here : get_or t.entries k target ≡ get_or t.entries k d
    here = get_or_default t.entries k target d within

    by : (k ≡ among.0) ⊎ ((k < among.0) ⊎ (among.0 < k)) → AreApart (get_or t.entries k d).extent extent
    by (inl same) =
        let is : get_or t.entries k d ≡ target = sym here ∙ ap (λ (j : ℕ). get_or t.entries j target) same ∙ among.2 in
        let named : is_named name (get_or t.entries k d) ≡ true =
        (bytes_eq-Decides (get_or t.entries k d).name name).1 (ap (λ (e : Entry). e.name) is) in
        absurd (false≢true (sym other ∙ named))
    by (inr (inl before)) =
        let apart : AreApart (get_or t.entries k target).extent (get_or t.entries among.0 target).extent = rules.apart k among.0 target before among.1 in
        subst (λ (e : Entry). AreApart e.extent extent) here
        (subst (λ (e : Entry). AreApart (get_or t.entries k target).extent e.extent) among.2 apart)
    by (inr (inr behind)) =
        let apart : AreApart (get_or t.entries among.0 target).extent (get_or t.entries k target).extent = rules.apart among.0 k target behind within in
        apart_swapped extent (get_or t.entries k d).extent
        (subst (λ (e : Entry). AreApart extent e.extent) here
        (subst (λ (e : Entry). AreApart e.extent (get_or t.entries k target).extent) among.2 apart))

-- one of the name has its blocks
named_extent : (t : Table) (name : List ℕ) (extent : Extent) → IsTable t → find_in t.entries name ≡ Some extent
    → (k : ℕ) (d : Entry) → k < length t.entries → is_named name (get_or t.entries k d) ≡ true → (get_or t.entries k d).extent ≡ extent
named_extent t name extent rules found k d within named =
    let e = get_or t.entries k d in
    let same : e.name ≡ name = (bytes_eq-Decides e.name name).0 named in
    let is : e ≡ volume_of name e.extent = λ i. record { name = same i; extent = e.extent } in
    let among : Contains t.entries (volume_of name e.extent) = (k, within, get_or_default t.entries k (volume_of name e.extent) d within ∙ is) in
    same_Some e.extent extent (sym ((find_is_volume t name e.extent rules).1 among) ∙ found)

-- The volumes after blocks of one of them were written, from one of its blocks on, and no others.
written_volumes : (held now : Blocks) (t : Table) (name : List ℕ) (extent : Extent) (block : ℕ) (contents : List (List ℕ)) → IsTable t
    → find_in t.entries name ≡ Some extent → (0 < length contents → block + length contents ≤ extent.blocks)
    → IsSetTo held now (extent.first + block) contents → (k : ℕ) (d : Entry) → k < length t.entries
    → volume_at now (get_or t.entries k d)
    ≡ cond (is_of name (volume_at held (get_or t.entries k d)))
    (record (volume_at held (get_or t.entries k d)) { blocks = overwritten block contents (volume_at held (get_or t.entries k d)).blocks })
    (volume_at held (get_or t.entries k d))
written_volumes held now t name extent block contents rules found range is k d within = by contents range is (cases_Bool (is_named name e))
  where
    e : Entry
    e = get_or t.entries k d

    v : Volume
    v = volume_at held e

    wrote : List (List ℕ) → Volume
    wrote contents = record v { blocks = overwritten block contents v.blocks }

    by : (contents : List (List ℕ)) → (0 < length contents → block + length contents ≤ extent.blocks) → IsSetTo held now (extent.first + block) contents
        → (is_named name e ≡ true) ⊎ (is_named name e ≡ false)
        → volume_at now e ≡ cond (is_of name v) (wrote contents) v
    by [] range is (inl named) =
        ap (λ (blocks : List (List ℕ)). let w : Volume = record { name = e.name; blocks = blocks } in w)
        (blocks_from-same held now e.extent.first e.extent.blocks (λ b from below. is.beside b (anywhere b (extent.first + block)))
        ∙ sym (overwritten-none block v.blocks)) ∙ sym (cond-true (is_of name v) (wrote []) v named)
      where
        anywhere : (b first : ℕ) → (b < first) ⊎ (first + 0 ≤ b)
        anywhere b first = elim (cases_Bool (nat_lt b first)) [ inl below ↦ inl (ltb-true b first below) | inr not_below ↦ inr (omega (arith, ltb-false b first not_below)) ]
    by [] range is (inr other) =
        ap (λ (blocks : List (List ℕ)). let w : Volume = record { name = e.name; blocks = blocks } in w)
        (blocks_from-same held now e.extent.first e.extent.blocks (λ b from below. is.beside b (anywhere b (extent.first + block))))
        ∙ sym (cond-false (is_of name v) (wrote []) v other)
      where
        anywhere : (b first : ℕ) → (b < first) ⊎ (first + 0 ≤ b)
        anywhere b first = elim (cases_Bool (nat_lt b first)) [ inl below ↦ inl (ltb-true b first below) | inr not_below ↦ inr (omega (arith, ltb-false b first not_below)) ]
    by (bytes ∷ more) range is (inl named) =
        let place : e.extent ≡ extent = named_extent t name extent rules found k d within named in
        let inside : block + length (bytes ∷ more) ≤ e.extent.blocks =
        subst (λ (x : Extent). block + length (bytes ∷ more) ≤ x.blocks) (sym place) (range (omega arith)) in
        let there : IsSetTo held now (e.extent.first + block) (bytes ∷ more) =
        subst (λ (x : Extent). IsSetTo held now (x.first + block) (bytes ∷ more)) (sym place) is in
        ap (λ (blocks : List (List ℕ)). let w : Volume = record { name = e.name; blocks = blocks } in w)
        (range_set held now e.extent.first e.extent.blocks block (bytes ∷ more) there inside)
        ∙ sym (cond-true (is_of name v) (wrote (bytes ∷ more)) v named)
    by (bytes ∷ more) range is (inr other) =
        let apart = others_apart t name extent rules (Contains-from_find t.entries name extent found) k d within other in
        let inside : block + length (bytes ∷ more) ≤ extent.blocks = range (omega arith) in
        apart_same held now extent e (λ b off. is.beside b (beyond b inside off)) apart
        ∙ sym (cond-false (is_of name v) (wrote (bytes ∷ more)) v other)
      where
        beyond : (b : ℕ) → block + length (bytes ∷ more) ≤ extent.blocks → (b < extent.first) ⊎ (end_of extent ≤ b)
            → (b < extent.first + block) ⊎ (extent.first + block + length (bytes ∷ more) ≤ b)
        beyond b inside (inl before) = inl (omega (arith, before))
        beyond b inside (inr behind) = inr (omega (arith, behind, inside))

-- blocks of a volume that were written
pub written_done : (count : ℕ) (held now : Blocks) (t : Table) (name : List ℕ) (extent : Extent) (block all : ℕ) (contents : List (List ℕ))
    → HasTable count (held 0) t → find_in t.entries name ≡ Some extent → 1 ≤ extent.first
    → (0 < length contents → block + length contents ≤ extent.blocks) → IsSetTo held now (extent.first + block) contents
    → HasDone (volume.Write name block all) contents count held now
written_done count held now t name extent block all contents has found first range is =
    let old = map (volume_at held) t.entries in
    let turned : Volume → Volume = λ v. cond (is_of name v) (record v { blocks = overwritten block contents v.blocks }) v in
    let zero_same : now 0 ≡ held 0 = is.beside 0 (inl (omega (arith, first))) in
    record {
      volumes = old;
      begins = has_volumes count held t has;
      fits = (
        volume_at held (volume_of name extent),
        found_among held t name extent found,
        λ some. subst (λ (n : ℕ). block + length contents ≤ n) (sym (length-blocks_from held extent.first extent.blocks)) (range some),
      );
      has = record {
        table = t;
        is_table = subst (λ (bytes : List ℕ). HasTable count bytes t) (sym zero_same) has;
        are = map_turned turned (volume_at held) t.entries
            ∙ sym (map_same (volume_at now) (λ e. turned (volume_at held e)) t.entries
            (λ k d within. written_volumes held now t name extent block contents has.rules found range is k d within));
      };
    }
  where
    map_turned : {X Y Z : Type 0} (g : Y → Z) (f : X → Y) (xs : List X) → map g (map f xs) ≡ map (λ x. g (f x)) xs
    map_turned g f [] = refl
    map_turned g f (x ∷ xs) = ap (λ l. g (f x) ∷ l) (map_turned g f xs)

-- what is listed or read changes nothing
pub listed_done : (count : ℕ) (held : Blocks) (t : Table) → HasTable count (held 0) t → HasDone volume.List [] count held held
listed_done count held t has =
    record { volumes = map (volume_at held) t.entries; begins = has_volumes count held t has; fits = tt; has = has_volumes count held t has }

abbrev pub read_done : (count : ℕ) (held : Blocks) (t : Table) (name : List ℕ) (extent : Extent) (block all : ℕ) → HasTable count (held 0) t
    → find_in t.entries name ≡ Some extent → (0 < all → block + all ≤ extent.blocks) → HasDone (volume.Read name block all) [] count held held
read_done count held t name extent block all has found range = record {
  volumes = map (volume_at held) t.entries;
  begins = has_volumes count held t has;
  fits = (
    volume_at held (volume_of name extent),
    found_among held t name extent found,
    λ some. subst (λ (n : ℕ). block + all ≤ n) (sym (length-blocks_from held extent.first extent.blocks)) (range some),
  );
  has = has_volumes count held t has;
}
