-- The bytes that an array holds of its volumes, and what becomes of them by a command that was done.
use Rattle.std.proofs.Common.{◌≡◌, ◌≢◌, ◌∙◌, ◌+◌, ◌-◌, ◌<◌, ◌++◌, ◌⊎◌, ℕ, Bool, true, false, List, [], ◌∷◌, Option, None, Some, length, map, get_or, inl, inr, refl, sym, ap, subst, arith}
use Rattle.std.specs.Prelude.{All, AllPairs, bytes_eq, slice_get}
use Rattle.std.specs.List.{concat}
use Rattle.std.proofs.lemmas.Bool.{cases_Bool, cases_order, cond-false, cond-true, false_from_ne_true}
use Rattle.std.proofs.lemmas.List.{get_or-map, length-append, length-map}
use Rattle.std.proofs.lemmas.List.Elements.{All-head, All-tail}
use Rattle.std.proofs.lemmas.Slice.Eq.{bytes_eq-Decides}
use Rattle.std.proofs.Math.ListN.{get_or-append}
use Rattle.std.proofs.Math.Seq.{get_or-append_seam}
use Rattle.stair_state.specs.Blocks.{Blocks}
use Rattle.stair_conf.specs.declared.job.VolumeJob.TheVariants as volume
use Rattle.stair_volume.specs.declared.extent.Entry.{Entry}
use Rattle.stair_volume.specs.Changes.{volume_of}
use Rattle.stair_volume.specs.Page.{table_of}
use Rattle.stair_volume.specs.Table.{Table, extent_of}
use Rattle.stair_volume.specs.Volumes.{HasNone, HasVolumes, IsAmong, KeepsVolumes, Volume, volume_at}
use Rattle.stair_volume.proofs.ReadingLaws.{has_table_read, none_read, one_table, table_of-has_table}
use Rattle.stair_volume_lives.specs.Lives.{bytes_by, bytes_held, bytes_of}
use Rattle.stair_volume_lives.proofs.ByteLemmas.{AreWhole}

-- ---- names

pub same_name : (a b : List ℕ) → a ≡ b → bytes_eq a b ≡ true
same_name a b same = (bytes_eq-Decides a b).1 same

pub other_name : (a b : List ℕ) → a ≢ b → bytes_eq a b ≡ false
other_name a b other = false_from_ne_true (bytes_eq a b) (λ same. other ((bytes_eq-Decides a b).0 same))

-- two names are the same, or they aren't
pub one_name : (a b : List ℕ) → (a ≡ b) ⊎ (a ≢ b)
one_name a b = elim (cases_Bool (bytes_eq a b)) [
  | inl same ↦ inl ((bytes_eq-Decides a b).0 same)
  | inr other ↦ inr (λ same. absurd (clash (sym (same_name a b same) ∙ other)))
]
  where
    clash : true ≡ false → ⊥
    clash both = cc

-- ---- a volume among others

pub here : (v : Volume) (later : List Volume) (name : List ℕ) (at : ℕ) → v.name ≡ name → bytes_of (v ∷ later) name at ≡ slice_get (concat v.blocks) at
here v later name at named = cond-true _ _ _ (same_name v.name name named)

pub next : (v : Volume) (later : List Volume) (name : List ℕ) (at : ℕ) → v.name ≢ name → bytes_of (v ∷ later) name at ≡ bytes_of later name at
next v later name at other = cond-false _ _ _ (other_name v.name name other)

-- the first of a name
pub first_named : (before after : List Volume) (v : Volume) (name : List ℕ) (at : ℕ) → All (λ w. w.name ≢ name) before → v.name ≡ name
    → bytes_of (before ++ v ∷ after) name at ≡ slice_get (concat v.blocks) at
first_named [] after v name at none named = here v after name at named
first_named (w ∷ before) after v name at none named =
    next w (before ++ v ∷ after) name at (All-head (λ w. w.name ≢ name) w before none)
    ∙ first_named before after v name at (All-tail (λ w. w.name ≢ name) w before none) named

abbrev pub Apart : List Volume → Type 0
Apart volumes = AllPairs (λ a b. a.name ≢ b.name) volumes

-- volumes have names of their own
pub apart : (count : ℕ) (held : Blocks) (volumes : List Volume) → HasVolumes count held volumes → Apart volumes
apart count held volumes has = subst Apart (sym has.are) apart_there
  where
    entries : List Entry
    entries = has.table.entries

    none : Entry
    none = volume_of [] (extent_of 0 0)

    name_at : (k : ℕ) (d : Volume) → k < length entries → (get_or (map (volume_at held) entries) k d).name ≡ (get_or entries k none).name
    name_at k d within = ap (λ (w : Volume). w.name) (get_or-map (volume_at held) entries k none d within)

    apart_there : Apart (map (volume_at held) entries)
    apart_there i j d before within same =
        let inside : j < length entries = omega (arith, within, length-map entries (volume_at held)) in
        has.is_table.rules.named_apart i j none before inside
        (sym (name_at i d (omega (arith, before, inside))) ∙ same ∙ name_at j d inside)

module _ (volumes : List Volume) (apart : Apart volumes) (name : List ℕ) where
  placed : (v : Volume) (among : IsAmong volumes name v) (d : Volume) → get_or volumes (length among.before) d ≡ v
  placed v among d = ap (λ (l : List Volume). get_or l (length among.before) d) among.are ∙ get_or-append_seam among.before v among.after d

  inside : (v : Volume) (among : IsAmong volumes name v) → length among.before < length volumes
  inside v among = omega (arith, ap length among.are, length-append among.before (v ∷ among.after))

  -- none before it has its name
  pub none_before : (v : Volume) (among : IsAmong volumes name v) → All (λ w. w.name ≢ name) among.before
  none_before v among k d within same =
      let at : get_or volumes k d ≡ get_or among.before k d =
      ap (λ (l : List Volume). get_or l k d) among.are ∙ get_or-append among.before (v ∷ among.after) d k within in
      apart k (length among.before) d within (inside v among)
      (ap (λ (w : Volume). w.name) at ∙ same ∙ sym among.named ∙ sym (ap (λ (w : Volume). w.name) (placed v among d)))

  pub among_bytes : (v : Volume) → IsAmong volumes name v → (at : ℕ) → bytes_of volumes name at ≡ slice_get (concat v.blocks) at
  among_bytes v among at =
      ap (λ (l : List Volume). bytes_of l name at) among.are
      ∙ first_named among.before among.after v name at (none_before v among) among.named

  -- one alone has it
  pub one_named : (v w : Volume) → IsAmong volumes name v → IsAmong volumes name w → v ≡ w
  one_named v w a b = by (cases_order (length a.before) (length b.before))
    where
      names : (v w : Volume) (a : IsAmong volumes name v) (b : IsAmong volumes name w)
          → (get_or volumes (length a.before) v).name ≡ (get_or volumes (length b.before) v).name
      names v w a b =
          ap (λ (u : Volume). u.name) (placed v a v) ∙ a.named ∙ sym b.named ∙ sym (ap (λ (u : Volume). u.name) (placed w b v))

      by : (length a.before ≡ length b.before) ⊎ ((length a.before < length b.before) ⊎ (length b.before < length a.before)) → v ≡ w
      by (inl same) = sym (placed v a v) ∙ ap (λ (k : ℕ). get_or volumes k v) same ∙ placed w b v
      by (inr (inl before)) = absurd (apart (length a.before) (length b.before) v before (inside w b) (names v w a b))
      by (inr (inr behind)) = absurd (apart (length b.before) (length a.before) w behind (inside v a) (names w v b a))

-- ---- what is held

pub held_some : (count : ℕ) (held : Blocks) (volumes : List Volume) → HasVolumes count held volumes → (name : List ℕ) (at : ℕ)
    → bytes_held count held name at ≡ bytes_of volumes name at
held_some count held volumes has name at =
    ap (λ (o : Option Table). bytes_by o held name at) (table_of-has_table count (held 0) has.table has.is_table)
    ∙ ap (λ (l : List Volume). bytes_of l name at) (sym has.are)

pub held_none : (count : ℕ) (held : Blocks) → HasNone count held → (name : List ℕ) (at : ℕ) → bytes_held count held name at ≡ None
held_none count held none name at = ap (λ (o : Option Table). bytes_by o held name at) (sym (none_read count (held 0) none))

-- there are volumes, or there are none
pub some_or_none : (count : ℕ) (held : Blocks) → ((volumes : List Volume) × HasVolumes count held volumes) ⊎ HasNone count held
some_or_none count held = by (table_of count (held 0)) refl
  where
    by : (o : Option Table) → table_of count (held 0) ≡ o → ((volumes : List Volume) × HasVolumes count held volumes) ⊎ HasNone count held
    by (Some table) read =
        inl (map (volume_at held) table.entries, record { table = table; is_table = has_table_read count (held 0) table read; are = refl })
    by None read = inr (λ table has. no_both (sym (table_of-has_table count (held 0) table has) ∙ read))
      where
        no_both : {table : Table} → Some table ≡ None → ⊥
        no_both both = cc

pub one_list : (count : ℕ) (held : Blocks) (a b : List Volume) → HasVolumes count held a → HasVolumes count held b → a ≡ b
one_list count held a b first second =
    first.are ∙ ap (λ (t : Table). map (volume_at held) t.entries) (one_table count (held 0) first.table second.table first.is_table second.is_table)
    ∙ sym second.are

-- the blocks of a volume of this name have all their bytes
abbrev pub IsWholeOf : (name : List ℕ) → Volume → Type 0
IsWholeOf name v = v.name ≡ name → AreWhole v.blocks

abbrev pub AllWhole : (name : List ℕ) → List Volume → Type 0
AllWhole name volumes = All (IsWholeOf name) volumes

abbrev pub HoldsWhole : (name : List ℕ) → (count : ℕ) → Blocks → Type 0
HoldsWhole name count held = (volumes : List Volume) → HasVolumes count held volumes → AllWhole name volumes

-- ---- what is kept

pub keeps_bytes : (count : ℕ) (held now : Blocks) → KeepsVolumes count held now → (name : List ℕ) (at : ℕ)
    → bytes_held count now name at ≡ bytes_held count held name at
keeps_bytes count held now keeps name at = elim (some_or_none count held) [
  | inl some ↦ held_some count now some.0 (keeps.some some.0 some.1) name at ∙ sym (held_some count held some.0 some.1 name at)
  | inr none ↦ held_none count now (keeps.none none) name at ∙ sym (held_none count held none name at)
]

pub keeps_whole : (name : List ℕ) (count : ℕ) (held now : Blocks) → KeepsVolumes count held now → HoldsWhole name count held → HoldsWhole name count now
keeps_whole name count held now keeps whole volumes has = elim (some_or_none count held) [
  | inl some ↦ subst (AllWhole name) (one_list count now some.0 volumes (keeps.some some.0 some.1) has) (whole some.0 some.1)
  | inr none ↦ absurd (keeps.none none has.table has.is_table)
]
