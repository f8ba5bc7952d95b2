-- A slot in memory stands as the history tells, after each act and each call.
use Rattle.std.proofs.Common.{◌≡◌, ◌≢◌, ◌+◌, take, ℕ, ◌<◌, ◌≤◌, suc, zero, true, false, List, [], ◌∷◌, ◌++◌, length, map, replicate, get_or, set, inl, inr, refl, sym, ap, ap₂, ◌∙◌, subst, arith, Option, None, Some, slice_get}
use Rattle.std.specs.Prelude.{IsTrue, is_some, if◌then◌else◌, ◌==◌, nat_lt, option_map, unwrap_or, remove, slice_set}
use Rattle.std.proofs.Math.Path.{fun_ext}
use Rattle.std.proofs.lemmas.Bool.{cond-true, cond-false, eq-eqb, ne_eqb, cases_eq, cases_Bool, cases_lt, ltb-true, ltb-false, lt-ltb, le-ltb, and_from, not_from_false, false≢true}
use Rattle.std.proofs.lemmas.List.{get_or-set_same, get_or-set_other, get_or_past, get_or-replicate, set_past, length-set, length-map, length-replicate, map-append}
use Rattle.std.proofs.lemmas.Option.{slice_get-map, slice_get-get_or}
use Rattle.stair_rack.specs.Sector.{Sector, settled, damaged, wrote}
use Rattle.stair_rack.specs.Media.{Medium, has_sector, sectors_of}
use Rattle.stair_rack.specs.History.{SlotState, Pulled, InsertedBlank, InsertedOld, SectorDamaged, Write, with_old, after_act, after_attach, after_write, after_sync}
use Rattle.stair_rack.specs.declared.rack.Reply.{Reply}
use Rattle.stair_rack.specs.declared.rack.Reply.TheVariants as reply
use Rattle.stair_memrack.specs.declared.disk.StoredSector.{StoredSector}
use Rattle.stair_memrack.specs.declared.disk.Settling.{Settling}
use Rattle.stair_memrack.specs.declared.disk.Settling.TheVariants.{AsRead, AsSynced}
use Rattle.stair_memrack.specs.Disk.{cell_of, unwritten, kept_cell, settle, written, stored_at, stored_in, medium_of}
use Rattle.stair_memrack.specs.Place.{PlaceState, size_of, with_pulled, pulled, inserted, inserted_old, damaged_at, attached_as, written_as, synced_as}
use Rattle.stair_memrack.specs.Script.{kept_of, medium_kept}
use Rattle.stair_memrack.specs.Shelf.{Written, with_write, IsStored, IsMediumOf, IsPlaceOf}

-- SECTORS

pub IsStored-unwritten : (w : List (List ℕ)) → IsStored w unwritten damaged
IsStored-unwritten w = record { base_is = refl; content_is = refl; since_is = refl; pending_is = refl }

kept_cell-is : (how : Settling) {w : List (List ℕ)} (x : StoredSector) (s : Sector) → IsStored w x s → cell_of (kept_cell how x) ≡ kept_of how s
kept_cell-is AsRead x s is = is.content_is
kept_cell-is AsSynced x s is = is.base_is

IsStored-settle : (how : Settling) (w : List (List ℕ)) (x : StoredSector) (s : Sector) → IsStored w x s → IsStored w (settle how x) (settled (kept_of how s))
IsStored-settle how w x s is = let kept = kept_cell-is how x s is in record { base_is = kept; content_is = kept; since_is = refl; pending_is = refl }

IsStored-written : (w : List (List ℕ)) (bytes : List ℕ) (x : StoredSector) (s : Sector) → IsStored w x s
    → IsStored (bytes ∷ w) (written bytes x) (wrote bytes s)
IsStored-written w bytes x s is = record {
  base_is = is.base_is;
  content_is = refl;
  since_is = ap (λ since. bytes ∷ since) is.since_is ∙ ap (λ n. take n (bytes ∷ w)) more;
  pending_is = sym more ∙ ap suc is.pending_is;
}
  where
    more : suc x.pending ≡ x.pending + 1
    more = omega arith

-- one sector is changed, and of no other one what was written to it
IsStored-set : (w w' : Written) (sectors : List StoredSector) (f : ℕ → Sector) (k i : ℕ) (x : StoredSector) (s : Sector) → k < length sectors
    → IsStored (w' k) x s → (i ≢ k → w' i ≡ w i) → IsStored (w i) (stored_at sectors i) (f i)
    → IsStored (w' i) (stored_at (slice_set sectors k x) i) (if i == k then s else f i)
IsStored-set w w' sectors f k i x s within new others old =
    elim (cases_eq i k) [
      | inl same ↦
          let here : stored_at (slice_set sectors k x) i ≡ x =
          ap (λ n. get_or (set sectors k x) n unwritten) same ∙ get_or-set_same sectors k x unwritten within in
          let there : (if i == k then s else f i) ≡ s = cond-true _ _ _ (eq-eqb i k same) in
          subst (λ y. IsStored (w' i) y (if i == k then s else f i)) (sym here) (subst (λ t. IsStored (w' i) x t) (sym there)
          (subst (λ n. IsStored (w' n) x s) (sym same) new))
      | inr other ↦
          let here : stored_at (slice_set sectors k x) i ≡ stored_at sectors i = get_or-set_other sectors k i x unwritten other in
          let there : (if i == k then s else f i) ≡ f i = cond-false _ _ _ (ne_eqb i k other) in
          subst (λ y. IsStored (w' i) y (if i == k then s else f i)) (sym here) (subst (λ t. IsStored (w' i) (stored_at sectors i) t) (sym there)
          (subst (λ v. IsStored v (stored_at sectors i) (f i)) (sym (others other)) old))
    ]

unwritten-settle : (how : Settling) → unwritten ≡ settle how unwritten
unwritten-settle AsRead = refl
unwritten-settle AsSynced = refl

stored_at-settle : (how : Settling) (sectors : List StoredSector) (k : ℕ) → stored_at (map (settle how) sectors) k ≡ settle how (stored_at sectors k)
stored_at-settle how [] k = unwritten-settle how
stored_at-settle how (x ∷ sectors) zero = refl
stored_at-settle how (x ∷ sectors) (suc k) = stored_at-settle how sectors k

stored_at-blank : (n k : ℕ) → stored_at (replicate n unwritten) k ≡ unwritten
stored_at-blank n k =
    elim (cases_lt k n) [
      | inl below ↦ get_or-replicate n k unwritten unwritten below
      | inr above ↦ get_or_past (replicate n unwritten) k unwritten (omega (arith, length-replicate n unwritten))
    ]

-- MEDIA

pub IsMediumOf-none : (w : Written) → IsMediumOf w None None (λ k. damaged)
IsMediumOf-none w = record { size_is = refl; each = λ k. IsStored-unwritten (w k) }

pub IsMediumOf-blank : (w : Written) (n : ℕ) → IsMediumOf w (Some (replicate n unwritten)) (Some n) (λ k. damaged)
IsMediumOf-blank w n = record {
  size_is = ap (λ m. Some m) (sym (length-replicate n unwritten));
  each = λ k. subst (λ x. IsStored (w k) x damaged) (sym (stored_at-blank n k)) (IsStored-unwritten (w k));
}

-- the medium has the sector where its size says so
pub has_sector-stored : (medium : Option (List StoredSector)) (size : Option ℕ) (k : ℕ) → size ≡ option_map length medium
    → has_sector size k ≡ nat_lt k (size_of medium)
has_sector-stored None size k is = ap (λ n. has_sector n k) is ∙ sym (le-ltb k 0 (omega arith))
has_sector-stored (Some sectors) size k is = ap (λ n. has_sector n k) is

pub stored_past : (medium : Option (List StoredSector)) (k : ℕ) → size_of medium ≤ k → stored_in medium k ≡ unwritten
stored_past None k past = refl
stored_past (Some sectors) k past = get_or_past sectors k unwritten past

-- one sector of it is changed
IsMediumOf-changed : (w w' : Written) (medium : Option (List StoredSector)) (size : Option ℕ) (sector : ℕ → Sector) (k : ℕ)
    (x : StoredSector → StoredSector) (s : Sector) → k < size_of medium → IsStored (w' k) (x (stored_in medium k)) s
    → ((i : ℕ) → i ≢ k → w' i ≡ w i) → IsMediumOf w medium size sector
    → IsMediumOf w' (option_map (λ sectors. slice_set sectors k (x (stored_at sectors k))) medium) size (λ i. if i == k then s else sector i)
IsMediumOf-changed w w' None size sector k x s within new others is = absurd (omega arith)
IsMediumOf-changed w w' (Some sectors) size sector k x s within new others is = record {
  size_is = is.size_is ∙ ap (λ n. Some n) (sym (length-set sectors k (x (stored_at sectors k))));
  each = λ i. IsStored-set w w' sectors sector k i (x (stored_at sectors k)) s within new (others i) (is.each i);
}

IsMediumOf-settled : (how : Settling) (w : Written) (medium : Option (List StoredSector)) (size : Option ℕ) (sector : ℕ → Sector)
    → IsMediumOf w medium size sector → IsMediumOf w (option_map (map (settle how)) medium) size (λ k. settled (kept_of how (sector k)))
IsMediumOf-settled how w None size sector is = record {
  size_is = is.size_is;
  each = λ k.
      subst (λ x. IsStored (w k) x (settled (kept_of how (sector k)))) (sym (unwritten-settle how))
      (IsStored-settle how (w k) unwritten (sector k) (is.each k));
}
IsMediumOf-settled how w (Some sectors) size sector is = record {
  size_is = is.size_is ∙ ap (λ n. Some n) (sym (length-map sectors (settle how)));
  each = λ k.
      subst (λ x. IsStored (w k) x (settled (kept_of how (sector k)))) (sym (stored_at-settle how sectors k))
      (IsStored-settle how (w k) (stored_at sectors k) (sector k) (is.each k));
}

-- the medium that comes back is as reads find it
IsMediumOf-old : (w : Written) (sectors : List StoredSector)
    → IsMediumOf w (Some (map (settle AsRead) sectors)) (Some (length sectors)) (sectors_of (Some (length sectors)) (medium_of sectors).cell)
IsMediumOf-old w sectors = record {
  size_is = ap (λ n. Some n) (sym (length-map sectors (settle AsRead)));
  each = λ k.
      subst (λ x. IsStored (w k) x (sectors_of (Some (length sectors)) (medium_of sectors).cell k)) (sym (stored_at-settle AsRead sectors k)) (found k);
}
  where
    found : (k : ℕ) → IsStored (w k) (settle AsRead (stored_at sectors k)) (sectors_of (Some (length sectors)) (medium_of sectors).cell k)
    found k =
        elim (cases_Bool (nat_lt k (length sectors))) [
          | inl below ↦
              subst (λ s. IsStored (w k) (settle AsRead (stored_at sectors k)) s) (sym (cond-true _ _ _ below))
              (record { base_is = refl; content_is = refl; since_is = refl; pending_is = refl })
          | inr above ↦
              let past : stored_at sectors k ≡ unwritten = get_or_past sectors k unwritten (ltb-false k (length sectors) above) in
              subst (λ s. IsStored (w k) (settle AsRead (stored_at sectors k)) s) (sym (cond-false _ _ _ above))
              (subst (λ x. IsStored (w k) (settle AsRead x) damaged) (sym past) (IsStored-unwritten (w k)))
        ]

-- what is pulled is the medium, settled so
medium_kept-is : (how : Settling) {w : Written} (sectors : List StoredSector) (b : SlotState) → IsMediumOf w (Some sectors) b.size b.sector
    → medium_kept how b ≡ medium_of (map (settle how) sectors)
medium_kept-is how {w} sectors b is =
    let size : unwrap_or b.size 0 ≡ length (map (settle how) sectors) =
    ap (λ n. unwrap_or n 0) is.size_is ∙ sym (length-map sectors (settle how)) in
    let cell : (λ (k : ℕ). kept_of how (b.sector k)) ≡ (λ k. cell_of (stored_at (map (settle how) sectors) k).now) =
    fun_ext (λ k. sym ((IsMediumOf-settled how w (Some sectors) b.size b.sector is).each k).content_is) in
    λ i. record { size = size i; cell = cell i }

pub map-remove : {X Y : Type 0} (f : X → Y) (xs : List X) (i : ℕ) → map f (remove xs i) ≡ remove (map f xs) i
map-remove f [] zero = refl
map-remove f [] (suc i) = refl
map-remove f (x ∷ xs) zero = refl
map-remove f (x ∷ xs) (suc i) = ap (λ ys. f x ∷ ys) (map-remove f xs i)

-- ACTS

-- a slot that holds a medium
abbrev pub IsFull : SlotState → Type 0
IsFull b = IsTrue (is_some b.size)

none_is_full : (medium : Option (List StoredSector)) (size : Option ℕ) → size ≡ option_map length medium → is_some size ≡ is_some medium
none_is_full None size is = ap is_some is
none_is_full (Some sectors) size is = ap is_some is

pub is_full : {w : Written} (p : PlaceState) (b : SlotState) → IsPlaceOf w p b → is_some b.size ≡ is_some p.medium
is_full p b is = none_is_full p.medium b.size is.medium.size_is

pub IsPlaceOf-pulled : {w : Written} (how : Settling) (p : PlaceState) (b : SlotState) → IsPlaceOf w p b → is_some b.size ≡ true
    → IsPlaceOf w (pulled how p) (after_act (Pulled (medium_kept how b)) b)
IsPlaceOf-pulled {w} how p b is full = pulled_from p.medium (sym (is_full p b is) ∙ full) refl
  where
    pulled_from : (m : Option (List StoredSector)) → is_some m ≡ true → p.medium ≡ m
        → IsPlaceOf w (pulled how p) (after_act (Pulled (medium_kept how b)) b)
    pulled_from None some at = absurd (false≢true some)
    pulled_from (Some sectors) some at =
        let kept : medium_kept how b ≡ medium_of (map (settle how) sectors) =
        medium_kept-is how sectors b (subst (λ m. IsMediumOf w m b.size b.sector) at is.medium) in
        subst (λ m. IsPlaceOf w (with_pulled how m p) (after_act (Pulled (medium_kept how b)) b)) (sym at)
        (record {
          medium = IsMediumOf-none w;
          removed_is =
              ap₂ (λ (xs : List Medium) (m : Medium). xs ++ m ∷ []) is.removed_is kept
              ∙ sym (map-append medium_of p.removed (map (settle how) sectors ∷ []));
          attached_is = refl;
          found_is = is.found_is;
        })

pub IsPlaceOf-inserted : {w : Written} (p : PlaceState) (b : SlotState) (n : ℕ) → IsPlaceOf w p b → is_some b.size ≡ false
    → IsPlaceOf w (inserted (Some (replicate n unwritten)) p) (after_act (InsertedBlank n) b)
IsPlaceOf-inserted {w} p b n is empty =
    subst (λ q. IsPlaceOf w q (after_act (InsertedBlank n) b)) (sym (cond-false _ _ _ (sym (is_full p b is) ∙ empty)))
    (record { medium = IsMediumOf-blank w n; removed_is = is.removed_is; attached_is = is.attached_is; found_is = is.found_is })

pub removed-count : {w : Written} (p : PlaceState) (b : SlotState) → IsPlaceOf w p b → length b.removed ≡ length p.removed
removed-count p b is = ap length is.removed_is ∙ length-map p.removed medium_of

pub IsPlaceOf-inserted_old : {w : Written} (p : PlaceState) (b : SlotState) (i : ℕ) → IsPlaceOf w p b → is_some b.size ≡ false → i < length b.removed
    → IsPlaceOf w (inserted_old i p) (after_act (InsertedOld i) b)
IsPlaceOf-inserted_old {w} p b i is empty within =
    let below : i < length p.removed = omega (arith, removed-count p b is) in
    let sectors : List StoredSector = get_or p.removed i [] in
    let it : slice_get p.removed i ≡ Some sectors = slice_get-get_or p.removed i [] below in
    let old : slice_get b.removed i ≡ Some (medium_of sectors) =
    ap (λ xs. slice_get xs i) is.removed_is ∙ slice_get-map medium_of p.removed i ∙ ap (option_map medium_of) it in
    let does : inserted_old i p ≡ record p { medium = Some (map (settle AsRead) sectors); removed = remove p.removed i } =
    cond-true _ _ _ (and_from _ _ (not_from_false _ (sym (is_full p b is) ∙ empty)) (lt-ltb i (length p.removed) below))
    ∙ ap (λ m. record p { medium = option_map (map (settle AsRead)) m; removed = remove p.removed i }) it in
    subst (λ q. IsPlaceOf w q (after_act (InsertedOld i) b)) (sym does)
    (subst (λ m. IsPlaceOf w (record p { medium = Some (map (settle AsRead) sectors); removed = remove p.removed i }) (with_old i m b)) (sym old)
    (record {
      medium = IsMediumOf-old w sectors;
      removed_is = ap (λ xs. remove xs i) is.removed_is ∙ sym (map-remove medium_of p.removed i);
      attached_is = is.attached_is;
      found_is = is.found_is;
    }))

pub IsPlaceOf-damaged : {w : Written} (p : PlaceState) (b : SlotState) (k : ℕ) → IsPlaceOf w p b → has_sector b.size k ≡ true
    → IsPlaceOf w (damaged_at k p) (after_act (SectorDamaged k) b)
IsPlaceOf-damaged {w} p b k is has =
    let within : k < size_of p.medium = ltb-true k (size_of p.medium) (sym (has_sector-stored p.medium b.size k is.medium.size_is) ∙ has) in
    record {
      medium =
          IsMediumOf-changed w w p.medium b.size b.sector k (λ x. unwritten) damaged within (IsStored-unwritten (w k)) (λ i other. refl) is.medium;
      removed_is = is.removed_is;
      attached_is = is.attached_is;
      found_is = is.found_is;
    }

pub pulled-none : (how : Settling) (p : PlaceState) → is_some p.medium ≡ false → pulled how p ≡ p
pulled-none how p empty = from p.medium empty
  where
    from : (m : Option (List StoredSector)) → is_some m ≡ false → with_pulled how m p ≡ p
    from None none = refl
    from (Some sectors) none = absurd (false≢true (sym none))

pub damaged-past : {w : Written} (p : PlaceState) (b : SlotState) (k : ℕ) → IsPlaceOf w p b → has_sector b.size k ≡ false → damaged_at k p ≡ p
damaged-past p b k is past =
    let above : size_of p.medium ≤ k = ltb-false k (size_of p.medium) (sym (has_sector-stored p.medium b.size k is.medium.size_is) ∙ past) in
    ap (λ m. record p { medium = m }) (from p.medium above)
  where
    from : (m : Option (List StoredSector)) → size_of m ≤ k → option_map (λ sectors. slice_set sectors k unwritten) m ≡ m
    from None above = refl
    from (Some sectors) above = ap (λ l. Some l) (set_past sectors k unwritten above)

-- CALLS

pub IsPlaceOf-attached : {w : Written} (p : PlaceState) (b : SlotState) (answer : Reply) → IsPlaceOf w p b
    → IsPlaceOf w (attached_as answer p) (after_attach answer b)
IsPlaceOf-attached p b reply.Done is = record {
  medium = is.medium;
  removed_is = is.removed_is;
  attached_is = refl;
  found_is = found p.medium b.size is.medium.size_is;
}
  where
    found : (m : Option (List StoredSector)) (size : Option ℕ) → size ≡ option_map length m → unwrap_or size 0 ≡ size_of m
    found None size at = ap (λ n. unwrap_or n 0) at
    found (Some sectors) size at = ap (λ n. unwrap_or n 0) at
IsPlaceOf-attached p b reply.Gone is =
    record { medium = is.medium; removed_is = is.removed_is; attached_is = refl; found_is = refl }

pub IsPlaceOf-written : {w : Written} (p : PlaceState) (b : SlotState) (k : ℕ) (bytes : List ℕ) (answer : Reply) → IsPlaceOf w p b
    → (answer ≡ reply.Done → k < size_of p.medium)
    → IsPlaceOf (with_write (Write k bytes answer) w) (written_as k bytes answer p) (after_write k bytes answer b)
IsPlaceOf-written {w} p b k bytes reply.Done is within = record {
  medium =
      IsMediumOf-changed w (with_write (Write k bytes reply.Done) w) p.medium b.size b.sector k (written bytes) (wrote bytes (b.sector k)) (within refl)
      (subst (λ v. IsStored v (written bytes (stored_in p.medium k)) (wrote bytes (b.sector k))) (sym (cond-true _ _ _ (eq-eqb k k refl)))
      (IsStored-written (w k) bytes (stored_in p.medium k) (b.sector k) (is.medium.each k))) (λ i other. cond-false _ _ _ (ne_eqb i k other)) is.medium;
  removed_is = is.removed_is;
  attached_is = is.attached_is;
  found_is = is.found_is;
}
IsPlaceOf-written p b k bytes reply.Gone is within = is

pub IsPlaceOf-synced : {w : Written} (p : PlaceState) (b : SlotState) (answer : Reply) → IsPlaceOf w p b
    → IsPlaceOf w (synced_as answer p) (after_sync answer b)
IsPlaceOf-synced {w} p b reply.Done is = record {
  medium = IsMediumOf-settled AsRead w p.medium b.size b.sector is.medium;
  removed_is = is.removed_is;
  attached_is = is.attached_is;
  found_is = is.found_is;
}
IsPlaceOf-synced p b reply.Gone is = is
