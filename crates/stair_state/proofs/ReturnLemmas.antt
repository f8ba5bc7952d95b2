-- Whatever the outside does, media put back too, and while a rack is only looked at, it stays consistent under reassembly: each
-- medium came from one before.
use Rattle.std.proofs.Common.{◌≡◌, ℕ, zero, suc, ◌+◌, ◌<◌, ◌≤◌, List, [], ◌∷◌, ◌++◌, length, ◌⊎◌, inl, inr, refl, sym, ap, ◌∙◌, subst, arith, slice_get}
use Rattle.std.specs.Prelude.{Option, None, Some, is_some, nat_lt, if◌then◌else◌, remove}
use Rattle.std.proofs.lemmas.Bool.{cases_Bool, cases_eq, cases_lt, cond-true, cond-false, eq-eqb, ne_eqb, lt-ltb, le-ltb, false≢true}
use Rattle.std.proofs.lemmas.Option.{slice_get_cases}
use Rattle.stair_rack.specs.Answers.{Ran}
use Rattle.stair_rack.specs.Crash.{SlotMayLeave}
use Rattle.stair_rack.specs.History.{Happening, SlotAct, Pulled, InsertedBlank, InsertedOld, SectorDamaged, SlotState, after_act, slot_state, with_old}
use Rattle.stair_rack.specs.Media.{Image, Medium, SlotImage, has_sector, sectors_of}
use Rattle.stair_rack.specs.Outside.{MayHappen}
use Rattle.stair_rack.specs.Sector.{Cell, Damaged, MayLeave}
use Rattle.stair_rack.proofs.CrashLemmas.{settled_left}
use Rattle.stair_rack.proofs.StepLemmas.{kept, keeps_slot}
use Rattle.stair_super.specs.Superblock.{Superblock, joined_at}
use Rattle.stair_member.specs.Current.{IsLost}
use Rattle.stair_member.specs.Seats.{Seats}
use Rattle.stair_member.proofs.CountingLemmas.{all_but_mapped}
use Rattle.stair_member.proofs.SuperLemmas.{super_cells, super_held}
use Rattle.stair_state.specs.Degraded.{AreAllDamaged, AreDamagedCopies, Taken, Blank, Stays}
use Rattle.stair_state.specs.Holding.{HasOvertaken, CurrentMediumReserved, CurrentMedia, IsBorneSince, IsConsistentBy, IsConsistentSince, IsConsistentUnderReassembly, OfAdmitted}
use Rattle.stair_state.specs.Reassembly.{Location, InSlot, Outside, IsBorne, IsMediumOf, IsReassembledSlot, OneOf, Unwritten, Empty, IsReassembly, before_pull, before_return}
use Rattle.stair_state.specs.Represents.{Encodings, no_write}
use Rattle.stair_state.specs.State.{State, without_seats}
use Rattle.stair_state.proofs.AloneLemmas.{encodings_without_seats, reseated}
use Rattle.stair_state.proofs.DegradedLemmas.{bears_before, copies_again, copies_damaged}
use Rattle.stair_state.proofs.FormLemmas.{good_whole, same_kept}
use Rattle.stair_state.proofs.OutsideLemmas.{SlotComesFrom, look_left, slot_before, slot_now, slot_now_left, steady_looks}

-- WHERE A MEDIUM CAME FROM

-- it is the one that lay there, of whose cells some may be damaged, or it was never written
pub data IsFrom (was : SlotImage) (place : Location) (medium : Medium) : Type 0 where
  Same : (old : Medium) → IsMediumOf was place old → old.size ≡ medium.size → AreDamagedCopies old.cell medium.cell
      → IsFrom was place medium
  New : AreAllDamaged medium.cell → IsFrom was place medium

-- The slot's media came from those that a crash might have left of it, each from a place of its own.
pub record MediaCameFrom (b : SlotState) (image : SlotImage) : Type 0 where
  pub was : SlotImage
  pub left : SlotMayLeave b was
  pub place : Location → Location
  pub apart : (p q : Location) → place p ≡ place q → p ≡ q
  pub medium : (p : Location) (m : Medium) → IsMediumOf image p m → IsFrom was (place p) m

not_some : {size : ℕ} {o : Option ℕ} → o ≡ None → ¬ (o ≡ Some size)
not_some none some = false≢true (sym (ap is_some none) ∙ ap is_some some)

size_once : {a b : ℕ} → Some a ≡ Some b → a ≡ b
size_once same = cc

cells_same : {a b : ℕ → Cell} → a ≡ b → AreDamagedCopies a b
cells_same same k = inl (ap (λ (cells : ℕ → Cell). cells k) (sym same))

-- MEDIA THAT STAY WHERE THEY ARE

stay : (b : SlotState) (image : SlotImage) (from : SlotComesFrom b image) → from.was.removed ≡ image.removed → MediaCameFrom b image
stay b image from same = record {
  was = from.was;
  left = from.left;
  place = λ p. p;
  apart = λ p q is. is;
  medium = from_there;
}
  where
    from_there : (p : Location) (m : Medium) → IsMediumOf image p m → IsFrom from.was p m
    from_there InSlot m is =
        elim from.degraded [
          | Taken none all ↦ New (copies_damaged all (cells_same is.1))
          | Blank size has all ↦ New (copies_damaged all (cells_same is.1))
          | Stays size copies ↦
              Same (record { size = m.size; cell = from.was.cell }) (sym size ∙ is.0, refl) refl (copies_again copies (cells_same is.1))
        ]
    from_there (Outside i) m is = Same m (subst (λ xs. slice_get xs i ≡ Some m) (sym same) is) refl (λ k. inl refl)

-- A MEDIUM THAT IS PULLED

-- it lies after the others
pub pulled_last : (count i : ℕ) → i ≡ count → before_pull count (Outside i) ≡ InSlot
pulled_last count i same = cond-true _ _ _ (eq-eqb i count same)

pub pulled_other : (count i : ℕ) → ¬ (i ≡ count) → before_pull count (Outside i) ≡ Outside i
pulled_other count i other = cond-false _ _ _ (ne_eqb i count other)

pub pulled_twice : (count : ℕ) (p : Location) → before_pull count (before_pull count p) ≡ p
pulled_twice count InSlot = pulled_last count count refl
pulled_twice count (Outside i) =
    elim (cases_eq i count) [
      | inl same ↦ ap (before_pull count) (pulled_last count i same) ∙ ap Outside (sym same)
      | inr other ↦ ap (before_pull count) (pulled_other count i other) ∙ pulled_other count i other
    ]

pub pulled_apart : (count : ℕ) (p q : Location) → before_pull count p ≡ before_pull count q → p ≡ q
pulled_apart count p q same = sym (pulled_twice count p) ∙ ap (before_pull count) same ∙ pulled_twice count q

-- of the list with one more after it
pub pushed_cases : (xs : List Medium) (m x : Medium) (i : ℕ) → slice_get (xs ++ m ∷ []) i ≡ Some x
    → ((i ≡ length xs) × (m ≡ x)) ⊎ ((¬ (i ≡ length xs)) × (slice_get xs i ≡ Some x))
pushed_cases [] m x zero is = inl (refl, some_once is)
  where
    some_once : {a b : Medium} → Some a ≡ Some b → a ≡ b
    some_once same = cc
pushed_cases [] m x (suc i) is = absurd (false≢true (ap is_some is))
pushed_cases (y ∷ xs) m x zero is = inr (λ same. absurd (omega (arith, same)), is)
pushed_cases (y ∷ xs) m x (suc i) is =
    elim (pushed_cases xs m x i is) [
      | inl last ↦ inl (ap suc last.0, last.1)
      | inr other ↦ inr (λ same. other.0 (omega (arith, same)), other.1)
    ]

pulled_came : (b : SlotState) (m : Medium) → MayHappen b (Pulled m) → (image : SlotImage) → SlotMayLeave (after_act (Pulled m) b) image
    → MediaCameFrom b image
pulled_came b m settles image left = record {
  was = record { size = b.size; cell = m.cell; removed = b.removed };
  left = record { size = refl; each = settles.each; removed = refl };
  place = before_pull (length b.removed);
  apart = pulled_apart (length b.removed);
  medium = from_there;
}
  where
    from_there : (p : Location) (x : Medium) → IsMediumOf image p x
        → IsFrom (record { size = b.size; cell = m.cell; removed = b.removed }) (before_pull (length b.removed) p) x
    from_there InSlot x is = absurd (not_some left.size is.0)
    from_there (Outside i) x is =
        elim (pushed_cases b.removed m x i (subst (λ xs. slice_get xs i ≡ Some x) left.removed is)) [
          | inl last ↦
              subst (λ p. IsFrom (record { size = b.size; cell = m.cell; removed = b.removed }) p x)
              (sym (pulled_last (length b.removed) i last.0))
              (subst (IsFrom (record { size = b.size; cell = m.cell; removed = b.removed }) InSlot) last.1
              (Same m (settles.size, refl) refl (λ k. inl refl)))
          | inr other ↦
              subst (λ p. IsFrom (record { size = b.size; cell = m.cell; removed = b.removed }) p x)
              (sym (pulled_other (length b.removed) i other.0)) (Same x other.1 refl (λ k. inl refl))
        ]

-- A MEDIUM THAT IS PUT BACK

-- those after it move up
abbrev pub before_gap : ℕ → ℕ → ℕ
before_gap i k = if nat_lt k i then k else k + 1

pub gap_below : (i k : ℕ) → k < i → before_gap i k ≡ k
gap_below i k below = cond-true _ _ _ (lt-ltb k i below)

pub gap_behind : (i k : ℕ) → i ≤ k → before_gap i k ≡ k + 1
gap_behind i k behind = cond-false _ _ _ (le-ltb k i behind)

gap_other : (i k : ℕ) → ¬ (before_gap i k ≡ i)
gap_other i k same =
    elim (cases_lt k i) [
      | inl below ↦ omega (arith, same, gap_below i k below)
      | inr behind ↦ omega (arith, same, gap_behind i k behind)
    ]

pub gap_once : (i k l : ℕ) → before_gap i k ≡ before_gap i l → k ≡ l
gap_once i k l same =
    elim (cases_lt k i) [
      | inl below ↦
          elim (cases_lt l i) [
            | inl also ↦ omega (arith, same, gap_below i k below, gap_below i l also)
            | inr behind ↦ omega (arith, same, gap_below i k below, gap_behind i l behind)
          ]
      | inr behind ↦
          elim (cases_lt l i) [
            | inl below ↦ omega (arith, same, gap_behind i k behind, gap_below i l below)
            | inr also ↦ omega (arith, same, gap_behind i k behind, gap_behind i l also)
          ]
    ]

pub outside_once : {a b : ℕ} → Outside a ≡ Outside b → a ≡ b
outside_once same = cc

pub returned_apart : (i : ℕ) (p q : Location) → before_return i p ≡ before_return i q → p ≡ q
returned_apart i InSlot InSlot same = refl
returned_apart i InSlot (Outside l) same = absurd (gap_other i l (sym (outside_once same)))
returned_apart i (Outside k) InSlot same = absurd (gap_other i k (outside_once same))
returned_apart i (Outside k) (Outside l) same = ap Outside (gap_once i k l (outside_once same))

-- of the list without one
pub removed_was : (xs : List Medium) (i k : ℕ) → i < length xs → slice_get (remove xs i) k ≡ slice_get xs (before_gap i k)
removed_was [] i k below = absurd (omega (arith, below))
removed_was (y ∷ xs) zero k below = ap (slice_get (y ∷ xs)) next
  where
    next : suc k ≡ before_gap 0 k
    next = omega (arith, gap_behind 0 k (omega arith))
removed_was (y ∷ xs) (suc i) zero below = ap (slice_get (y ∷ xs)) (sym (gap_below (suc i) 0 (omega arith)))
removed_was (y ∷ xs) (suc i) (suc k) below =
    removed_was xs i k (omega (arith, below)) ∙ ap (slice_get (y ∷ xs)) further
  where
    further : suc (before_gap i k) ≡ before_gap (suc i) (suc k)
    further =
        elim (cases_lt k i) [
          | inl under ↦ omega (arith, gap_below i k under, gap_below (suc i) (suc k) (omega arith))
          | inr behind ↦ omega (arith, gap_behind i k behind, gap_behind (suc i) (suc k) (omega arith))
        ]

-- of its cells nothing is left past its end
pub sectors_left : (size : Option ℕ) (cell : ℕ → Cell) (k : ℕ) (found : Cell) → MayLeave (sectors_of size cell k) found
    → (found ≡ cell k) ⊎ (found ≡ Damaged)
sectors_left size cell k found may =
    elim (cases_Bool (has_sector size k)) [
      | inl within ↦ inl (settled_left (cell k) found (subst (λ s. MayLeave s found) (cond-true _ _ _ within) may))
      | inr past ↦ inr (settled_left Damaged found (subst (λ s. MayLeave s found) (cond-false _ _ _ past) may))
    ]

returned_came : (b : SlotState) (i : ℕ) (m : Medium) → i < length b.removed → slice_get b.removed i ≡ Some m → (image : SlotImage)
    → SlotMayLeave (with_old i (Some m) b) image → MediaCameFrom b image
returned_came b i m below at image left = record {
  was = slot_now b;
  left = slot_now_left b;
  place = before_return i;
  apart = returned_apart i;
  medium = from_there;
}
  where
    from_there : (p : Location) (x : Medium) → IsMediumOf image p x → IsFrom (slot_now b) (before_return i p) x
    from_there InSlot x is =
        Same m at (size_once (sym left.size ∙ is.0))
        (copies_again (λ k. sectors_left (Some m.size) m.cell k (image.cell k) (left.each k)) (cells_same is.1))
    from_there (Outside k) x is =
        Same x (sym (removed_was b.removed i k below) ∙ subst (λ xs. slice_get xs k ≡ Some x) left.removed is) refl (λ l. inl refl)

-- ANY ACT

slot_came : (b : SlotState) (a : SlotAct) → MayHappen b a → (image : SlotImage) → SlotMayLeave (after_act a b) image → MediaCameFrom b image
slot_came b (Pulled m) may image left = pulled_came b m may image left
slot_came b (InsertedBlank size) may image left =
    let from = slot_before [] 0 b (InsertedBlank size) tt image left in stay b image from (from.left.removed ∙ sym left.removed)
slot_came b (InsertedOld i) may image left =
    elim (slice_get_cases b.removed i).1 [
      | inl at ↦ returned_came b i at.0 may.1 at.2 image (subst (λ o. SlotMayLeave (with_old i o b) image) at.2 left)
      | inr past ↦ absurd (omega (arith, past.0, may.1))
    ]
slot_came b (SectorDamaged l) may image left =
    let from = slot_before [] 0 b (SectorDamaged l) tt image left in stay b image from (from.left.removed ∙ sym left.removed)

-- LOOKS

-- every image that a crash may leave of the slot came from one before
pub AllCameFrom : SlotState → SlotState → Type 0
AllCameFrom before b = (image : SlotImage) → SlotMayLeave b image → MediaCameFrom before image

came_again : (before b : SlotState) (image : SlotImage) → MediaCameFrom b image → AllCameFrom before b → MediaCameFrom before image
unfolding AllCameFrom
came_again before b image from all =
    let come = all from.was from.left in
    record {
      was = come.was;
      left = come.left;
      place = λ p. come.place (from.place p);
      apart = λ p q same. from.apart p q (come.apart (from.place p) (from.place q) same);
      medium = λ p m is. by come p m (from.medium p m is);
    }
  where
    once_more : {was : SlotImage} {place : Location} {old m : Medium} → old.size ≡ m.size → AreDamagedCopies old.cell m.cell
        → IsFrom was place old → IsFrom was place m
    once_more size copies (Same first at same copied) = Same first at (same ∙ size) (copies_again copied copies)
    once_more size copies (New all) = New (copies_damaged all copies)

    by : (come : MediaCameFrom before from.was) (p : Location) (m : Medium) → IsFrom from.was (from.place p) m
        → IsFrom come.was (come.place (from.place p)) m
    by come p m (Same old at same copies) = once_more same copies (come.medium (from.place p) old at)
    by come p m (New all) = New all

came_first : (b : SlotState) → AllCameFrom b b
unfolding AllCameFrom
came_first b image left = record {
  was = image;
  left = left;
  place = λ p. p;
  apart = λ p q same. same;
  medium = λ p m is. Same m is refl (λ k. inl refl);
}

pub came_looking : {old new : List Happening} (j : ℕ) → Ran no_write old new → AllCameFrom (slot_state old j) (slot_state new j)
unfolding AllCameFrom
came_looking {old} {new} j ran =
    kept {allowed = no_write} {P = λ h. AllCameFrom (slot_state old j) (slot_state h j)}
    (keeps_slot {allowed = no_write} {j = j} {R = AllCameFrom (slot_state old j)} (record {
      act = λ b a may all image left. came_again (slot_state old j) b image (slot_came b a may image left) all;
      call = λ h c may answered all image left. all image (look_left (slot_state h j) j c may image left);
    })) ran (came_first (slot_state old j))

pub at_image : {before b : SlotState} → AllCameFrom before b → (image : SlotImage) → SlotMayLeave b image → MediaCameFrom before image
unfolding AllCameFrom
at_image all image left = all image left

-- REASSEMBLED SLOTS AND BORNE SUPERBLOCKS

reassembled_before : (b : SlotState) (image to : SlotImage) (from : MediaCameFrom b image) → IsReassembledSlot image to
    → IsReassembledSlot from.was to
reassembled_before b image to from (OneOf p m is size copies past) =
    elim (from.medium p m is) [
      | Same old at same copied ↦ OneOf (from.place p) old at (size ∙ ap Some (sym same)) (copies_again copied copies) past
      | New all ↦ Unwritten m.size size (copies_damaged all copies)
    ]
reassembled_before b image to from (Unwritten size is all) = Unwritten size is all
reassembled_before b image to from (Empty none all) = Empty none all

module _ (s : State) (encodings : Encodings s) (current_media : CurrentMedia) (since : ℕ) (old : List Happening) (image : Image)
    (from : (j : ℕ) → MediaCameFrom (slot_state old j) (image j)) where
  abbrev was : Image
  was j = (from j).was

  whole_before : (to : Image) → IsReassembly image to → IsReassembly was to
  whole_before to reassembly j = reassembled_before (slot_state old j) (image j) (to j) (from j) (reassembly j)

  borne_before : (j : ℕ) (p : Location) (t : Superblock) → IsBorne s.geometry image j p t → IsBorne s.geometry was j ((from j).place p) t
  borne_before j p t borne =
      elim ((from j).medium p borne.medium borne.is_one) [
        | Same old at same copied ↦ record { medium = old; is_one = at; bears = bears_before copied borne.bears }
        | New all ↦ absurd (good_whole borne.bears.holds.good (all borne.bears.place))
      ]

  since_before : (a : Superblock) → IsBorneSince s.geometry since image a → IsBorneSince s.geometry since was a
  since_before a borne = record {
    slot = borne.slot;
    place = (from borne.slot).place borne.place;
    borne = borne_before borne.slot borne.place a borne.borne;
    since_then = borne.since_then;
  }

  -- what holds of the media admitted in an epoch
  admitted_after : (joined j : ℕ) (Q R : Superblock → Type 0) → ((x : Superblock) → Q x → R x) → OfAdmitted s.geometry was joined Q j
      → OfAdmitted s.geometry image joined R j
  admitted_after joined j Q R map holds p m x is super slot geometry same first second =
      elim ((from j).medium p m is) [
        | Same old at size copied ↦
            map x
            (holds ((from j).place p) old x at (super_cells m.cell old.cell x (same_kept (copied 0) first) (same_kept (copied 1) second) super) slot
            geometry same (subst (λ (c : Cell). ¬ IsLost c) (same_kept (copied 0) first) first)
            (subst (λ (c : Cell). ¬ IsLost c) (same_kept (copied 1) second) second))
        | New all ↦
            let held = super_held m.cell x super in absurd (good_whole held.holds.good (all held.place))
      ]

  pub consistent_by_after : IsConsistentBy s encodings current_media since was → IsConsistentBy s encodings current_media since image
  consistent_by_after it = record {
    overtaken = λ i p a borne earlier.
        all_but_mapped {P = HasOvertaken s.geometry was a} {Q = HasOvertaken s.geometry image a}
        (λ j below over marked.
        admitted_after (joined_at a j) j (λ x. a.array.epoch < x.array.epoch) (λ x. a.array.epoch < x.array.epoch) (λ x less. less) (over marked))
        (it.overtaken i ((from i).place p) a (borne_before i p a borne) earlier);
    reserved =
        all_but_mapped {P = CurrentMediumReserved s.geometry current_media was} {Q = CurrentMediumReserved s.geometry current_media image}
        (λ j below reserved joined current_medium.
        admitted_after joined j
        (λ x. (i : ℕ) (q : Location) (t : Superblock) → IsBorne s.geometry was i q t → t.array.epoch ≤ x.draw)
        (λ x. (i : ℕ) (q : Location) (t : Superblock) → IsBorne s.geometry image i q t → t.array.epoch ≤ x.draw)
        (λ x above i q t borne. above i ((from i).place q) t (borne_before i q t borne)) (reserved joined current_medium))
        it.reserved;
    live = λ j a borne. it.live j a (since_before a borne);
    rebuilt = λ j joined a borne. it.rebuilt j joined a (since_before a borne);
    frozen = λ a borne. it.frozen a (since_before a borne);
    label = λ a borne. it.label a (since_before a borne);
    forms = λ to some reassembly. it.forms to some (whole_before to reassembly);
    full = λ to j reassembly. it.full to j (whole_before to reassembly);
    rebuilding = λ to j a b redo reassembly borne. it.rebuilding to j a b redo (whole_before to reassembly) (since_before a borne);
    one_list = λ i j p q a b first second.
        it.one_list i j ((from i).place p) ((from j).place q) a b (borne_before i p a first) (borne_before j q b second);
    own_joined = λ j p q a b first second same.
        (from j).apart p q
        (it.own_joined j ((from j).place p) ((from j).place q) a b (borne_before j p a first) (borne_before j q b second) same);
  }

-- marks and joined numbers of the state are no part of it
pub by_seats : (s : State) (seats : Option Seats) (encodings : Encodings s) (current_media : CurrentMedia) (since : ℕ) (image : Image)
    → IsConsistentBy s encodings current_media since image → IsConsistentBy (record s { seats = seats }) (reseated s seats encodings) current_media since image
by_seats s seats encodings current_media since image it = record {
  overtaken = it.overtaken;
  reserved = it.reserved;
  live = it.live;
  rebuilt = it.rebuilt;
  frozen = it.frozen;
  label = it.label;
  forms = it.forms;
  full = it.full;
  rebuilding = it.rebuilding;
  one_list = it.one_list;
  own_joined = it.own_joined;
}

-- acts, media put back too, and looks
pub looks_consistent : (s : State) (current_media : CurrentMedia) (since : ℕ) (old new : List Happening) → IsConsistentSince s current_media since old
    → Ran no_write old new → IsConsistentSince (without_seats s) current_media since new
looks_consistent s current_media since old new it ran = record {
  encodings = encodings_without_seats s it.encodings;
  each = λ image left.
      let from = λ (j : ℕ). at_image (came_looking j ran) (image j) (left j) in
      by_seats s None it.encodings current_media since image
      (consistent_by_after s it.encodings current_media since old image from (it.each (λ j. (from j).was) (λ j. (from j).left)));
  seats = tt;
  steady = steady_looks s.geometry old new ran it.steady;
}

-- such acts and looks leave a rack consistent under reassembly
pub looked_consistent : (s : State) (old new : List Happening) → IsConsistentUnderReassembly s old → Ran no_write old new
    → IsConsistentUnderReassembly (without_seats s) new
looked_consistent s old new it ran =
    record { current_media = it.current_media; since = it.since; is = looks_consistent s it.current_media it.since old new it.is ran }
