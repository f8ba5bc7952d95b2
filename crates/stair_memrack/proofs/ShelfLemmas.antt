-- The slots in memory, after acts of the outside and after calls.
use Rattle.std.proofs.Common.{◌≡◌, ◌≢◌, ℕ, ◌<◌, ◌≤◌, Bool, true, false, not, ◌&&◌, ◌||◌, List, ◌∷◌, length, replicate, inl, inr, refl, sym, ap, ap₂, ◌∙◌, subst, arith, Option, None, Some}
use Rattle.std.specs.Prelude.{is_some, nat_lt, slice_set}
use Rattle.std.proofs.lemmas.Bool.{cond-true, cond-false, cases_eq, cases_lt, ltb-true, lt-ltb, le-ltb, and_parts, and_from, and_left, and_right, not-true, not-false}
use Rattle.std.proofs.lemmas.List.{get_or-set_same, get_or-set_other, set-get_or, length-set}
use Rattle.stair_rack.specs.Media.{has_sector}
use Rattle.stair_rack.specs.History.{SlotAct, Pulled, InsertedBlank, InsertedOld, SectorDamaged, Happening, Stopped, Acted, after_act, slot_state, stopped}
use Rattle.stair_rack.proofs.StepLemmas.{slot_after_act, slot_after_act_elsewhere}
use Rattle.stair_memrack.specs.declared.act.What.{What}
use Rattle.stair_memrack.specs.declared.act.What.TheVariants.{Pull, PullLosing, InsertBlank, InsertOld, Damage, Stop}
use Rattle.stair_memrack.specs.declared.disk.Settling.{Settling}
use Rattle.stair_memrack.specs.declared.disk.Settling.TheVariants.{AsRead, AsSynced}
use Rattle.stair_memrack.specs.declared.disk.StoredSector.{StoredSector}
use Rattle.stair_memrack.specs.Disk.{unwritten}
use Rattle.stair_memrack.specs.Place.{PlaceState, no_place, pulled, inserted, inserted_old, damaged_at}
use Rattle.stair_memrack.specs.Script.{medium_kept, act_where, pull_of, followed_by, after_what}
use Rattle.stair_memrack.specs.Shelf.{writes_in, IsPlaceOf, IsShelfOf, place_at, changed, performed, is_stop, blank_for}
use Rattle.stair_memrack.proofs.PlaceLemmas.{is_full, removed-count, pulled-none, damaged-past, IsPlaceOf-pulled, IsPlaceOf-inserted, IsPlaceOf-inserted_old, IsPlaceOf-damaged}

-- a place that is changed, and the others
pub place-set_same : (places : List PlaceState) (j : ℕ) (p : PlaceState) → j < length places → place_at (slice_set places j p) j ≡ p
place-set_same places j p within = get_or-set_same places j p no_place within

pub place-set_other : (places : List PlaceState) (j i : ℕ) (p : PlaceState) → i ≢ j → place_at (slice_set places j p) i ≡ place_at places i
place-set_other places j i p other = get_or-set_other places j i p no_place other

-- one slot changes, and after the event its place stands as the slot does
pub IsShelfOf-set : (places : List PlaceState) (stop : Bool) (h h' : List Happening) (j : ℕ) (p : PlaceState) → j < 32 → IsShelfOf places stop h
    → stopped h' ≡ stopped h → IsPlaceOf (writes_in h' j) p (slot_state h' j)
    → ((i : ℕ) → i ≢ j → (slot_state h' i ≡ slot_state h i) × (writes_in h' i ≡ writes_in h i))
    → IsShelfOf (slice_set places j p) stop h'
IsShelfOf-set places stop h h' j p within is same here others = record {
  count = length-set places j p ∙ is.count;
  stopped_is = same ∙ is.stopped_is;
  beyond = λ i past. (others i (omega (arith, past, within))).0 ∙ is.beyond i past;
  each = λ i below. elim (cases_eq i j) [
    | inl at ↦
        let it : place_at (slice_set places j p) i ≡ p =
        ap (λ n. place_at (slice_set places j p) n) at ∙ place-set_same places j p (omega (arith, is.count)) in
        subst (λ q. IsPlaceOf (writes_in h' i) q (slot_state h' i)) (sym it) (subst (λ n. IsPlaceOf (writes_in h' n) p (slot_state h' n)) (sym at) here)
    | inr other ↦
        let same = others i other in
        subst (λ q. IsPlaceOf (writes_in h' i) q (slot_state h' i)) (sym (place-set_other places j i p other))
        (subst (λ b. IsPlaceOf (writes_in h' i) (place_at places i) b) (sym same.0)
        (subst (λ w. IsPlaceOf w (place_at places i) (slot_state h i)) (sym same.1) (is.each i below)))
  ];
}

-- there are no other slots
past_all : (j : ℕ) → 32 ≤ j → (places : List PlaceState) (stop : Bool) (h : List Happening) (act : SlotAct) (change : PlaceState → PlaceState) (applies : Bool)
    → IsShelfOf places stop h → IsShelfOf (changed j change places) stop (followed_by (act_where applies j act) h)
past_all j past places stop h act change applies is =
    let event : act_where applies j act ≡ None = cond-false _ _ _ (and_left (nat_lt j 32) applies (le-ltb j 32 past)) in
    let after : changed j change places ≡ places = cond-false _ _ _ (le-ltb j 32 past) in
    subst (λ e. IsShelfOf (changed j change places) stop (followed_by e h)) (sym event)
    (subst (λ ps. IsShelfOf ps stop h) (sym after) is)

-- an act on a slot
IsShelfOf-acted : (places : List PlaceState) (stop : Bool) (h : List Happening) (j : ℕ) (act : SlotAct) (change : PlaceState → PlaceState)
    → IsShelfOf places stop h → (applies : Bool)
    → (applies ≡ true → IsPlaceOf (writes_in h j) (place_at places j) (slot_state h j)
    → IsPlaceOf (writes_in h j) (change (place_at places j)) (after_act act (slot_state h j)))
    → (applies ≡ false → IsPlaceOf (writes_in h j) (place_at places j) (slot_state h j) → change (place_at places j) ≡ place_at places j)
    → IsShelfOf (changed j change places) stop (followed_by (act_where applies j act) h)
IsShelfOf-acted places stop h j act change is true does leaves =
    elim (cases_lt j 32) [
      | inl within ↦
          let event : act_where true j act ≡ Some (Acted j act) = cond-true _ _ _ (and_from _ _ (lt-ltb j 32 within) refl) in
          let after : changed j change places ≡ slice_set places j (change (place_at places j)) = cond-true _ _ _ (lt-ltb j 32 within) in
          let here : IsPlaceOf (writes_in h j) (change (place_at places j)) (slot_state (Acted j act ∷ h) j) =
          subst (λ b. IsPlaceOf (writes_in h j) (change (place_at places j)) b) (sym (slot_after_act h j act)) (does refl (is.each j within)) in
          subst (λ e. IsShelfOf (changed j change places) stop (followed_by e h)) (sym event)
          (subst (λ ps. IsShelfOf ps stop (Acted j act ∷ h)) (sym after)
          (IsShelfOf-set places stop h (Acted j act ∷ h) j (change (place_at places j)) within is refl here
          (λ i other. (slot_after_act_elsewhere h j i act (λ same. other (sym same)), refl))))
      | inr past ↦ past_all j past places stop h act change true is
    ]
IsShelfOf-acted places stop h j act change is false does leaves =
    elim (cases_lt j 32) [
      | inl within ↦
          let event : act_where false j act ≡ None = cond-false _ _ _ (and_right (nat_lt j 32) false refl) in
          let after : changed j change places ≡ places =
          cond-true _ _ _ (lt-ltb j 32 within)
          ∙ ap (λ p. slice_set places j p) (leaves refl (is.each j within))
          ∙ set-get_or places j no_place in
          subst (λ e. IsShelfOf (changed j change places) stop (followed_by e h)) (sym event)
          (subst (λ ps. IsShelfOf ps stop h) (sym after) is)
      | inr past ↦ past_all j past places stop h act change false is
    ]

or-false : (b : Bool) → (b || false) ≡ b
or-false true = refl
or-false false = refl

or-true : (b : Bool) → (b || true) ≡ true
or-true true = refl
or-true false = refl

IsShelfOf-pulled : (how : Settling) (places : List PlaceState) (stop : Bool) (h : List Happening) (j : ℕ) → IsShelfOf places stop h
    → IsShelfOf (changed j (pulled how) places) (stop || false) (followed_by (pull_of how j h) h)
IsShelfOf-pulled how places stop h j is =
    subst (λ s. IsShelfOf (changed j (pulled how) places) s (followed_by (pull_of how j h) h)) (sym (or-false stop))
    (IsShelfOf-acted places stop h j (Pulled (medium_kept how (slot_state h j))) (pulled how) is (is_some (slot_state h j).size)
    (λ full here. IsPlaceOf-pulled how (place_at places j) (slot_state h j) here full)
    (λ empty here. pulled-none how (place_at places j) (sym (is_full (place_at places j) (slot_state h j) here) ∙ empty)))

-- what an act does to the slots in memory is what it does to the rack
pub IsShelfOf-performed : (what : What) (blank : Option (List StoredSector)) (places : List PlaceState) (stop : Bool) (h : List Happening)
    → blank ≡ blank_for what → IsShelfOf places stop h → IsShelfOf (performed what blank places) (stop || is_stop what) (after_what what h)
IsShelfOf-performed (Pull j) blank places stop h given is = IsShelfOf-pulled AsRead places stop h j is
IsShelfOf-performed (PullLosing j) blank places stop h given is = IsShelfOf-pulled AsSynced places stop h j is
IsShelfOf-performed (InsertBlank j size) blank places stop h given is =
    subst (λ s. IsShelfOf (performed (InsertBlank j size) blank places) s (after_what (InsertBlank j size) h)) (sym (or-false stop))
    (subst (λ m. IsShelfOf (changed j (inserted m) places) stop (after_what (InsertBlank j size) h)) (sym given)
    (IsShelfOf-acted places stop h j (InsertedBlank size) (inserted (Some (replicate size unwritten))) is (not (is_some (slot_state h j).size))
    (λ empty here. IsPlaceOf-inserted (place_at places j) (slot_state h j) size here (not-true _ empty))
    (λ full here. cond-true _ _ _ (sym (is_full (place_at places j) (slot_state h j) here) ∙ not-false _ full))))
IsShelfOf-performed (InsertOld j i) blank places stop h given is =
    subst (λ s. IsShelfOf (performed (InsertOld j i) blank places) s (after_what (InsertOld j i) h)) (sym (or-false stop))
    (IsShelfOf-acted places stop h j (InsertedOld i) (inserted_old i) is
    (not (is_some (slot_state h j).size) && nat_lt i (length (slot_state h j).removed))
    (λ may here.
    let both = and_parts _ _ may in
    IsPlaceOf-inserted_old (place_at places j) (slot_state h j) i here (not-true _ both.0) (ltb-true _ _ both.1))
    (λ may here.
    cond-false _ _ _
    (ap₂ (λ (x : Bool) (n : ℕ). not x && nat_lt i n) (sym (is_full (place_at places j) (slot_state h j) here))
    (sym (removed-count (place_at places j) (slot_state h j) here))
    ∙ may)))
IsShelfOf-performed (Damage j k) blank places stop h given is =
    subst (λ s. IsShelfOf (performed (Damage j k) blank places) s (after_what (Damage j k) h)) (sym (or-false stop))
    (IsShelfOf-acted places stop h j (SectorDamaged k) (damaged_at k) is (has_sector (slot_state h j).size k)
    (λ has here. IsPlaceOf-damaged (place_at places j) (slot_state h j) k here has)
    (λ has here. damaged-past (place_at places j) (slot_state h j) k here has))
IsShelfOf-performed Stop blank places stop h given is =
    subst (λ s. IsShelfOf places s (Stopped ∷ h)) (sym (or-true stop)) (record { count = is.count; stopped_is = refl; each = is.each; beyond = is.beyond })
