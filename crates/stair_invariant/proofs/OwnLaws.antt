-- A slot that is held, where nothing came back; and its own superblock, whichever media come back.
use Rattle.std.proofs.Common.{◌≡◌, ◌≢◌, ℕ, ◌-◌, ◌^◌, ◌<◌, ◌≤◌, List, [], ◌∷◌, true, false, ◌⊎◌, inl, inr, refl, sym, ap, ◌∙◌, subst, arith, true≢false}
use Rattle.std.specs.Prelude.{Contains, IsSome, IsTrue, is_some, not, slice_get, ◌&&◌}
use Rattle.std.proofs.lemmas.Bool.{cases_Bool, cases_eq, cases_lt, false≢true}
use Rattle.stair_model.specs.Slots.{Slots}
use Rattle.stair_rack.specs.Answers.{IsAnswered, IsBesideAttach, IsHistory, IsNoAttach, Ran, any_call, is_ready}
use Rattle.stair_rack.specs.History.{Happening, Made, Stopped, Acted, Called, SlotAct, Pulled, InsertedBlank, InsertedOld, SectorDamaged, SlotCall, Attach, Sectors, Read, Write, Sync, SlotState, after_act, after_call, slot_state, stopped}
use Rattle.stair_rack.specs.Crash.{CrashMayLeave}
use Rattle.stair_rack.specs.Media.{Image, has_sector}
use Rattle.stair_rack.specs.Offline.{IsAttached, IsHeld, InUse, IsKept, RackStopped, Unattached, WasPulled}
use Rattle.stair_rack.specs.Outside.{IsAct, MayHappen}
use Rattle.stair_rack.specs.Sector.{Cell, Good, MayLeave, Sector, content, damaged, synced, wrote}
use Rattle.stair_rack.specs.Stretch.{NothingReturned, ReturnsNothing}
use Rattle.stair_rack.specs.declared.rack.Reply.TheVariants as reply
use Rattle.stair_rack.proofs.CrashLemmas.{nothing_unsynced, settled_left}
use Rattle.stair_rack.proofs.KeptLemmas.{IsKept-now, SectorKeeps, keeps_sector, not_none, with_old_cases, with_sector_cases}
use Rattle.stair_rack.proofs.MomentLemmas.{at_last, ran_weakened}
use Rattle.stair_rack.proofs.OfflineLemmas.{and-false, and-true_left, reply_if-Done, reply_if-Gone}
use Rattle.stair_rack.proofs.StepLemmas.{SlotKeeps, kept, keeps_slot, slot_act_cases, slot_call_cases}
use Rattle.stair_rack.proofs.StretchLemmas.{kept_where}
use Rattle.stair_rack.proofs.TidyLemmas.{history_tidy}
use Rattle.stair_super.specs.Newer.{IsOlder}
use Rattle.stair_super.specs.Spelling.{spelled}
use Rattle.stair_super.specs.Superblock.{Superblock, IsSuperblock, mark_in}
use Rattle.stair_super.specs.declared.mark.Mark.{Mark}
use Rattle.stair_super.specs.declared.mark.Mark.TheVariants as mark
use Rattle.stair_super.specs.declared.mark.Mark.TheVariants.{Down, Live}
use Rattle.stair_member.specs.Aims.{admitted}
use Rattle.stair_member.specs.Current.{ByOutside, IsLost}
use Rattle.stair_member.specs.Editions.{Edition, copy_of, edition_of}
use Rattle.stair_member.specs.Epochs.{ASync, AWrite, IsIssuing, IsOnDisk, IsPlaceSettled, Issued, Stands, StandsOnDisk}
use Rattle.stair_member.specs.Fencing.{HasStood}
use Rattle.stair_member.specs.Membership.{IsHere, IsMarkedFor, IsMembership, Membership, place_of, why_of}
use Rattle.stair_member.specs.Reserve.{HasReached}
use Rattle.stair_member.specs.Superblocks.{First, HoldsSuper, IsSuperOf, Second}
use Rattle.stair_member.specs.declared.aim.EpochChange.{EpochChange}
use Rattle.stair_member.specs.declared.why.Why.{Why}
use Rattle.stair_member.specs.declared.why.Why.TheVariants.{Here, Rebuilding}
use Rattle.stair_member.proofs.AgainLemmas.{stayed}
use Rattle.stair_member.proofs.EditionLemmas.{holds_copy, none_held_there, spells_copy}
use Rattle.stair_member.proofs.FencingLemmas.{known}
use Rattle.stair_member.proofs.SuperLemmas.{holds_once}
use Rattle.stair_state.specs.Redoing.{AttachesNone}
use Rattle.stair_state.proofs.SeenLemmas.{whole_places}
use Rattle.stair_invariant.specs.Changing.{IsAttachedOrBare}
use Rattle.stair_invariant.specs.InSession.{IsBehindPlaces}
use Rattle.stair_invariant.specs.Returning.{HasOwnNewest}
use Rattle.stair_invariant.specs.Session.{HasOwn, IsOwnSector, own_super}

-- SLOTS THAT WERE PULLED

-- no medium was pulled since there had been so many pulls; or the slot is attached to one, or bare
data IsThereOrBare (pulls : ℕ) (b : SlotState) : Type 0 where
  NonePulled : b.pulls ≡ pulls → IsThereOrBare pulls b
  There : b.attached ≡ true → IsSome b.size → IsThereOrBare pulls b
  Bare : b.attached ≡ false → ((k : ℕ) → b.sector k ≡ damaged) → IsThereOrBare pulls b

there_act : (pulls : ℕ) (h : List Happening) (j : ℕ) (b : SlotState) (a : SlotAct) → MayHappen b a → ReturnsNothing h (Acted j a) → IsThereOrBare pulls b
    → IsThereOrBare pulls (after_act a b)
there_act pulls h j b (Pulled m) may none was = Bare refl (λ k. refl)
there_act pulls h j b (InsertedBlank size) may none (NonePulled same) = NonePulled same
there_act pulls h j b (InsertedBlank size) may none (There on some) = absurd (not_none b.size may some)
there_act pulls h j b (InsertedBlank size) may none (Bare off all) = Bare off (λ k. refl)
there_act pulls h j b (InsertedOld i) may none was = absurd none
there_act pulls h j b (SectorDamaged l) may none (NonePulled same) = NonePulled same
there_act pulls h j b (SectorDamaged l) may none (There on some) = There on some
there_act pulls h j b (SectorDamaged l) may none (Bare off all) =
    Bare off (λ k. with_sector_cases (λ s. s ≡ damaged) l k damaged b (λ at. refl) (all k))

-- a slot that isn't attached isn't written
unwritten_off : (h : List Happening) (j k : ℕ) (bytes : List ℕ) → (slot_state h j).attached ≡ false
    → ¬ IsAnswered h j (Write k bytes reply.Done)
unwritten_off h j k bytes off answered =
    let both = reply_if-Done (is_ready h j && has_sector (slot_state h j).size k) answered in
    let ready = and-true_left (is_ready h j) (has_sector (slot_state h j).size k) both in
    false≢true (sym off ∙ and-true_left (slot_state h j).attached (not (stopped h)) ready)

-- on a rack that goes on an attach finds the medium that is there
there_call : (pulls : ℕ) (h : List Happening) (j : ℕ) (c : SlotCall) → IsAnswered h j c → stopped h ≡ false → IsThereOrBare pulls (slot_state h j)
    → IsThereOrBare pulls (after_call c (slot_state h j))
there_call pulls h j (Attach reply.Done) answered goes_on was =
    There refl (and-true_left (is_some (slot_state h j).size) (not (stopped h)) (reply_if-Done _ answered))
there_call pulls h j (Attach reply.Gone) answered goes_on (NonePulled same) = NonePulled same
there_call pulls h j (Attach reply.Gone) answered goes_on (There on some) =
    let none = and-false (is_some (slot_state h j).size) (not (stopped h)) (reply_if-Gone _ answered) some in
    absurd (true≢false (sym (ap not goes_on) ∙ none))
there_call pulls h j (Attach reply.Gone) answered goes_on (Bare off all) = Bare refl all
there_call pulls h j (Sectors size) answered goes_on was = was
there_call pulls h j (Read k answer) answered goes_on was = was
there_call pulls h j (Write k bytes reply.Done) answered goes_on (NonePulled same) = NonePulled same
there_call pulls h j (Write k bytes reply.Done) answered goes_on (There on some) = There on some
there_call pulls h j (Write k bytes reply.Done) answered goes_on (Bare off all) = absurd (unwritten_off h j k bytes off answered)
there_call pulls h j (Write k bytes reply.Gone) answered goes_on was = was
there_call pulls h j (Sync reply.Done) answered goes_on (NonePulled same) = NonePulled same
there_call pulls h j (Sync reply.Done) answered goes_on (There on some) = There on some
there_call pulls h j (Sync reply.Done) answered goes_on (Bare off all) = Bare off (λ k. ap synced (all k))
there_call pulls h j (Sync reply.Gone) answered goes_on was = was

-- through a stretch in which nothing comes back
there_on : (old new : List Happening) (j : ℕ) → Ran any_call old new → NothingReturned old new
    → IsTrue (stopped new) ⊎ IsThereOrBare (slot_state old j).pulls (slot_state new j)
there_on old new j ran none =
    at_last {P = Fact} (kept_where {P = ReturnsNothing} {allowed = any_call} {R = Fact} (record { act = on_act; call = on_call }) ran none (inr (NonePulled refl)))
  where
    Fact : List Happening → Type 0
    Fact h = IsTrue (stopped h) ⊎ IsThereOrBare (slot_state old j).pulls (slot_state h j)

    on_act : (h : List Happening) (e : Happening) → IsAct h e → ReturnsNothing h e → Fact h → Fact (e ∷ h)
    on_act h (Made image) may nothing before = absurd may
    on_act h Stopped may nothing before = inl refl
    on_act h (Acted i a) may nothing (inl is_stopped) = inl is_stopped
    on_act h (Acted i a) may nothing (inr before) =
        inr
        (slot_act_cases (IsThereOrBare (slot_state old j).pulls) h i j a
        (λ same.
        there_act (slot_state old j).pulls h j (slot_state h j) a (subst (λ (n : ℕ). MayHappen (slot_state h n) a) same may.1)
        (subst (λ (n : ℕ). ReturnsNothing h (Acted n a)) same nothing) before) before)
    on_act h (Called i c) may nothing before = absurd may

    on_call : (h : List Happening) (i : ℕ) (c : SlotCall) → any_call i c → IsAnswered h i c → ReturnsNothing h (Called i c) → Fact h
        → Fact (Called i c ∷ h)
    on_call h i c may answered nothing (inl is_stopped) = inl is_stopped
    on_call h i c may answered nothing (inr before) =
        elim (cases_Bool (stopped h)) [
          | inl is_stopped ↦ inl is_stopped
          | inr goes_on ↦
              inr
              (slot_call_cases (IsThereOrBare (slot_state old j).pulls) h i j c
              (λ same. there_call (slot_state old j).pulls h j c (subst (λ (n : ℕ). IsAnswered h n c) same answered) goes_on before) before)
        ]

-- so a held slot is attached or bare, unless the rack is stopped
pub attached_or_bare : (before h : List Happening) (j : ℕ) → Ran any_call before h → NothingReturned before h → IsHeld before h j
    → IsTrue (stopped h) ⊎ IsAttachedOrBare h j
attached_or_bare before h j ran none (RackStopped is_stopped) = inl is_stopped
attached_or_bare before h j ran none (InUse on some least) = inr (inl (on, some))
attached_or_bare before h j ran none (Unattached off pulled) =
    elim (there_on before h j ran none) [ inl is_stopped ↦ inl is_stopped | inr is ↦ by is ]
  where
    by : IsThereOrBare (slot_state before j).pulls (slot_state h j) → IsTrue (stopped h) ⊎ IsAttachedOrBare h j
    by (NonePulled same) = absurd (omega (arith, pulled, same))
    by (There on some) = absurd (true≢false (sym on ∙ off))
    by (Bare apart all) = inr (inr (off, all))

-- A SLOT'S OWN SUPERBLOCK

not_down : (why : Why) (marked : Mark) → (why ≡ Here) ⊎ (why ≡ Rebuilding) → IsMarkedFor why marked → marked ≢ Down
not_down why marked (inl here) is down =
    let live : marked ≡ Live = subst (λ (w : Why). IsMarkedFor w marked) here is in
    let clash : Live ≡ Down = sym live ∙ down in cc
not_down why marked (inr rebuilt) is down =
    let is_rebuilt : marked ≡ mark.Rebuilding = subst (λ (w : Why). IsMarkedFor w marked) rebuilt is in
    let clash : mark.Rebuilding ≡ Down = sym is_rebuilt ∙ down in cc

-- that of a slot which takes part is one
pub own_formed : (m : Membership) (draw j : ℕ) → IsMembership m → IsHere m j → m.array.epoch ≤ draw → draw ≤ m.drawn
    → IsSuperblock (own_super m draw j)
own_formed m draw j is here reached seen = record {
  sizes = record {
    id = is.sizes.id;
    draw = let few : m.drawn < 2 ^ 64 = is.sizes.drawn in omega (arith, seen, few);
    marks = is.sizes.marks;
    joins = is.sizes.joins;
    label = is.sizes.label;
  };
  rules = record {
    array = is.array;
    slot_in = here.below;
    drawn = reached;
    here = not_down (why_of m j) (mark_in m.array j) here.why (is.marked j here.below);
    own = refl;
  };
}

-- the place that a slot's next superblock is written to is one of the two
place_below : (m : Membership) (j : ℕ) → IsMembership m → j < m.array.geometry.n → place_of m j < 2
place_below m j is below =
    let few : m.array.geometry.n ≤ 32 = is.array.limits.devices.1 in
    is.places j (omega (arith, below, few))

-- of superblocks of which neither is older the second has no earlier epoch
none_older : (a b : Superblock) → ¬ IsOlder a b → ¬ IsOlder b a → a.array.epoch ≤ b.array.epoch
none_older a b first second =
    elim (cases_lt b.array.epoch a.array.epoch) [
      | inr not ↦ not
      | inl less ↦
          elim (cases_lt a.draw b.draw) [
            | inl lower ↦ absurd (first (inl lower))
            | inr most ↦
                elim (cases_lt b.draw a.draw) [
                  | inl lower ↦ absurd (second (inl lower))
                  | inr least ↦ absurd (second (inr (omega (arith, most, least), less)))
                ]
          ]
    ]

module _ (m : Membership) (h : List Happening) (image : Image) (j : ℕ) (is : IsMembership m) (here : IsHere m j) (own : HasOwn m h j)
    (left : CrashMayLeave h image) where
  abbrev mine : Superblock
  mine = own_super m own.draw j

  pub mine_formed : IsSuperblock mine
  mine_formed = own_formed m own.draw j is here own.reached own.seen

  -- its places are as they are read
  pub as_read : (k : ℕ) → k < 2 → (image j).cell k ≡ content ((slot_state h j).sector k)
  as_read k place =
      let same = nothing_unsynced ((slot_state h j).sector k) (own.settled_both k place) in
      settled_left ((slot_state h j).sector k).base ((image j).cell k) (subst (λ s. MayLeave s ((image j).cell k)) same ((left j).each k))
      ∙ sym (ap content same)

  module _ (s : Superblock) (whole : (k : ℕ) → k < 2 → ¬ IsLost ((image j).cell k)) where
    -- aside lies its own,
    aside : (k : ℕ) → k ≡ 1 - place_of m j → k < 2 → HoldsSuper ((image j).cell k) mine
    aside k at place =
        elim own.own [
          | inl harmed ↦
              absurd
              (whole k place (ByOutside (as_read k place ∙ ap (λ (l : ℕ). content ((slot_state h j).sector l)) at ∙ ap content harmed)))
          | inr stands ↦ record {
            bytes = spelled mine;
            good = as_read k place ∙ ap (λ (l : ℕ). content ((slot_state h j).sector l)) at ∙ ap content stands;
            spells = spells_copy (record { array = m.array; draw = own.draw }) j mine_formed;
          }
        ]

    -- and in the place that comes next none that is newer
    next : (k : ℕ) → k ≡ place_of m j → k < 2 → HoldsSuper ((image j).cell k) s → ¬ IsOlder mine s
    next k at place holds =
        own.newest s (subst (λ (cell : Cell). HoldsSuper cell s) (as_read k place ∙ ap (λ (l : ℕ). content ((slot_state h j).sector l)) at) holds)

    same_epoch : (k : ℕ) → k ≡ 1 - place_of m j → k < 2 → HoldsSuper ((image j).cell k) s → m.array.epoch ≤ s.array.epoch
    same_epoch k at place holds =
        let same : mine ≡ s = holds_once ((image j).cell k) mine s (aside k at place) holds in
        let epoch : m.array.epoch ≡ s.array.epoch = ap (λ (t : Superblock). t.array.epoch) same in
        omega (arith, epoch)

    by_super : IsSuperOf ((image j).cell) s → m.array.epoch ≤ s.array.epoch
    by_super (First holds rest) =
        elim (cases_lt (place_of m j) 1) [
          | inl first ↦ none_older mine s (next 0 (omega (arith, first)) (omega arith) holds) (rest mine (aside 1 (omega (arith, first)) (omega arith)))
          | inr second ↦ same_epoch 0 (omega (arith, second)) (omega arith) holds
        ]
    by_super (Second holds older) =
        elim (cases_lt (place_of m j) 1) [
          | inl first ↦ same_epoch 1 (omega (arith, first)) (omega arith) holds
          | inr second ↦
              let below : place_of m j < 2 = place_below m j is here.below in
              absurd (next 1 (omega (arith, second, below)) (omega arith) holds (older mine (aside 0 (omega (arith, second)) (omega arith))))
        ]

  -- so a slot that has it has reached the member's epoch
  pub own_reached : HasReached m.array.geometry image m.array.epoch j
  own_reached s counts first second = by_super s (whole_places image j first second) counts.super

-- THE SAME MEDIUM

-- if the slot is attached at all it was so at first, to the same medium
data IsSameIfAttached (first : SlotState) (b : SlotState) : Type 0 where
  Off : b.attached ≡ false → IsSameIfAttached first b
  On : first.attached ≡ true → b.pulls ≡ first.pulls → IsSameIfAttached first b

same_keeps : (first : SlotState) (j : ℕ) → SlotKeeps (IsNoAttach j) j (IsSameIfAttached first)
same_keeps first j =
    record { act = on_act; call = λ h c may is before. on_call (slot_state h j) c (may refl) before }
  where
    on_act : (b : SlotState) (a : SlotAct) → MayHappen b a → IsSameIfAttached first b → IsSameIfAttached first (after_act a b)
    on_act b (Pulled m) may before = Off refl
    on_act b (InsertedBlank size) may (Off off) = Off off
    on_act b (InsertedBlank size) may (On on same) = On on same
    on_act b (InsertedOld i) may before =
        with_old_cases (IsSameIfAttached first) i (slice_get b.removed i) b before
        (λ m. elim before [ Off off ↦ Off off | On on same ↦ On on same ])
    on_act b (SectorDamaged k) may (Off off) = Off off
    on_act b (SectorDamaged k) may (On on same) = On on same

    on_call : (b : SlotState) (c : SlotCall) → IsBesideAttach c → IsSameIfAttached first b → IsSameIfAttached first (after_call c b)
    on_call b (Attach answer) is before = absurd is
    on_call b (Sectors size) is before = before
    on_call b (Read k answer) is before = before
    on_call b (Write k bytes reply.Done) is (Off off) = Off off
    on_call b (Write k bytes reply.Done) is (On on same) = On on same
    on_call b (Write k bytes reply.Gone) is before = before
    on_call b (Sync reply.Done) is (Off off) = Off off
    on_call b (Sync reply.Done) is (On on same) = On on same
    on_call b (Sync reply.Gone) is before = before

-- a slot that is attached after calls that attach it not was so before, and wasn't pulled since
pub attached_since : (old new : List Happening) (j : ℕ) → Ran (IsNoAttach j) old new → IsAttached new j
    → IsAttached old j × ((slot_state new j).pulls ≡ (slot_state old j).pulls)
attached_since old new j ran on =
    by (kept {allowed = IsNoAttach j} {P = λ h. IsSameIfAttached (slot_state old j) (slot_state h j)} (keeps_slot (same_keeps (slot_state old j) j)) ran first)
  where
    first : IsSameIfAttached (slot_state old j) (slot_state old j)
    first = elim (cases_Bool (slot_state old j).attached) [ inl is ↦ On is refl | inr off ↦ Off off ]

    by : IsSameIfAttached (slot_state old j) (slot_state new j) → IsAttached old j × ((slot_state new j).pulls ≡ (slot_state old j).pulls)
    by (Off off) = absurd (true≢false (sym on ∙ off))
    by (On was same) = (was, same)

-- IT STAYS

-- a settled sector is what a sync makes of it
synced_same : (s : Sector) → s.since ≡ [] → synced s ≡ s
synced_same s none = let same = nothing_unsynced s none in ap synced same ∙ sym same

place_keeps : (j k : ℕ) (first : Sector) → k < 2 → first.since ≡ [] → SectorKeeps IsBehindPlaces j k (λ s. s ≡ first)
place_keeps j k first place none = record {
  write = λ bytes s may before. absurd (omega (arith, may, place));
  sync = λ s may same. ap synced same ∙ synced_same first none;
}

module _ (m : Membership) (h new : List Happening) (j : ℕ) (is : IsMembership m) (below : j < m.array.geometry.n) (history : IsHistory h)
    (on : IsAttached h j) (own : HasOwn m h j) (ran : Ran IsBehindPlaces h new) (still : ¬ WasPulled h new j) where
  -- its places are as they were, or damaged
  place_kept : (k : ℕ) → k < 2 → ((slot_state new j).sector k ≡ damaged) ⊎ ((slot_state new j).sector k ≡ (slot_state h j).sector k)
  place_kept k place =
      by
      (kept {allowed = IsBehindPlaces} {P = λ g. IsKept (slot_state h j).pulls k (λ s. s ≡ (slot_state h j).sector k) (slot_state g j)}
      (keeps_sector {allowed = IsBehindPlaces} {j = j} {k = k} {P = λ s. s ≡ (slot_state h j).sector k} (slot_state h j).pulls
      (place_keeps j k ((slot_state h j).sector k) place (own.settled_both k place))) ran
      (IsKept-now h j k ((history_tidy history).attached j on)))
    where
      by : IsKept (slot_state h j).pulls k (λ s. s ≡ (slot_state h j).sector k) (slot_state new j)
          → ((slot_state new j).sector k ≡ damaged) ⊎ ((slot_state new j).sector k ≡ (slot_state h j).sector k)
      by (IsKept.Here same some so) = so
      by (IsKept.Lost less) = absurd (still less)

  next_in : place_of m j < 2
  next_in = place_below m j is below

  -- so a slot has its own superblock still
  pub own_kept : HasOwn m new j
  own_kept = record {
    draw = own.draw;
    reached = own.reached;
    seen = own.seen;
    own =
        elim (place_kept (1 - place_of m j) (omega arith)) [
          | inl harmed ↦ inl harmed
          | inr same ↦ elim own.own [ inl harmed ↦ inl (same ∙ harmed) | inr stands ↦ inr (same ∙ stands) ]
        ];
    newest = λ other holds.
        elim (place_kept (place_of m j) next_in) [
          | inl harmed ↦ absurd (none_held_there (content ((slot_state new j).sector (place_of m j))) other (ap content harmed) holds)
          | inr same ↦ own.newest other (subst (λ (s : Sector). HoldsSuper (content s) other) same holds)
        ];
    settled_both = λ k place.
        elim (place_kept k place) [
          | inl harmed ↦ ap (λ (s : Sector). s.since) harmed
          | inr same ↦ ap (λ (s : Sector). s.since) same ∙ own.settled_both k place
        ];
  }

  -- and where nothing ties with it that's so still
  pub newest_kept : ((other : Superblock) → HoldsSuper (content ((slot_state h j).sector (place_of m j))) other
      → (other ≡ own_super m own.draw j) ⊎ IsOlder other (own_super m own.draw j)) → HasOwnNewest m new j
  unfolding own_kept
  newest_kept newest = record {
    own = own_kept;
    newest = λ other holds.
        elim (place_kept (place_of m j) next_in) [
          | inl harmed ↦ absurd (none_held_there (content ((slot_state new j).sector (place_of m j))) other (ap content harmed) holds)
          | inr same ↦ newest other (subst (λ (s : Sector). HoldsSuper (content s) other) same holds)
        ];
  }

-- and each that takes part, through calls that attach none of them
module _ (m : Membership) (h new : List Happening) (is : IsMembership m) (history : IsHistory h)
    (ran : Ran (λ i c. IsBehindPlaces i c × AttachesNone (IsHere m) i c) h new) (j : ℕ) (here : IsHere m j) (on : IsAttached new j) where
  was_attached : IsAttached h j × ((slot_state new j).pulls ≡ (slot_state h j).pulls)
  was_attached =
      attached_since h new j
      (ran_weakened {allowed = λ i c. IsBehindPlaces i c × AttachesNone (IsHere m) i c} {more = IsNoAttach j}
      (λ i c may at. may.1 (subst (IsHere m) (sym at) here)) ran) on

  ran_behind : Ran IsBehindPlaces h new
  ran_behind = ran_weakened {allowed = λ i c. IsBehindPlaces i c × AttachesNone (IsHere m) i c} {more = IsBehindPlaces} (λ i c may. may.0) ran

  pub own_beside_of : (IsAttached h j → HasOwn m h j) → HasOwn m new j
  own_beside_of own =
      own_kept m h new j is here.below history was_attached.0 (own was_attached.0) ran_behind (λ pulled. omega (arith, pulled, was_attached.1))

  pub newest_beside : (IsAttached h j → HasOwnNewest m h j) → HasOwnNewest m new j
  newest_beside own =
      let was = own was_attached.0 in
      newest_kept m h new j is here.below history was_attached.0 was.own ran_behind (λ pulled. omega (arith, pulled, was_attached.1)) was.newest

pub own_beside : (m : Membership) (h new : List Happening) → IsMembership m → IsHistory h
    → ((j : ℕ) → IsHere m j → IsAttached h j → HasOwn m h j)
    → Ran (λ i c. IsBehindPlaces i c × AttachesNone (IsHere m) i c) h new → (j : ℕ) → IsHere m j → IsAttached new j → HasOwn m new j
own_beside m h new is history own ran j here on = own_beside_of m h new is history ran j here on (own j here)

-- ONCE AN EPOCH STANDS

issuing_attaches : (slots : Slots) (editions : List Edition) (j i : ℕ) (c : SlotCall) → IsIssuing slots editions i c → IsNoAttach j i c
issuing_attaches slots editions j i c (AWrite e k answer on among formed small is) at = subst IsBesideAttach (sym is) tt
issuing_attaches slots editions j i c (ASync answer on is) at = subst IsBesideAttach (sym is) tt

-- what a place of slot j reads as to which these editions are written: what it read as at first, or one of them
abbrev IsFrom : List Edition → ℕ → Cell → Sector → Type 0
IsFrom editions j first s = (content s ≡ first)
    ⊎ ((e : Edition) × Contains editions e × IsSuperblock (copy_of e j) × (content s ≡ Good (spelled (copy_of e j))))

from_keeps : (slots : Slots) (editions : List Edition) (j k : ℕ) (first : Cell) → SectorKeeps (IsIssuing slots editions) j k (IsFrom editions j first)
from_keeps slots editions j k first = record { write = λ bytes s may before. written bytes s may; sync = λ s may before. before }
  where
    written : (bytes : List ℕ) (s : Sector) → IsIssuing slots editions j (Write k bytes reply.Done) → IsFrom editions j first (wrote bytes s)
    written bytes s (AWrite e l answer on among formed small is) =
        let same : bytes ≡ spelled (copy_of e j) = cc in inr (e, among, formed, ap Good same)
    written bytes s (ASync answer on is) = absurd (cc)

-- a slot with its own superblock holds no draw that wasn't seen
pub own_drawn : (m : Membership) (h : List Happening) (j k : ℕ) (s : Superblock) → IsMembership m → IsHere m j → HasOwn m h j → k < 2
    → HoldsSuper (content ((slot_state h j).sector k)) s → s.draw ≤ m.drawn
own_drawn m h j k s is here own place holds =
    elim (cases_eq k (place_of m j)) [
      | inl at ↦ in_next (subst (λ (l : ℕ). HoldsSuper (content ((slot_state h j).sector l)) s) at holds)
      | inr other ↦ lies_aside (omega (arith, other, place, next_in)) own.own
    ]
  where
    next_in : place_of m j < 2
    next_in = place_below m j is here.below

    in_next : HoldsSuper (content ((slot_state h j).sector (place_of m j))) s → s.draw ≤ m.drawn
    in_next there =
        let seen : own.draw ≤ m.drawn = own.seen in
        elim (cases_lt own.draw s.draw) [ inl lower ↦ absurd (own.newest s there (inl lower)) | inr most ↦ omega (arith, most, seen) ]

    lies_aside : k ≡ 1 - place_of m j
        → ((slot_state h j).sector (1 - place_of m j) ≡ damaged) ⊎ IsOwnSector m own.draw j ((slot_state h j).sector (1 - place_of m j))
        → s.draw ≤ m.drawn
    lies_aside at (inl harmed) =
        absurd
        (none_held_there (content ((slot_state h j).sector k)) s
        (ap (λ (l : ℕ). content ((slot_state h j).sector l)) at ∙ ap content harmed) holds)
    lies_aside at (inr stands) =
        let seen : own.draw ≤ m.drawn = own.seen in
        let same : s ≡ own_super m own.draw j =
        holds_once (content ((slot_state h j).sector k)) s (own_super m own.draw j) holds
        (holds_copy (content ((slot_state h j).sector k)) (record { array = m.array; draw = own.draw }) j
        (own_formed m own.draw j is here own.reached own.seen)
        (ap (λ (l : ℕ). content ((slot_state h j).sector l)) at ∙ ap content stands)) in
        let draw : s.draw ≡ own.draw = ap (λ (t : Superblock). t.draw) same in
        omega (arith, draw, seen)

-- Whichever media come back: a slot that takes part at last, and held no draw at first that wasn't seen, has its own superblock
-- of the epoch that stands then.
module _ (aim : EpochChange) (gone : Slots) (m last : Membership) (old new : List Happening) (history : IsHistory old)
    (issued : Issued aim gone m last old new) (stands : Stands m last) (member : IsMembership last)
    (on_disk : StandsOnDisk (admitted aim) last old new) (j : ℕ) (here : IsHere last j) (on : IsAttached new j)
    (seen : IsAttached old j → (k : ℕ) (s : Superblock) → k < 2 → HoldsSuper (content ((slot_state old j).sector k)) s → s.draw ≤ m.drawn) where
  since : IsAttached old j × ((slot_state new j).pulls ≡ (slot_state old j).pulls)
  since =
      attached_since old new j
      (ran_weakened {allowed = IsIssuing issued.slots issued.editions} {more = IsNoAttach j} (issuing_attaches issued.slots issued.editions j)
      issued.ran) on

  not_pulled : ¬ WasPulled old new j
  not_pulled pulled = omega (arith, pulled, since.1)

  some : IsSome (slot_state old j).size
  some = (history_tidy history).attached j since.0

  place_from : (k : ℕ) → IsKept (slot_state old j).pulls k (IsFrom issued.editions j (content ((slot_state old j).sector k))) (slot_state new j)
  place_from k =
      kept {allowed = IsIssuing issued.slots issued.editions}
      {P = λ h. IsKept (slot_state old j).pulls k (IsFrom issued.editions j (content ((slot_state old j).sector k))) (slot_state h j)}
      (keeps_sector {allowed = IsIssuing issued.slots issued.editions} {j = j} {k = k}
      {P = IsFrom issued.editions j (content ((slot_state old j).sector k))} (slot_state old j).pulls
      (from_keeps issued.slots issued.editions j k (content ((slot_state old j).sector k)))) issued.ran (IsKept.Here refl some (inr (inl refl)))

  -- no draw is greater than the last one, nor of a later epoch
  least_drawn : (s : Superblock) → s.draw ≤ m.drawn → ¬ IsOlder (copy_of (edition_of last) j) s
  least_drawn s most older =
      let above : m.drawn < last.array.epoch = stands.above in
      let drawn : last.array.epoch ≡ last.drawn = stands.epoch in
      elim older [ inl lower ↦ omega (arith, most, above, drawn, lower) | inr same ↦ omega (arith, most, above, drawn, same.0) ]

  edition_drawn : (e : Edition) (s : Superblock) → Contains issued.editions e → s ≡ copy_of e j → ¬ IsOlder (copy_of (edition_of last) j) s
  edition_drawn e s among is older =
      let of = issued.each e among in
      let most : e.draw ≤ last.drawn = of.most in
      let draw : s.draw ≡ e.draw = ap (λ (t : Superblock). t.draw) is in
      let epoch : s.array.epoch ≡ e.array.epoch = ap (λ (t : Superblock). t.array.epoch) is in
      let within : e.array.epoch ≤ e.draw = of.known in
      let drawn : last.array.epoch ≡ last.drawn = stands.epoch in
      elim older [
        | inl lower ↦ omega (arith, most, draw, lower)
        | inr same ↦ omega (arith, most, epoch, within, drawn, same.1)
      ]

  none_newer : (k : ℕ) (s : Superblock) → k < 2 → HoldsSuper (content ((slot_state new j).sector k)) s → ¬ IsOlder (copy_of (edition_of last) j) s
  none_newer k s place holds = by (place_from k)
    where
      by : IsKept (slot_state old j).pulls k (IsFrom issued.editions j (content ((slot_state old j).sector k))) (slot_state new j)
          → ¬ IsOlder (copy_of (edition_of last) j) s
      by (IsKept.Here same is_some (inl harmed)) = absurd (none_held_there (content ((slot_state new j).sector k)) s (ap content harmed) holds)
      by (IsKept.Here same is_some (inr (inl first))) =
          least_drawn s (seen since.0 k s place (subst (λ (cell : Cell). HoldsSuper cell s) first holds))
      by (IsKept.Here same is_some (inr (inr one))) =
          edition_drawn one.0 s one.1
          (holds_once (content ((slot_state new j).sector k)) s (copy_of one.0 j) holds
          (holds_copy (content ((slot_state new j).sector k)) one.0 j one.2 one.3))
      by (IsKept.Lost less) = absurd (not_pulled less)

  pub own_given : HasOwn last new j
  own_given = record {
    draw = last.drawn;
    reached = member.known;
    seen = omega arith;
    own = lies_aside (on_disk.on_disk j here);
    newest = λ other holds. none_newer (place_of last j) other (place_below last j member here.below) holds;
    settled_both = λ k place. settled_then k (on_disk.synced j k here some);
  }
    where
      lies_aside : IsOnDisk old new j (1 - place_of last j) (copy_of (edition_of last) j)
          → ((slot_state new j).sector (1 - place_of last j) ≡ damaged)
          ⊎ IsOwnSector last last.drawn j ((slot_state new j).sector (1 - place_of last j))
      lies_aside (IsKept.Here same is_some so) = so
      lies_aside (IsKept.Lost less) = absurd (not_pulled less)

      settled_then : (k : ℕ) → IsPlaceSettled old new j k → ((slot_state new j).sector k).since ≡ []
      settled_then k (IsKept.Here same is_some (inl harmed)) = ap (λ (s : Sector). s.since) harmed
      settled_then k (IsKept.Here same is_some (inr none)) = none
      settled_then k (IsKept.Lost less) = absurd (not_pulled less)

-- where none came back the member knew what was drawn at first
pub own_stood : (aim : EpochChange) (gone : Slots) (m last : Membership) (old new : List Happening) → HasStood aim gone m last old new
    → (j : ℕ) → IsHere last j → IsAttached new j → HasOwn last new j
own_stood aim gone m last old new st j here on =
    own_given aim gone m last old new st.fencing.begun.history st.fencing.issued st.established.stands st.member st.on_disk j here on
    (λ was k s place holds. (known st.fencing).drawn j k s (stayed aim gone m last old new st j here) was place holds)
