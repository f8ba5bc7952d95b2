-- What a crash may leave while an epoch is established in a session.
use Rattle.std.proofs.Common.{◌≡◌, ◌≢◌, ℕ, ◌<◌, ◌≤◌, List, ◌⊎◌, inl, inr, refl, sym, ap, ◌∙◌, subst, arith, Option, Some, false}
use Rattle.std.specs.Prelude.{Contains, IsTrue}
use Rattle.std.proofs.lemmas.Bool.{cases_eq, cond-false, ne_eqb}
use Rattle.stair_model.specs.Geometry.{Geometry, IsWithinLimits, sectors_needed}
use Rattle.stair_model.specs.Slots.{Slots, HasSlot}
use Rattle.stair_rack.specs.Answers.{Ran}
use Rattle.stair_rack.specs.Crash.{CrashMayLeave, EachImage, image_now}
use Rattle.stair_rack.specs.History.{Happening, empty_slot, made, slot_state, stopped}
use Rattle.stair_rack.specs.Media.{Image, has_sector}
use Rattle.stair_rack.specs.Offline.{IsAttached, IsHeld, IsOfflineUntilAttached}
use Rattle.stair_rack.specs.Sector.{Damaged, damaged}
use Rattle.stair_rack.specs.Stretch.{NothingReturned}
use Rattle.stair_rack.proofs.CrashLemmas.{CrashMayLeave-now}
use Rattle.stair_rack.proofs.MomentLemmas.{at_moment}
use Rattle.stair_rack.proofs.TidyLemmas.{history_tidy}
use Rattle.stair_super.specs.Superblock.{Superblock}
use Rattle.stair_super.specs.declared.mark.Mark.TheVariants as mark
use Rattle.stair_member.specs.Aims.{IsAimed, admitted, aimed, mark_for}
use Rattle.stair_member.specs.Counting.{AllBut}
use Rattle.stair_member.specs.Editions.{Edition}
use Rattle.stair_member.specs.Epochs.{AreReserved, IsDropped, IsIssuing, IsTaken}
use Rattle.stair_member.specs.Fencing.{IsFencing, IsKnownTo}
use Rattle.stair_member.specs.Membership.{Membership, IsHere, why_of}
use Rattle.stair_member.specs.Reserve.{Bears, HasReached}
use Rattle.stair_member.specs.declared.aim.EpochChange.{EpochChange}
use Rattle.stair_member.specs.declared.aim.EpochChange.TheVariants as aims
use Rattle.stair_member.specs.declared.why.Why.{Why}
use Rattle.stair_member.specs.declared.why.Why.TheVariants.{Here, Rebuilding}
use Rattle.stair_member.proofs.EditionLemmas.{Bare, Comes, Entry, IsOf, Issue, Same, IsWritable, SlotComes, bears_below, bears_of, issuing_places, places_on, slot_comes, slot_is}
use Rattle.stair_member.proofs.FencingLemmas.{known}
use Rattle.stair_member.proofs.OrderLemmas.{orderly, reached_on}
use Rattle.stair_state.specs.Represents.{IsLargeEnough}
use Rattle.stair_invariant.specs.Changing.{Coming, Earlier, IsChanging, IsAttachedOrBare, IsOneOfThese, Present}
use Rattle.stair_invariant.proofs.MidwayLemmas.{bears_none}

-- who takes part, or is down whatever the epoch is for
taken_or_down : (aim : EpochChange) (m : Membership) (j : ℕ) → j < m.array.geometry.n → ((slot : ℕ) → aim ≡ aims.Promote slot → IsHere m slot)
    → IsTaken (admitted aim) m j ⊎ (mark_for (aimed aim j (why_of m j)) ≡ mark.Down)
taken_or_down aim m j below promoted = by (why_of m j) refl
  where
    unaimed : (w : Why) → why_of m j ≡ w → ((x : EpochChange) → aim ≡ x → IsTaken (admitted aim) m j ⊎ (mark_for (aimed x j w) ≡ mark.Down))
        → IsTaken (admitted aim) m j ⊎ (mark_for (aimed aim j (why_of m j)) ≡ mark.Down)
    unaimed w is at = elim (at aim refl) [ inl taken ↦ inl taken | inr down ↦ inr (ap (λ x. mark_for (aimed aim j x)) is ∙ down) ]

    away : (w : Why) → mark_for w ≡ mark.Down → (x : EpochChange) → aim ≡ x → IsTaken (admitted aim) m j ⊎ (mark_for (aimed x j w) ≡ mark.Down)
    away w down aims.Fence same = inr down
    away w down (aims.Stamp frozen label) same = inr down
    away w down (aims.Admit slot) same =
        elim (cases_eq j slot) [
          | inl at ↦ inl (inr (ap admitted same ∙ ap (λ (k : ℕ). Some k) (sym at), below))
          | inr other ↦ inr (ap mark_for (cond-false _ _ _ (ne_eqb j slot other)) ∙ down)
        ]
    away w down (aims.Promote slot) same =
        elim (cases_eq j slot) [
          | inl at ↦ inl (inl (subst (IsHere m) (sym at) (promoted slot same)))
          | inr other ↦ inr (ap mark_for (cond-false _ _ _ (ne_eqb j slot other)) ∙ down)
        ]

    by : (w : Why) → why_of m j ≡ w → IsTaken (admitted aim) m j ⊎ (mark_for (aimed aim j (why_of m j)) ≡ mark.Down)
    by Here is = inl (inl (record { below = below; why = inl is }))
    by Rebuilding is = inl (inl (record { below = below; why = inr is }))
    by w is = unaimed w is (away w refl)

-- a slot that isn't in use, and of which nothing can be read, stays so
pub bare_on : (slots : Slots) (editions : List Edition) (old h : List Happening) (j : ℕ) → Ran (IsIssuing slots editions) old h
    → NothingReturned old h → (slot_state old j).attached ≡ false → ((k : ℕ) → (slot_state old j).sector k ≡ damaged)
    → ((slot_state h j).attached ≡ false) × ((k : ℕ) → (slot_state h j).sector k ≡ damaged)
bare_on slots editions old h j ran returned off bare =
    elim
    (places_on {allowed = IsIssuing slots editions} {j = j} {P = λ k. Comes (HasSlot slots) editions j Damaged}
    (issuing_places slots (HasSlot slots) editions j (λ k. Damaged) (λ has. has)) (made empty_slot) returned ran (Bare off bare)) [
      | Same never same some each ↦ absurd (cc)
      | Bare off' bare' ↦ (off', bare')
    ]

pub large_places : (g : Geometry) (size : Option ℕ) → IsWithinLimits g → IsLargeEnough g size → IsTrue (has_sector size 1)
large_places g size limits large = large 1 (let needed : sectors_needed g ≡ sectors_needed g = refl in omega arith)

-- What a rack is on which an epoch is to be established for this, by a member whose own epoch stands.
pub record IsPrepared (aim : EpochChange) (m : Membership) (h : List Happening) : Type 0 where
  pub promoted : (slot : ℕ) → aim ≡ aims.Promote slot → IsHere m slot
  -- each slot that takes part, or is admitted, is attached or bears nothing
  pub own : (j : ℕ) → IsTaken (admitted aim) m j → IsAttachedOrBare h j
  -- the medium of one that is live, or will be, is large enough
  pub large : (j : ℕ) → j < m.array.geometry.n → aimed aim j (why_of m j) ≡ Here → IsAttached h j
      → IsLargeEnough m.array.geometry (slot_state h j).size
  -- and all but m, without the one that is admitted, have reached the member's epoch
  pub reached : EachImage (λ image. AllBut m.array.geometry.n m.array.geometry.m
      (λ j. (admitted aim ≢ Some j) × HasReached m.array.geometry image m.array.epoch j)) h

module _ (aim : EpochChange) (gone : Slots) (m last : Membership) (old h new : List Happening) (f : IsFencing aim gone m last old h new)
    (prepared : IsPrepared aim m old) (going : ¬ IsTrue (stopped h)) where
  -- what was written by then
  pub so_far : AreReserved (admitted aim) f.issued.slots f.issued.editions m old h
  so_far = at_moment {P = AreReserved (admitted aim) f.issued.slots f.issued.editions m old} f.issued.reserved f.moment

  -- a new epoch that was written by then drops the slot
  abbrev pub IsLeftOut : ℕ → Type 0
  IsLeftOut j = (e : Edition) × Contains so_far.editions e × IsDropped (admitted aim) m e.array j

  -- a slot that was left out had lost its medium by then
  left_bare : (j : ℕ) → IsLeftOut j → aimed aim j (why_of m j) ≡ Here → (k : ℕ) → (slot_state h j).sector k ≡ damaged
  left_bare j out up =
      elim (prepared.own j out.2.taken) [
        | inr off ↦ (bare_on f.issued.slots so_far.editions old h j so_far.ran f.returned off.0 off.1).1
        | inl on ↦
            by
            (so_far.left_out out.0 j out.1 out.2 old (IsHeld.InUse on.0 on.1 (omega arith))
            (λ attached.
            large_places m.array.geometry (slot_state old j).size f.begun.member.array.limits (prepared.large j below up attached)))
      ]
    where
      below : j < m.array.geometry.n
      below = elim out.2.taken [ inl here ↦ here.below | inr joins ↦ joins.1 ]

      by : IsOfflineUntilAttached old h j → (k : ℕ) → (slot_state h j).sector k ≡ damaged
      by (IsOfflineUntilAttached.RackStopped is) = absurd (going is)
      by (IsOfflineUntilAttached.Unattached off pulled) =
          elim
          (slot_is f.issued.slots so_far.editions old h j (history_tidy f.begun.history) (λ k lt. f.begun.settled j k below lt) so_far.ran
          f.returned) [
            | Same some same still each ↦ absurd (omega (arith, pulled, same))
            | Bare off' bare' ↦ bare'
          ]

  module _ (image : Image) (left : CrashMayLeave h image) where
    known_then : IsKnownTo (admitted aim) m (IsAttached old) (image_now old)
    known_then = known f

    -- what a new epoch names, where the slots that it drops are those that it left out
    aimed_then : (e : Edition) → Contains so_far.editions e → m.array.epoch < e.array.epoch → IsAimed aim (HasSlot gone) m e.array
        → IsAimed aim IsLeftOut m e.array
    aimed_then e among later is = record {
      geometry = is.geometry;
      frozen = is.frozen;
      label = is.label;
      marks = λ j below.
          elim (is.marks j below) [
            | inl as_aimed ↦ inl as_aimed
            | inr was ↦
                elim (taken_or_down aim m j below prepared.promoted) [
                  | inl taken ↦ inr ((e, among, record { is_new = later; taken = taken; down = was.1 }), was.1)
                  | inr down ↦ inl (was.1 ∙ sym down)
                ]
          ];
      joined = is.joined;
      joins = is.joins;
    }

    named : (j p : ℕ) (s : Superblock) → Bears m.array.geometry j ((image j).cell) s → p < 2
        → IsOf (IsWritable f.issued.slots old) so_far.editions j ((image_now old j).cell p) s → IsOneOfThese aim IsLeftOut m s.array
    named j p s bears p_in (Entry was) =
        let borne : Bears m.array.geometry j ((image_now old j).cell) s =
        record { place = p; place_in = p_in; holds = was; slot = bears.slot; identity = bears.identity } in
        let most : s.array.epoch ≤ m.array.epoch = known_then.latest j s borne in
        elim (cases_eq s.array.epoch m.array.epoch) [
          | inl same ↦ Present (known_then.named j s borne same)
          | inr other ↦ Earlier (omega (arith, most, other))
        ]
    named j p s bears p_in (Issue e has among formed is) =
        let array : s.array ≡ e.array = ap (λ (t : Superblock). t.array) is in
        let of = f.issued.each e (so_far.within e among) in
        let within : m.array.epoch ≤ m.drawn = f.begun.member.known in
        elim of.epoch [
          | inl same ↦ Present (array ∙ same)
          | inr later ↦
              let above : m.drawn < e.array.epoch = later.0 in
              let new_one : m.array.epoch < e.array.epoch = omega (arith, above, within) in
              subst (IsOneOfThese aim IsLeftOut m) (sym array) (Coming new_one (aimed_then e among new_one later.1))
        ]

    names : (j : ℕ) (s : Superblock) → Bears m.array.geometry j ((image j).cell) s → IsOneOfThese aim IsLeftOut m s.array
    names j s bears =
        let below : j < m.array.geometry.n = bears_below m.array.geometry j ((image j).cell) s bears in
        let comes : SlotComes (IsWritable f.issued.slots old) so_far.editions j (slot_state old j).pulls (slot_state h j) ((image_now old j).cell)
        ((image j).cell) =
        slot_comes f.issued.slots so_far.editions old h image j (history_tidy f.begun.history) (λ k lt. f.begun.settled j k below lt) so_far.ran
        f.returned left in
        named j bears.place s bears bears.place_in
        (bears_of (IsWritable f.issued.slots old) so_far.editions j (slot_state old j).pulls (slot_state h j) ((image_now old j).cell)
        ((image j).cell) m.array.geometry s comes bears)

    pub changing : IsChanging aim IsLeftOut m image
    changing = record {
      orderly = orderly aim gone m last old h new image f left;
      names = names;
      reached = reached_on aim gone m last old h new image f left (prepared.reached (image_now old) (CrashMayLeave-now old));
      bare = λ j out up. bears_none m.array.geometry h image j left (left_bare j out up);
    }
