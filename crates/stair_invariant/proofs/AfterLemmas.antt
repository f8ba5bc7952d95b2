-- What a session keeps once an epoch stands.
use Rattle.std.proofs.Common.{◌≡◌, ◌≢◌, ℕ, ◌<◌, List, ◌⊎◌, inl, inr, refl, sym, ◌∙◌, subst, arith, None, Some}
use Rattle.std.specs.Prelude.{IsTrue}
use Rattle.std.proofs.lemmas.Bool.{false≢true}
use Rattle.stair_model.specs.Device.{gate_sector, sector_of}
use Rattle.stair_model.specs.Geometry.{Geometry}
use Rattle.stair_model.specs.Slots.{Slots}
use Rattle.stair_rack.specs.Answers.{Ran}
use Rattle.stair_rack.specs.History.{Happening, stopped}
use Rattle.stair_rack.specs.Offline.{ButForOutside, Here, IsAttached, IsHeld, Lost, WasPulled}
use Rattle.stair_rack.specs.Placed.{IsSlot}
use Rattle.stair_rack.specs.Sector.{Sector}
use Rattle.stair_rack.proofs.OfflineLemmas.{held_on}
use Rattle.stair_rack.proofs.TidyLemmas.{history_tidy}
use Rattle.stair_member.specs.Aims.{admitted, aimed}
use Rattle.stair_member.specs.Editions.{Edition}
use Rattle.stair_member.specs.Epochs.{IsIssuing, IsTaken}
use Rattle.stair_member.specs.Fencing.{HasStood, MayJoin}
use Rattle.stair_member.specs.Membership.{Membership, IsHere, why_of}
use Rattle.stair_member.specs.Reserve.{HasReached}
use Rattle.stair_member.specs.declared.aim.EpochChange.{EpochChange}
use Rattle.stair_member.specs.declared.why.Why.TheVariants as why
use Rattle.stair_member.proofs.AgainLemmas as again
use Rattle.stair_member.proofs.CountingLemmas.{all_but_mapped, has_or_not}
use Rattle.stair_member.proofs.EditionLemmas.{Bare, Same, slot_is}
use Rattle.stair_journal.specs.declared.redo.Redo.{Redo}
use Rattle.stair_state.specs.Blocks.{Codewords}
use Rattle.stair_state.specs.Recovering.{IsShut}
use Rattle.stair_state.specs.Redoing.{AtRest, Redoing, Stage}
use Rattle.stair_state.proofs.StageLemmas.{SlotIn, is_in, slot_in}
use Rattle.stair_invariant.specs.Changing.{IsAttachedOrBare}
use Rattle.stair_invariant.specs.InSession.{HasEpoch, IsInSession, IsReadyFor}
use Rattle.stair_invariant.specs.Session.{ServesSlot}
use Rattle.stair_invariant.proofs.EstablishingLemmas.{large_on, shut_on, stage_on}
use Rattle.stair_invariant.proofs.InSessionLemmas.{bare_on}
use Rattle.stair_invariant.proofs.MidwayLemmas.{doing, rebuilt_before, here_aimed}
use Rattle.stair_invariant.proofs.SessionLemmas.{own_taken, shut_taken}

-- SINCE NOW

kept_now : {P : Sector → Type 0} (start h : List Happening) (j k : ℕ) → ¬ WasPulled start h j → ButForOutside start h j k P
    → ButForOutside h h j k P
kept_now start h j k stays (Here same some holds) = Here refl some holds
kept_now start h j k stays (Lost less) = absurd (stays less)

slot_now : (a : Redoing) (stage : Stage) (start h : List Happening) (j : ℕ) → ¬ WasPulled start h j → SlotIn a stage start h j
    → SlotIn a stage h h j
slot_now a stage start h j stays is =
    record { each = λ part concerns. kept_now start h j (sector_of a.geometry part) stays (is.each part concerns) }

no_join : (last : Membership) (h : List Happening) → MayJoin None last h
no_join last h = record { absent = λ j never. absurd (cc); drawn = λ image left j k s never. absurd (cc) }

-- a slot on whose medium superblocks alone were written serves still, whichever media come back
module _ (slots : Slots) (editions : List Edition) (m : Membership) (words : Codewords) (old new : List Happening) (j : ℕ)
    (ran : Ran (IsIssuing slots editions) old new) (was : IsAttached old j) (stays : ¬ WasPulled old new j)
    (is : ServesSlot m.array.geometry words old j) where
  rests : (redo : Redo) (after : Codewords) → SlotIn (doing m redo words after) AtRest new new j
  rests redo after =
      slot_now (doing m redo words after) AtRest old new j stays
      (stage_on slots editions old new j ran (doing m redo words after) AtRest old
      (slot_in (doing m redo words after) AtRest (IsSlot j) old old (is.rests redo after) j refl))

  pub serves_issued : ServesSlot m.array.geometry words new j
  serves_issued = record {
    rests = λ redo after.
        is_in (doing m redo words after) AtRest (IsSlot j) new new
        (λ i at. subst (λ (x : ℕ). SlotIn (doing m redo words after) AtRest new new x) (sym at) (rests redo after));
    large = large_on slots editions old new j ran m.array.geometry was is.large stays;
  }

-- nor is a closed gate written then
pub shut_issued : (slots : Slots) (editions : List Edition) (g : Geometry) (old new : List Happening) (j : ℕ) → Ran (IsIssuing slots editions) old new
    → ¬ WasPulled old new j → IsShut g old old j → IsShut g new new j
shut_issued slots editions g old new j ran stays shut = kept_now old new j gate_sector stays (shut_on slots editions old new j ran g old shut)

-- THE EPOCH

-- Whatever was before it, where each slot that took part was attached or bore nothing, and the gates of those that are rebuilt
-- were closed.
module _ (aim : EpochChange) (gone : Slots) (m last : Membership) (old new : List Happening)
    (own : (j : ℕ) → IsTaken (admitted aim) m j → IsAttachedOrBare old j) (st : HasStood aim gone m last old new)
    (going : ¬ IsTrue (stopped new)) where
  abbrev slots : Slots
  slots = st.fencing.issued.slots

  abbrev editions : List Edition
  editions = st.fencing.issued.editions

  ran : Ran (IsIssuing st.fencing.issued.slots st.fencing.issued.editions) old new
  ran = st.fencing.issued.ran

  same_geometry : last.array.geometry ≡ m.array.geometry
  same_geometry = st.established.stands.geometry

  below_before : (j : ℕ) → j < last.array.geometry.n → j < m.array.geometry.n
  below_before j below = subst (λ (g : Geometry). j < g.n) same_geometry below

  taken : (j : ℕ) → IsHere last j → IsTaken (admitted aim) m j
  taken j here = again.stayed aim gone m last old new st j here

  own_after : (j : ℕ) → j < m.array.geometry.n → IsAttachedOrBare old j → IsAttachedOrBare new j
  own_after j below (inr off) = inr (bare_on slots editions old new j ran st.fencing.returned off.0 off.1)
  own_after j below (inl on) = by (held_on {allowed = IsIssuing slots editions} {before = old} j ran (IsHeld.InUse on.0 on.1 (omega arith)))
    where
      by : IsHeld old new j → IsAttachedOrBare new j
      by (IsHeld.InUse attached some least) = inl (attached, some)
      by (IsHeld.RackStopped is) = absurd (going is)
      by (IsHeld.Unattached off pulled) =
          elim
          (slot_is slots editions old new j (history_tidy st.fencing.begun.history) (λ k lt. st.fencing.begun.settled j k below lt) ran
          st.fencing.returned) [
            | Same some still there each ↦ absurd (omega (arith, pulled, still))
            | Bare off' bare' ↦ inr (off', bare')
          ]

  -- one that is attached was so
  attached_before : (j : ℕ) → IsTaken (admitted aim) m j → IsAttached new j → IsAttached old j
  attached_before j takes on =
      elim (own j takes) [
        | inl was ↦ was.0
        | inr off ↦ absurd (false≢true (sym (bare_on slots editions old new j ran st.fencing.returned off.0 off.1).0 ∙ on))
      ]

  -- the reason of a slot is what the epoch is for
  aimed_now : (j : ℕ) → j < last.array.geometry.n → why_of last j ≢ why.Gone → why_of last j ≡ aimed aim j (why_of m j)
  aimed_now j below not_gone =
      elim (has_or_not gone j) [
        | inl has ↦ absurd (not_gone (st.dropped j has))
        | inr out ↦ st.established.whys j (below_before j below) out
      ]

  -- what is attached is the medium that the slot had
  kept_medium : (j : ℕ) → j < m.array.geometry.n → IsAttached new j → ¬ WasPulled old new j
  kept_medium j below on pulled =
      elim
      (slot_is slots editions old new j (history_tidy st.fencing.begun.history) (λ k lt. st.fencing.begun.settled j k below lt) ran
      st.fencing.returned) [
        | Same some same still each ↦ omega (arith, pulled, same)
        | Bare off bare ↦ false≢true (sym off ∙ on)
      ]

  module _ (shut : (j : ℕ) → j < m.array.geometry.n → (why_of m j ≡ why.Rebuilding) ⊎ (admitted aim ≡ Some j) → IsAttached old j
      → IsShut m.array.geometry old old j) where
    shut_after : (j : ℕ) → j < last.array.geometry.n → why_of last j ≡ why.Rebuilding → IsAttached new j → IsShut last.array.geometry new new j
    shut_after j below rebuilt on =
        let below_m = below_before j below in
        let was = attached_before j (taken j (record { below = below; why = inr rebuilt })) on in
        let up : aimed aim j (why_of m j) ≡ why.Rebuilding =
        sym (aimed_now j below (λ is_gone. let never : why.Rebuilding ≡ why.Gone = sym rebuilt ∙ is_gone in cc)) ∙ rebuilt in
        subst (λ (g : Geometry). IsShut g new new j) (sym same_geometry)
        (shut_issued slots editions m.array.geometry old new j ran (kept_medium j below_m on)
        (shut j below_m (rebuilt_before aim j (why_of m j) up) was))

    -- The session has this epoch then.
    pub stood : HasEpoch last new
    stood = record {
      begun = again.again aim gone None m last old new st (no_join last new) going;
      marks = λ j below. st.established.stands.marks j (below_before j below);
      reached = λ image left.
          all_but_mapped {P = λ j. (why_of last j ≡ why.Here) × HasReached last.array.geometry image last.array.epoch j}
          {Q = λ j. IsHere last j × HasReached last.array.geometry image last.array.epoch j}
          (λ j below has. (record { below = below; why = inl has.0 }, has.1)) (again.stood aim gone m last old new image st left);
      own = λ j here. own_after j (below_before j here.below) (own j (taken j here));
      shut = shut_after;
    }

-- THE SESSION

module _ (aim : EpochChange) (gone : Slots) (m last : Membership) (words : Codewords) (old new : List Happening) (ready : IsReadyFor aim m words old)
    (st : HasStood aim gone m last old new) (going : ¬ IsTrue (stopped new)) where
  own_before : (j : ℕ) → IsTaken (admitted aim) m j → IsAttachedOrBare old j
  own_before = own_taken aim m words old ready

  epoch : HasEpoch last new
  epoch = stood aim gone m last old new own_before st going (shut_taken aim m words old ready)

  live_after : (j : ℕ) → j < last.array.geometry.n → why_of last j ≡ why.Here → IsAttached new j → ServesSlot last.array.geometry words new j
  live_after j below here on =
      let below_m = below_before aim gone m last old new own_before st going j below in
      let takes = taken aim gone m last old new own_before st going j (record { below = below; why = inl here }) in
      let was = attached_before aim gone m last old new own_before st going j takes on in
      let up : aimed aim j (why_of m j) ≡ why.Here =
      sym (aimed_now aim gone m last old new own_before st going j below (λ is_gone. let never : why.Here ≡ why.Gone = sym here ∙ is_gone in cc))
      ∙ here in
      let serves : ServesSlot m.array.geometry words old j =
      elim (here_aimed aim j (why_of m j) up) [
        | inl was_here ↦ ready.session.live j below_m was_here was
        | inr promotes ↦ ready.serves j promotes was
      ] in
      subst (λ (g : Geometry). ServesSlot g words new j) (sym st.established.stands.geometry)
      (serves_issued st.fencing.issued.slots st.fencing.issued.editions m words old new j st.fencing.issued.ran was
      (kept_medium aim gone m last old new own_before st going j below_m on) serves)

  -- What a session keeps is so again once the epoch stands, with the slot that was promoted among those that serve.
  pub after : IsInSession last words new
  after = record {
    begun = epoch.begun;
    marks = epoch.marks;
    reached = epoch.reached;
    own = epoch.own;
    live = live_after;
    shut = epoch.shut;
  }
