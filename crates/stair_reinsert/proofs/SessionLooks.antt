-- What a session knows of all media it knows still after calls that write nothing, whatever comes back meanwhile.
use Rattle.std.proofs.Common.{◌≡◌, ℕ, ◌≤◌, List, sym, ap, ◌∙◌, subst, arith, None, Some}
use Rattle.stair_model.specs.Geometry.{Geometry}
use Rattle.stair_rack.specs.Answers.{IsHistory, IsNoAttach, Ran}
use Rattle.stair_rack.specs.Crash.{CrashMayLeave}
use Rattle.stair_rack.specs.History.{Happening, SlotCall, Attach, Sectors, Read, Write, Sync, slot_state}
use Rattle.stair_rack.specs.Media.{Image, SlotImage}
use Rattle.stair_rack.specs.Offline.{IsAttached}
use Rattle.stair_rack.specs.Stretch.{IsNoWrite}
use Rattle.stair_rack.proofs.MomentLemmas.{ran_weakened}
use Rattle.stair_rack.proofs.TidyLemmas.{history_on}
use Rattle.stair_super.specs.Superblock.{Superblock}
use Rattle.stair_super.specs.declared.configuration.Configuration.{Configuration}
use Rattle.stair_member.specs.Membership.{IsHere, IsMembership, Membership}
use Rattle.stair_member.specs.Current.{IsCurrent}
use Rattle.stair_member.specs.Seats.{seats_of}
use Rattle.stair_state.specs.Holding.{IsConsistentBy}
use Rattle.stair_state.specs.Reassembly.{Empty, InSlot, IsBorne, IsReassembledSlot, Location, OneOf, Unwritten}
use Rattle.stair_state.specs.Redoing.{AttachesNone}
use Rattle.stair_state.specs.Represents.{HaveSeats, no_write}
use Rattle.stair_state.specs.State.{State}
use Rattle.stair_state.specs.Tolerance.{IsTolerated}
use Rattle.stair_state.proofs.DegradedLemmas.{copies_again, copies_damaged}
use Rattle.stair_state.proofs.HoldingLemmas.{current_since}
use Rattle.stair_state.proofs.OutsideLemmas.{steady_looks, tolerated_alone}
use Rattle.stair_state.proofs.ReturnLemmas.{MediaCameFrom, New, Same, at_image, came_looking, consistent_by_after}
use Rattle.stair_invariant.specs.Returning.{IsKnownWherever, KnowsMedia, current_media_of}
use Rattle.stair_invariant.specs.Session.{seats_in}
use Rattle.stair_invariant.specs.InSession.{IsBehindPlaces}
use Rattle.stair_invariant.proofs.OwnLaws.{newest_beside}
use Rattle.stair_reinsert.specs.Beginning.{IsBesideMember}
use Rattle.stair_reinsert.specs.Following.{name_of}
use Rattle.stair_reinsert.proofs.KnownLemmas.{WasBorne, borne_before}
use Rattle.stair_reinsert.proofs.NameLemmas.{attached_name, name_apart, still_attached}
use Rattle.stair_reinsert.proofs.SessionBehind.{left_reassembled}

-- a reassembled slot is one of the slot's media of before
was_reassembled : (before : List Happening) (j : ℕ) (image to : SlotImage) (from : MediaCameFrom (slot_state before j) image) → IsReassembledSlot image to
    → IsReassembledSlot from.was to
was_reassembled before j image to from (OneOf p m is size copies past) =
    elim (from.medium p m is) [
      | Same old at same copied ↦ OneOf (from.place p) old at (size ∙ ap Some (sym same)) (copies_again copied copies) past
      | New all ↦ Unwritten m.size size (copies_damaged all copies)
    ]
was_reassembled before j image to from (Unwritten size is all) = Unwritten size is all
was_reassembled before j image to from (Empty none all) = Empty none all

module _ (s : State) (m : Membership) (before old new : List Happening) (history : IsHistory old) (geometry : m.array.geometry ≡ s.geometry)
    (rules : IsMembership m) (ran : Ran (IsBesideMember m) old new) (knows : KnowsMedia s m old) where
  looked : Ran no_write old new
  looked = ran_weakened {allowed = IsBesideMember m} {more = no_write} (λ j c is. is.writes) ran

  spared : (j : ℕ) → IsHere m j → Ran (IsNoAttach j) old new
  spared j here =
      ran_weakened {allowed = IsBesideMember m} {more = IsNoAttach j} (λ i c is same. is.attaches (subst (λ (n : ℕ). IsHere m n) (sym same) here)) ran

  beside : Ran (λ i c. IsBehindPlaces i c × AttachesNone (IsHere m) i c) old new
  beside =
      ran_weakened {allowed = IsBesideMember m} {more = λ i c. IsBehindPlaces i c × AttachesNone (IsHere m) i c}
      (λ i c is. (behind i c is.writes, is.attaches)) ran
    where
      behind : (i : ℕ) (c : SlotCall) → IsNoWrite c → IsBehindPlaces i c
      behind i (Attach answer) none = tt
      behind i (Sectors size) none = tt
      behind i (Read k answer) none = tt
      behind i (Write k bytes answer) none = absurd none
      behind i (Sync answer) none = tt

  module _ (image : Image) (left : CrashMayLeave new image) where
    was_borne : (i : ℕ) (p : Location) (x : Superblock) → IsBorne m.array.geometry image i p x
        → WasBorne m.array.geometry old i (name_of new i p) x
    was_borne i p x there = borne_before m.array.geometry old new image i p x history looked left there

    known_then : IsKnownWherever None m (IsAttached new) image
    known_then = record {
      covered = λ i p x there. let was = was_borne i p x there in (knows.known was.was was.left).covered i was.place x was.borne;
      named = λ i p x there. let was = was_borne i p x there in (knows.known was.was was.left).named i was.place x was.borne;
      sole = λ j p x here on there same.
          let was = was_borne j p x there in
          let inside = (knows.known was.was was.left).sole j was.place x here (still_attached j (spared j here) on).0 was.borne same in
          name_apart new j p InSlot
          (sym was.named ∙ ap (λ (l : Location). name_of old j l) inside ∙ sym (attached_name j history (spared j here) on));
      down = λ j joins. absurd (cc);
    }

    consistent_then : IsConsistentBy s knows.is.encodings (current_media_of m) m.array.epoch image
    consistent_then =
        let from = λ (j : ℕ). at_image (came_looking j looked) (image j) (left j) in
        consistent_by_after s knows.is.encodings (current_media_of m) m.array.epoch old image from (knows.is.each (λ j. (from j).was) (λ j. (from j).left))

    latest_then : (i : ℕ) (p : Location) (x : Superblock) → IsBorne s.geometry image i p x → x.array.epoch ≤ m.array.epoch
    latest_then i p x there =
        let was = borne_before s.geometry old new image i p x history looked left there in knows.latest was.was was.left i was.place x was.borne

  pub looked_knows : IsTolerated s.geometry before new → s.seats ≡ Some (seats_in m.array) → KnowsMedia s m new
  looked_knows tolerated seated = record {
    known = λ image left. known_then image left;
    is = record {
      encodings = knows.is.encodings;
      each = λ image left. consistent_then image left;
      seats = subst (λ o. HaveSeats o s.geometry new) (sym seated) (λ image left current j only is_current. seat image left current j is_current);
      steady = steady_looks s.geometry old new looked knows.is.steady;
    };
    latest = λ image left. latest_then image left;
    own = λ j here on. newest_beside m old new rules history beside j here on (knows.own j here);
    closed = λ image left to j reassembly.
        let from = λ (i : ℕ). at_image (came_looking i looked) (image i) (left i) in
        knows.closed (λ i. (from i).was) (λ i. (from i).left) to j (λ i. was_reassembled old i (image i) (to i) (from i) (reassembly i));
  }
    where
      seat : (image : Image) → CrashMayLeave new image → (current : Superblock) (j : ℕ) → IsCurrent s.geometry image current
          → seats_of current j ≡ seats_in m.array j
      seat image left current j is_current =
          let alone = tolerated_alone s.geometry before new image tolerated left in
          let there =
          current_since s knows.is.encodings (current_media_of m) m.array.epoch image (consistent_then image left) image
          (left_reassembled new (history_on {allowed = no_write} history looked) image left) alone current is_current in
          let least : m.array.epoch ≤ current.array.epoch = there.since_then in
          let most : current.array.epoch ≤ m.array.epoch = latest_then image left there.slot there.place current there.borne in
          let same : current.array ≡ m.array =
          (known_then image left).named there.slot there.place current
          (subst (λ (y : Geometry). IsBorne y image there.slot there.place current) (sym geometry) there.borne) (omega (arith, least, most)) in
          ap (λ (c : Configuration). seats_in c j) same
