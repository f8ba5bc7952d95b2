-- The record of a session is led on, where nothing came back: what its rack represents, and how each call leaves it.
use Rattle.std.proofs.Common.{ℕ, ◌<◌, ◌∙◌, ◌≡◌, ◌≢◌, ◌≤◌, ◌⊎◌, List, None, Option, Some, ap, arith, inl, inr, refl, subst, sym}
use Rattle.std.specs.Prelude.{IsTrue}
use Rattle.stair_model.specs.Device.{cell_sector, gate_sector}
use Rattle.stair_model.specs.Geometry.{Geometry}
use Rattle.stair_model.specs.Slots.{Slots, no_slots, HasSlot}
use Rattle.stair_rack.specs.Answers.{Ran, any_call, IsHistory}
use Rattle.stair_rack.specs.Crash.{CrashMayLeave, image_now}
use Rattle.stair_rack.specs.History.{Happening, SlotCall, Write, slot_state, stopped}
use Rattle.stair_rack.specs.Media.{Image}
use Rattle.stair_rack.specs.Moments.{IsMoment}
use Rattle.stair_rack.specs.Offline.{IsAttached, IsHeld, WasPulled}
use Rattle.stair_rack.specs.Placed.{IsSlot}
use Rattle.stair_rack.specs.Sector.{Damaged, MayLeave, content}
use Rattle.stair_rack.specs.Stretch.{NothingReturned}
use Rattle.stair_rack.specs.declared.rack.Reply.{Reply}
use Rattle.stair_rack.specs.declared.rack.Reply.TheVariants as reply
use Rattle.stair_rack.proofs.CrashLemmas.{settled_left, CrashMayLeave-now}
use Rattle.stair_rack.proofs.MomentLemmas.{moment_between, ran_any, ran_before, ran_join, ran_weakened}
use Rattle.stair_rack.proofs.OfflineLemmas.{held_on, stopped_on}
use Rattle.stair_rack.proofs.StretchLemmas.{each_after, each_before}
use Rattle.stair_super.specs.Superblock.{Superblock}
use Rattle.stair_member.specs.Aims.{admitted, aimed}
use Rattle.stair_member.specs.Counting.{AtMost}
use Rattle.stair_member.specs.Current.{ByOutside}
use Rattle.stair_member.specs.Editions.{Edition}
use Rattle.stair_member.specs.Epochs.{IsIssuing, IsTaken, Issued, StandsOnDisk}
use Rattle.stair_member.specs.Establishing.{Leaves, IsEstablished}
use Rattle.stair_member.specs.Fencing.{HasStood, IsBegun, IsFencing}
use Rattle.stair_member.specs.Membership.{IsHere, IsMissing, Membership, why_of, IsMembership}
use Rattle.stair_member.specs.Reserve.{HasReached}
use Rattle.stair_member.specs.Superblocks.{HoldsSuper}
use Rattle.stair_member.specs.declared.aim.EpochChange.{EpochChange}
use Rattle.stair_member.specs.declared.aim.EpochChange.TheVariants.{Fence, Promote}
use Rattle.stair_member.specs.declared.why.Why.{Why}
use Rattle.stair_member.specs.declared.why.Why.TheVariants.{Gone, Here, Rebuilding}
use Rattle.stair_member.proofs.CountingLemmas.{all_but_mapped, has_or_not}
use Rattle.stair_member.proofs.StoodLemmas.{all_here}
use Rattle.stair_state.specs.Blocks.{Codewords}
use Rattle.stair_state.specs.Recovering.{IsShut}
use Rattle.stair_state.specs.Redoing.{AttachesNone, Done, IsApart, IsIn, Redoing}
use Rattle.stair_state.specs.Represents.{IsLargeEnough, Represents, RepresentsAlone}
use Rattle.stair_state.specs.State.{Change, Content}
use Rattle.stair_state.specs.Tolerance.{IsTolerated, IsToleratedAlone}
use Rattle.stair_state.proofs.StageLemmas.{is_in, slot_in}
use Rattle.stair_invariant.specs.Changing.{IsAttachedOrBare}
use Rattle.stair_invariant.specs.Chunks.{IsBesideChunks}
use Rattle.stair_invariant.specs.InSession.{HasEpoch, IsAimedContent, IsBehindPlaces, IsBeside, IsBesideEpochs, IsInSession, IsOfContent, IsReadyFor, state_with}
use Rattle.stair_invariant.specs.Leading.{IsBesideArray, IsOpenAmid, KeepsRebuilds, led_to, rebuild_if, rebuild_in}
use Rattle.stair_invariant.specs.Rebuilding.{IsRebuiltTo, Rebuild}
use Rattle.stair_invariant.specs.Session.{ArrayState, IsArray, IsLiveIn, IsOpenWith, IsRebuiltIn, ServesSlot}
use Rattle.stair_invariant.proofs.AfterLemmas.{serves_issued, shut_issued, stood}
use Rattle.stair_invariant.proofs.BesideLemmas.{epochs, attached_on, beside, epoch_kept, kept_medium, large_on, medium_on_it, served, was_attached, live_beside, shut_beside}
use Rattle.stair_invariant.proofs.EstablishingLemmas.{issuing_attaches, issuing_writes}
use Rattle.stair_invariant.proofs.KnownLemmas.{attached_before}
use Rattle.stair_invariant.proofs.LeftOutLemmas.{here_before, live_before, none_leave, rebuilding_before, start_geometry}
use Rattle.stair_invariant.proofs.MidwayLemmas.{here_aimed, rebuilt_before}
use Rattle.stair_invariant.proofs.OpenLaws.{goes_on_within, in_session}
use Rattle.stair_invariant.proofs.OwnLaws.{attached_or_bare, own_beside, own_reached, own_drawn, own_given}
use Rattle.stair_invariant.proofs.ReadyLemmas.{ready_plain}
use Rattle.stair_invariant.proofs.RebaseLemmas.{rebuilt_now}
use Rattle.stair_invariant.proofs.RebuildingLemmas.{rebuilt_none, rebuilt_on}
use Rattle.stair_invariant.proofs.SessionLemmas.{meanwhile, own_taken, represents_now}

-- a rack that goes on at last did so at first
went_on : (aim : EpochChange) (gone : Slots) (m last : Membership) (old h new : List Happening) → IsFencing aim gone m last old h new
    → ¬ IsTrue (stopped h) → ¬ IsTrue (stopped old)
went_on aim gone m last old h new f going is_stopped =
    going
    (stopped_on {allowed = IsIssuing f.issued.slots f.issued.editions}
    (ran_before {allowed = IsIssuing f.issued.slots f.issued.editions} f.issued.ran f.moment) is_stopped)

module _ (before : List Happening) (a : ArrayState) (words : Codewords) (old : List Happening) (is : IsOpenWith before a words old)
    (none : NothingReturned before old) where
  abbrev m : Membership
  m = a.member

  -- WHAT THE RACK REPRESENTS

  -- between calls,
  pub represents_open : IsBegun None m old → (content : Content) → IsOfContent m words content → IsTolerated m.array.geometry before old
      → Represents (state_with m content None m.array) old
  represents_open begun content of tolerated =
      represents_now m words old (in_session before a words old is none (goes_on_within m.array.geometry before old tolerated) begun) content of before
      tolerated

  -- and while an epoch is established that neither admits nor promotes
  module _ (aim : EpochChange) (gone : Slots) (last : Membership) (h new : List Happening) (joins : admitted aim ≡ None) (promotes : (j : ℕ) → aim ≢ Promote j)
      (f : IsFencing aim gone m last old h new) (going : ¬ IsTrue (stopped h)) where
    plain_begun : IsBegun None m old
    plain_begun = subst (λ (o : Option ℕ). IsBegun o m old) joins f.begun

    ready : IsReadyFor aim m words old
    ready =
        ready_plain aim m words old joins promotes
        (in_session before a words old is none (went_on aim gone m last old h new f going) plain_begun)

    pub meanwhile_open : (image : Image) → CrashMayLeave h image → (content : Content) (doubt : Option Change) → IsOfContent m words content
        → IsAimedContent aim m words content doubt → (tolerated : IsToleratedAlone m.array.geometry image)
        → RepresentsAlone (state_with m content doubt tolerated.current.array) image
    meanwhile_open image left = meanwhile aim gone m last words old h new image ready f going left

-- CALLS THAT ARE BESIDE

-- The record stays so, whichever media come back.
module _ (before : List Happening) (a : ArrayState) (words : Codewords) (old new : List Happening) (is : IsOpenWith before a words old)
    (history : IsHistory old) (ran : Ran (IsBesideArray a) old new) where
  abbrev mine : Membership
  mine = a.member

  beside_session : Ran (IsBeside mine) old new
  beside_session = ran_weakened {allowed = IsBesideArray a} {more = IsBeside mine} (λ i c may. may.session) ran

  rebuilt_then : (rebuild : Rebuild) → a.rebuild ≡ Some rebuild → IsAttached new rebuild.slot
      → IsRebuiltTo mine.array.geometry words rebuild.slot rebuild.stripe new new
  rebuilt_then rebuild same on =
      let slot = (is.array.rebuilds rebuild same).0 in
      let here : IsHere mine rebuild.slot = record { below = slot.below; why = inr slot.why } in
      rebuilt_now mine.array.geometry words rebuild.slot rebuild.stripe old new (kept_medium mine words old new beside_session rebuild.slot here on)
      (rebuilt_on {allowed = IsBesideArray a} mine.array.geometry words rebuild.slot rebuild.stripe old
      (λ t i bytes done row may. (may.chunks rebuild same refl).1 t i bytes reply.Done done row refl)
      (λ c may. (may.chunks rebuild same refl).0) ran
      (is.rebuilt rebuild same (was_attached mine words old new beside_session rebuild.slot here on)))

  pub open_beside : IsOpenWith before a words new
  open_beside = record {
    array = is.array;
    ran = ran_join {allowed = any_call} is.ran (ran_any {allowed = IsBesideArray a} ran);
    held = λ j here. held_on {allowed = IsBesideArray a} j ran (is.held j here);
    own = λ j here.
        own_beside mine old new is.array.member history is.own
        (ran_weakened {allowed = IsBesideArray a} {more = λ i c. IsBehindPlaces i c × AttachesNone (IsHere mine) i c}
        (λ i c may. (may.session.epochs.behind, may.session.epochs.attaches)) ran) j here;
    live = λ j at.
        live_beside mine words old new beside_session (λ i below why. is.live i (record { below = below; why = why })) j at.below at.why;
    shut = λ j at.
        shut_beside mine old new (epochs mine words old new beside_session) (λ i below why. is.shut i (record { below = below; why = why })) j at.below
        at.why;
    rebuilt = rebuilt_then;
  }

-- and where none does so does what a call that establishes an epoch begins with
pub beside_open : (before : List Happening) (a : ArrayState) (words : Codewords) (old new : List Happening) → IsOpenWith before a words old
    → IsBegun None a.member old → Ran (IsBesideArray a) old new → NothingReturned before new → ¬ IsTrue (stopped new)
    → IsOpenWith before a words new × IsBegun None a.member new
beside_open before a words old new is begun ran none going = (open_beside before a words old new is begun.history ran, then.begun)
  where
    between : IsMoment before old new
    between = moment_between {a = any_call} {b = IsBesideArray a} is.ran ran

    session : IsInSession a.member words old
    session =
        in_session before a words old is (each_before none between)
        (λ is_stopped. going (stopped_on {allowed = IsBesideArray a} ran is_stopped)) begun

    then : IsInSession a.member words new
    then =
        beside a.member words old new session
        (ran_weakened {allowed = IsBesideArray a} {more = IsBeside a.member} (λ i c may. may.session) ran) (each_after none between)

-- WHAT NO STRIPE HAS A SAY IN

pub amid_of : (before : List Happening) (a : ArrayState) (words : Codewords) (h : List Happening) → IsOpenWith before a words h → IsOpenAmid before a h
amid_of before a words h is = record { array = is.array; ran = is.ran; held = is.held; own = is.own; shut = is.shut }

module _ (before : List Happening) (a : ArrayState) (h : List Happening) (is : IsOpenAmid before a h) (none : NothingReturned before h)
    (going : ¬ IsTrue (stopped h)) where
  in_use : (j : ℕ) → IsHere a.member j → IsAttachedOrBare h j
  in_use j here =
      elim (attached_or_bare before h j is.ran none (is.held j here)) [ inl is_stopped ↦ absurd (going is_stopped) | inr so ↦ so ]

  -- a slot that takes part has reached the epoch: by its own superblock, or since it's bare
  here_reached : (image : Image) → CrashMayLeave h image → (j : ℕ) → IsHere a.member j
      → HasReached a.member.array.geometry image a.member.array.epoch j
  here_reached image left j here =
      elim (in_use j here) [
        | inl on ↦ own_reached a.member h image j is.array.member here (is.own j here on.0) left
        | inr off ↦ λ s counts first second. absurd
            (first (ByOutside (settled_left Damaged ((image j).cell 0) (subst (λ b. MayLeave b ((image j).cell 0)) (off.1 0) ((left j).each 0)))))
      ]

  -- So the session has the epoch.
  pub epoch_amid : IsBegun None a.member h → HasEpoch a.member h
  epoch_amid begun = record {
    begun = begun;
    marks = is.array.marks;
    reached = λ image left.
        all_but_mapped {P = λ j. why_of a.member j ≡ Here} {Q = λ j. IsHere a.member j × HasReached a.member.array.geometry image a.member.array.epoch j}
        (λ j below why.
        let here : IsHere a.member j = record { below = below; why = inl why } in
        (here, here_reached image left j here)) (all_here a.member.array.geometry a.member refl is.array.enough);
    own = in_use;
    shut = λ j below why. is.shut j (record { below = below; why = why });
  }

-- Calls beside the epochs keep it, whichever media come back,
pub amid_beside : (before : List Happening) (a : ArrayState) (old new : List Happening) → IsOpenAmid before a old → IsHistory old
    → Ran (IsBesideEpochs a.member) old new → IsOpenAmid before a new
amid_beside before a old new is history ran = record {
  array = is.array;
  ran = ran_join {allowed = any_call} is.ran (ran_any {allowed = IsBesideEpochs a.member} ran);
  held = λ j here. held_on {allowed = IsBesideEpochs a.member} j ran (is.held j here);
  own = λ j here.
      own_beside a.member old new is.array.member history is.own
      (ran_weakened {allowed = IsBesideEpochs a.member} {more = λ i c. IsBehindPlaces i c × AttachesNone (IsHere a.member) i c}
      (λ i c may. (may.behind, may.attaches)) ran) j here;
  shut = λ j at. shut_beside a.member old new ran (λ i below why. is.shut i (record { below = below; why = why })) j at.below at.why;
}

-- and where none does the session has its epoch.
pub beside_amid : (before : List Happening) (a : ArrayState) (old new : List Happening) → IsOpenAmid before a old → IsBegun None a.member old
    → Ran (IsBesideEpochs a.member) old new → NothingReturned before new → ¬ IsTrue (stopped new)
    → IsOpenAmid before a new × IsBegun None a.member new
beside_amid before a old new is begun ran none going = (amid_beside before a old new is begun.history ran, then.begun)
  where
    between : IsMoment before old new
    between = moment_between {a = any_call} {b = IsBesideEpochs a.member} is.ran ran

    then : HasEpoch a.member new
    then =
        epoch_kept a.member old new
        (epoch_amid before a old is (each_before none between)
        (λ is_stopped. going (stopped_on {allowed = IsBesideEpochs a.member} ran is_stopped)) begun) ran (each_after none between)

-- A REDO

-- with the stripes that its attached live slots serve it is a record of the whole
pub ends_with : (before : List Happening) (a : ArrayState) (words : Codewords) (h : List Happening) → IsOpenAmid before a h
    → ((j : ℕ) → IsLiveIn a.member j → IsAttached h j → ServesSlot a.member.array.geometry words h j)
    → ((rebuild : Rebuild) → a.rebuild ≡ Some rebuild → IsAttached h rebuild.slot
    → IsRebuiltTo a.member.array.geometry words rebuild.slot rebuild.stripe h h) → IsOpenWith before a words h
ends_with before a words h is live rebuilt = record {
  array = is.array;
  ran = is.ran;
  held = is.held;
  own = is.own;
  live = live;
  shut = is.shut;
  rebuilt = rebuilt;
}

-- a redo that is done on its attached live slots gives its new stripes
module _ (r : Redoing) (before : List Happening) (a : ArrayState) (live : ℕ → Type 0) (start h : List Happening) (is : IsOpenAmid before a h)
    (same : r.geometry ≡ a.member.array.geometry) (done : IsIn r Done live start h)
    (all : (j : ℕ) → IsLiveIn a.member j → IsAttached h j
    → live j × ((¬ WasPulled start h j) × IsLargeEnough a.member.array.geometry (slot_state h j).size))
    (rebuilt : (rebuild : Rebuild) → a.rebuild ≡ Some rebuild → IsAttached h rebuild.slot
    → (¬ WasPulled start h rebuild.slot) × IsRebuiltTo a.member.array.geometry r.new rebuild.slot rebuild.stripe start h) where
  done_serves : (j : ℕ) → IsLiveIn a.member j → IsAttached h j → ServesSlot a.member.array.geometry r.new h j
  done_serves j at on =
      let has = all j at on in
      subst (λ (g : Geometry). ServesSlot g r.new h j) same
      (served r start h j
      (is_in r Done (IsSlot j) start h (λ i on_it. slot_in r Done live start h done i (subst live (sym on_it) has.0)))
      has.1.0 (subst (λ (g : Geometry). IsLargeEnough g (slot_state h j).size) (sym same) has.1.1))

  pub redone_amid : IsOpenWith before a r.new h
  redone_amid =
      ends_with before a r.new h is done_serves
      (λ rebuild of on.
      let has = rebuilt rebuild of on in
      rebuilt_now a.member.array.geometry r.new rebuild.slot rebuild.stripe start h has.0 has.1)

-- so after calls beside the epochs the record is that with the new stripes
module _ (r : Redoing) (before : List Happening) (a : ArrayState) (live : ℕ → Type 0) (old new : List Happening) (is : IsOpenWith before a r.old old)
    (begun : IsBegun None a.member old) (same : r.geometry ≡ a.member.array.geometry) (ran : Ran (IsBesideEpochs a.member) old new)
    (none : NothingReturned before new) (going : ¬ IsTrue (stopped new)) (done : IsIn r Done live old new)
    (all : (j : ℕ) → IsLiveIn a.member j → IsAttached new j → live j)
    (rebuilt : (rebuild : Rebuild) → a.rebuild ≡ Some rebuild → IsAttached new rebuild.slot
    → IsRebuiltTo a.member.array.geometry r.new rebuild.slot rebuild.stripe old new) where
  free : (j : ℕ) → IsHere a.member j → Ran (AttachesNone (λ i. i ≡ j)) old new
  free j here =
      ran_weakened {allowed = IsBesideEpochs a.member} {more = AttachesNone (λ i. i ≡ j)}
      (λ i c may at. may.attaches (subst (IsHere a.member) (sym at) here)) ran

  kept_then : IsOpenAmid before a new × IsBegun None a.member new
  kept_then = beside_amid before a old new (amid_of before a r.old old is) begun ran none going

  pub redone_open : IsOpenWith before a r.new new × IsBegun None a.member new
  redone_open = (
    redone_amid r before a live old new kept_then.0 same done
        (λ j at on.
        let here : IsHere a.member j = record { below = at.below; why = inl at.why } in
        let was = attached_on old new j (free j here) on in (
          all j at on,
          (medium_on_it old new j (free j here) on, large_on a.member.array.geometry old new j (free j here) was on (is.live j at was).large),
        ))
        (λ rebuild of on.
        let slot = (is.array.rebuilds rebuild of).0 in
        let here : IsHere a.member rebuild.slot = record { below = slot.below; why = inr slot.why } in
        (medium_on_it old new rebuild.slot (free rebuild.slot here) on, rebuilt rebuild of on)),
    kept_then.1,
  )

-- AN EPOCH THAT STANDS

-- a medium's cells lie after its superblock places
cells_behind : (g : Geometry) (t i : ℕ) → 2 ≤ cell_sector g t i
cells_behind g t i = omega arith

-- It was established by the member that some slots left; a slot that was to be admitted was held, with its gate closed and no draw that
-- wasn't seen. Whichever media come back,
module _ (aim : EpochChange) (leaving gone : Slots) (before : List Happening) (a b : ArrayState) (start : Membership) (old new : List Happening)
    (is : IsOpenAmid before a old) (history : IsHistory old) (leaves : Leaves leaving a.member start)
    (joining : (j : ℕ) → admitted aim ≡ Some j → IsHeld before old j × (IsAttached old j
    → IsShut a.member.array.geometry old old j × ((k : ℕ) (s : Superblock) → k < 2
    → HoldsSuper (content ((slot_state old j).sector k)) s → s.draw ≤ a.member.drawn)))
    (issued : Issued aim gone start b.member old new) (rules : IsMembership b.member) (established : IsEstablished aim start b.member gone)
    (dropped : (j : ℕ) → HasSlot gone j → why_of b.member j ≡ Gone) (on_disk : StandsOnDisk (admitted aim) b.member old new)
    (promoted : (j : ℕ) → aim ≡ Promote j → IsHere start j) (keeps : KeepsRebuilds a b) where
  abbrev slots : Slots
  slots = issued.slots

  abbrev editions : List Edition
  editions = issued.editions

  ran_issuing : Ran (IsIssuing issued.slots issued.editions) old new
  ran_issuing = issued.ran

  geometry_then : b.member.array.geometry ≡ start.array.geometry
  geometry_then = established.stands.geometry

  same_geometry : b.member.array.geometry ≡ a.member.array.geometry
  same_geometry = geometry_then ∙ start_geometry leaving a.member start leaves

  below_start : (j : ℕ) → j < b.member.array.geometry.n → j < start.array.geometry.n
  below_start j below = subst (λ (g : Geometry). j < g.n) geometry_then below

  below_first : (j : ℕ) → j < b.member.array.geometry.n → j < a.member.array.geometry.n
  below_first j below = subst (λ (g : Geometry). j < g.n) same_geometry below

  -- the reason of a slot is what the epoch is for
  aimed_now : (j : ℕ) → j < b.member.array.geometry.n → why_of b.member j ≢ Gone → why_of b.member j ≡ aimed aim j (why_of start j)
  aimed_now j below stays =
      elim (has_or_not gone j) [
        | inl has ↦ absurd (stays (dropped j has))
        | inr out ↦ established.whys j (below_start j below) out
      ]

  -- a slot that is live was so, or is promoted, and one that is rebuilt was so, or is admitted
  live_from : (j : ℕ) → IsLiveIn b.member j → (why_of start j ≡ Here) ⊎ (aim ≡ Promote j)
  live_from j at =
      here_aimed aim j (why_of start j)
      (sym (aimed_now j at.below (λ is_gone. let never : Here ≡ Gone = sym at.why ∙ is_gone in cc)) ∙ at.why)

  rebuilt_from : (j : ℕ) → IsRebuiltIn b.member j → (why_of start j ≡ Rebuilding) ⊎ (admitted aim ≡ Some j)
  rebuilt_from j at =
      rebuilt_before aim j (why_of start j)
      (sym (aimed_now j at.below (λ is_gone. let never : Rebuilding ≡ Gone = sym at.why ∙ is_gone in cc)) ∙ at.why)

  -- so one that takes part did so, or is admitted
  here_from : (j : ℕ) → IsHere b.member j → IsHere start j ⊎ (admitted aim ≡ Some j)
  here_from j here =
      elim here.why [
        | inl is_live ↦
            elim (live_from j (record { below = here.below; why = is_live })) [
              | inl was ↦ inl (record { below = below_start j here.below; why = inl was })
              | inr promotes ↦ inl (promoted j promotes)
            ]
        | inr is_rebuilt ↦
            elim (rebuilt_from j (record { below = here.below; why = is_rebuilt })) [
              | inl was ↦ inl (record { below = below_start j here.below; why = inr was })
              | inr joins ↦ inr joins
            ]
      ]

  -- what is attached was so before, to the medium that it has
  since : (j : ℕ) → IsAttached new j → IsAttached old j × ¬ WasPulled old new j
  since j =
      attached_before {some = IsSlot j} j refl
      (ran_weakened {allowed = IsIssuing slots editions} {more = AttachesNone (IsSlot j)}
      (λ i c may. issuing_attaches slots editions (IsSlot j) i c may) ran_issuing)

  array_after : IsArray b
  array_after = record {
    member = rules;
    marks = λ j below. established.stands.marks j (below_start j below);
    enough = subst (λ (g : Geometry). AtMost g.m (IsMissing b.member)) (sym geometry_then) established.stands.enough;
    rebuilds = λ rebuild same. ((keeps rebuild same).slot, most rebuild (keeps rebuild same).stripe);
  }
    where
      most : (rebuild : Rebuild) → (a.rebuild ≡ Some rebuild) ⊎ (rebuild.stripe ≡ 0) → rebuild.stripe ≤ b.member.array.geometry.stripes
      most rebuild (inl was) = subst (λ (g : Geometry). rebuild.stripe ≤ g.stripes) (sym same_geometry) (is.array.rebuilds rebuild was).1
      most rebuild (inr none) = omega (arith, none)

  held_after : (j : ℕ) → IsHere b.member j → IsHeld before new j
  held_after j here =
      held_on {allowed = IsIssuing slots editions} j ran_issuing
      (elim (here_from j here) [
        | inl was ↦ is.held j (here_before leaving a.member start leaves j was)
        | inr joins ↦ (joining j joins).0
      ])

  -- no draw that wasn't seen lay in it
  seen : (j : ℕ) → IsHere b.member j → IsAttached old j → (k : ℕ) (s : Superblock) → k < 2
      → HoldsSuper (content ((slot_state old j).sector k)) s → s.draw ≤ start.drawn
  seen j here was k s place holds =
      subst (λ (n : ℕ). s.draw ≤ n) (sym leaves.drawn)
      (elim (here_from j here) [
        | inl took ↦
            let first = here_before leaving a.member start leaves j took in
            own_drawn a.member old j k s is.array.member first (is.own j first was) place holds
        | inr joins ↦ ((joining j joins).1 was).1 k s place holds
      ])

  shut_after : (j : ℕ) → IsRebuiltIn b.member j → IsAttached new j → IsShut b.member.array.geometry new new j
  shut_after j at on =
      let medium = since j on in
      subst (λ (g : Geometry). IsShut g new new j) (sym same_geometry)
      (shut_issued slots editions a.member.array.geometry old new j ran_issuing medium.1
      (elim (rebuilt_from j at) [
        | inl was ↦
            is.shut j (record { below = below_first j at.below; why = rebuilding_before leaving a.member start leaves j was }) medium.0
        | inr joins ↦ ((joining j joins).1 medium.0).0
      ]))

  -- what no stripe has a say in is that of the new epoch,
  pub amid_after : IsOpenAmid before b new
  amid_after = record {
    array = array_after;
    ran = ran_join {allowed = any_call} is.ran (ran_any {allowed = IsIssuing slots editions} ran_issuing);
    held = held_after;
    own = λ j here on.
        own_given aim gone start b.member old new history issued established.stands rules on_disk j here on (seen j here);
    shut = shut_after;
  }

  module _ (words : Codewords) (live : (j : ℕ) → IsLiveIn a.member j → IsAttached old j → ServesSlot a.member.array.geometry words old j)
      (serves : (j : ℕ) → aim ≡ Promote j → IsAttached old j → ServesSlot a.member.array.geometry words old j) where
    live_after : (j : ℕ) → IsLiveIn b.member j → IsAttached new j → ServesSlot b.member.array.geometry words new j
    live_after j at on =
        let medium = since j on in
        let was : ServesSlot a.member.array.geometry words old j =
        elim (live_from j at) [
          | inl was_live ↦
              live j (record { below = below_first j at.below; why = live_before leaving a.member start leaves j was_live }) medium.0
          | inr promotes ↦ serves j promotes medium.0
        ] in
        subst (λ (g : Geometry). ServesSlot g words new j) (sym same_geometry)
        (serves_issued slots editions a.member words old new j ran_issuing medium.0 medium.1 was)

    module _ (rebuilt : (rebuild : Rebuild) → a.rebuild ≡ Some rebuild → IsAttached old rebuild.slot
        → IsRebuiltTo a.member.array.geometry words rebuild.slot rebuild.stripe old old) where
      rebuilt_after : (rebuild : Rebuild) → b.rebuild ≡ Some rebuild → IsAttached new rebuild.slot
          → IsRebuiltTo b.member.array.geometry words rebuild.slot rebuild.stripe new new
      rebuilt_after rebuild same on = by (keeps rebuild same).stripe
        where
          no_cell : (t i : ℕ) (bytes : List ℕ) → ¬ IsIssuing slots editions rebuild.slot (Write (cell_sector a.member.array.geometry t i) bytes reply.Done)
          no_cell t i bytes may =
              let first : cell_sector a.member.array.geometry t i < gate_sector =
              issuing_writes slots editions (IsSlot rebuild.slot) rebuild.slot (Write (cell_sector a.member.array.geometry t i) bytes reply.Done) may refl in
              let behind = cells_behind a.member.array.geometry t i in
              omega (arith, first, behind)

          by : (a.rebuild ≡ Some rebuild) ⊎ (rebuild.stripe ≡ 0) → IsRebuiltTo b.member.array.geometry words rebuild.slot rebuild.stripe new new
          by (inl was) =
              subst (λ (g : Geometry). IsRebuiltTo g words rebuild.slot rebuild.stripe new new) (sym same_geometry)
              (rebuilt_now a.member.array.geometry words rebuild.slot rebuild.stripe old new (since rebuild.slot on).1
              (rebuilt_on {allowed = IsIssuing slots editions} a.member.array.geometry words rebuild.slot rebuild.stripe old
              (λ t i bytes done row. no_cell t i bytes)
              (λ c may. issuing_attaches slots editions (IsSlot rebuild.slot) rebuild.slot c may refl) ran_issuing
              (rebuilt rebuild was (since rebuild.slot on).0)))
          by (inr none) =
              subst (λ (next : ℕ). IsRebuiltTo b.member.array.geometry words rebuild.slot next new new) (sym none)
              (rebuilt_none b.member.array.geometry words rebuild.slot new new)

      -- and so is all of the record.
      pub open_after : IsOpenWith before b words new
      open_after = ends_with before b words new amid_after live_after rebuilt_after

-- Where none comes back the new epoch is the session's, too; slots that took part were attached or bore nothing.
module _ (aim : EpochChange) (leaving gone : Slots) (before : List Happening) (a b : ArrayState) (start : Membership) (old new : List Happening)
    (is : IsOpenAmid before a old) (leaves : Leaves leaving a.member start)
    (own : (j : ℕ) → IsTaken (admitted aim) start j → IsAttachedOrBare old j)
    (joining : (j : ℕ) → admitted aim ≡ Some j → IsHeld before old j × (IsAttached old j
    → IsShut a.member.array.geometry old old j × ((k : ℕ) (s : Superblock) → k < 2
    → HoldsSuper (content ((slot_state old j).sector k)) s → s.draw ≤ a.member.drawn)))
    (st : HasStood aim gone start b.member old new) (going : ¬ IsTrue (stopped new)) (keeps : KeepsRebuilds a b) where
  begun_after : IsBegun None b.member new
  begun_after = (stood aim gone start b.member old new own st going shut_before).begun
    where
      shut_before : (j : ℕ) → j < start.array.geometry.n → (why_of start j ≡ Rebuilding) ⊎ (admitted aim ≡ Some j) → IsAttached old j
          → IsShut start.array.geometry old old j
      shut_before j below which on =
          subst (λ (g : Geometry). IsShut g old old j) (sym (start_geometry leaving a.member start leaves))
          (elim which [
            | inl rebuilt ↦
                is.shut j
                (record {
                  below = subst (λ (g : Geometry). j < g.n) (start_geometry leaving a.member start leaves) below;
                  why = rebuilding_before leaving a.member start leaves j rebuilt;
                }) on
            | inr joins ↦ ((joining j joins).1 on).0
          ])

  pub established_amid : IsOpenAmid before b new × IsBegun None b.member new
  established_amid = (
    amid_after aim leaving gone before a b start old new is st.fencing.begun.history leaves joining st.fencing.issued st.member st.established st.dropped
        st.on_disk st.promoted keeps,
    begun_after,
  )

  pub established_with : (words : Codewords)
      → ((j : ℕ) → IsLiveIn a.member j → IsAttached old j → ServesSlot a.member.array.geometry words old j)
      → ((j : ℕ) → aim ≡ Promote j → IsAttached old j → ServesSlot a.member.array.geometry words old j)
      → ((rebuild : Rebuild) → a.rebuild ≡ Some rebuild → IsAttached old rebuild.slot
      → IsRebuiltTo a.member.array.geometry words rebuild.slot rebuild.stripe old old)
      → IsOpenWith before b words new × IsBegun None b.member new
  established_with words live serves rebuilt = (
    open_after aim leaving gone before a b start old new is st.fencing.begun.history leaves joining st.fencing.issued st.member st.established st.dropped
        st.on_disk st.promoted keeps words live serves rebuilt,
    begun_after,
  )

-- by a session that was ready for it
pub established_open : (aim : EpochChange) (gone : Slots) (before : List Happening) (a b : ArrayState) (words : Codewords) (old new : List Happening)
    → IsOpenWith before a words old → IsReadyFor aim a.member words old → ((j : ℕ) → admitted aim ≡ Some j → IsHeld before old j)
    → HasStood aim gone a.member b.member old new → ¬ IsTrue (stopped new) → KeepsRebuilds a b
    → IsOpenWith before b words new × IsBegun None b.member new
established_open aim gone before a b words old new is ready held st going keeps =
    established_with aim no_slots gone before a b a.member old new (amid_of before a words old is) (none_leave a.member)
    (own_taken aim a.member words old ready)
    (λ j joins. (
      held j joins,
      λ on. (
        ready.shut j joins on,
        λ k s place holds.
            (ready.begun.known (image_now old) (CrashMayLeave-now old)).drawn j k s (inr (joins, (ready.absent j joins).0)) on place holds,
      ),
    )) st going keeps words is.live (λ j promotes. ready.serves j promotes) is.rebuilt

-- A FENCE

-- by the member that some slots left, in the midst of a redo too
module _ (leaving gone : Slots) (before : List Happening) (a b : ArrayState) (start : Membership) (old new : List Happening)
    (none : NothingReturned before old) (leaves : Leaves leaving a.member start) (st : HasStood Fence gone start b.member old new)
    (going : ¬ IsTrue (stopped new)) (keeps : KeepsRebuilds a b) where
  no_join : (j : ℕ) → admitted Fence ≡ Some j → ⊥
  no_join j never = cc

  own_then : IsOpenAmid before a old → (j : ℕ) → IsTaken (admitted Fence) start j → IsAttachedOrBare old j
  own_then is j (inl here) =
      in_use before a old is none
      (λ is_stopped. going (stopped_on {allowed = IsIssuing st.fencing.issued.slots st.fencing.issued.editions} st.fencing.issued.ran is_stopped)) j
      (here_before leaving a.member start leaves j here)
  own_then is j (inr joins) = absurd (no_join j joins.0)

  pub fenced_amid : IsOpenAmid before a old → IsOpenAmid before b new × IsBegun None b.member new
  fenced_amid is =
      established_amid Fence leaving gone before a b start old new is leaves (own_then is) (λ j joins. absurd (no_join j joins)) st going keeps

  pub fenced_open : (words : Codewords) → IsOpenWith before a words old → IsOpenWith before b words new × IsBegun None b.member new
  fenced_open words is =
      let amid = amid_of before a words old is in
      established_with Fence leaving gone before a b start old new amid leaves (own_then amid) (λ j joins. absurd (no_join j joins)) st going keeps words
      is.live (λ j never. absurd (cc)) is.rebuilt

-- THE REBUILD

goes_on_with : (last : Membership) (was rebuild : Rebuild) (why : Why) → why_of last was.slot ≡ why → rebuild_if why was ≡ Some rebuild
    → (was ≡ rebuild) × (why_of last rebuild.slot ≡ Rebuilding)
goes_on_with last was rebuild Rebuilding is same =
    let at : was ≡ rebuild = cc in (at, subst (λ (r : Rebuild). why_of last r.slot ≡ Rebuilding) at is)
goes_on_with last was rebuild why is same = absurd (cc)

pub goes_on_from : (last : Membership) (was : Option Rebuild) (rebuild : Rebuild) → rebuild_in last was ≡ Some rebuild
    → (was ≡ Some rebuild) × (why_of last rebuild.slot ≡ Rebuilding)
goes_on_from last None rebuild same = absurd (cc)
goes_on_from last (Some was) rebuild same =
    let both = goes_on_with last was rebuild (why_of last was.slot) refl same in (ap (λ (r : Rebuild). Some r) both.0, both.1)

-- where its slot is one that is rebuilt still, the array that an epoch leads to has gone as far with it
pub keeps_rebuilds : (a : ArrayState) (last : Membership) → IsArray a → last.array.geometry ≡ a.member.array.geometry
    → KeepsRebuilds a (led_to a last)
keeps_rebuilds a last is same rebuild of =
    let both = goes_on_from last a.rebuild rebuild of in
    let slot = (is.rebuilds rebuild both.0).0 in
    record {
      slot = record { below = subst (λ (g : Geometry). rebuild.slot < g.n) (sym same) slot.below; why = both.1 };
      stripe = inl both.0;
    }

-- the record with another rebuild, or one that has come further
pub rebuilds_on : (before : List Happening) (a b : ArrayState) (words : Codewords) (h : List Happening) → IsOpenWith before a words h
    → b.member ≡ a.member
    → ((rebuild : Rebuild) → b.rebuild ≡ Some rebuild → IsRebuiltIn a.member rebuild.slot
    × ((rebuild.stripe ≤ a.member.array.geometry.stripes)
    × (IsAttached h rebuild.slot → IsRebuiltTo a.member.array.geometry words rebuild.slot rebuild.stripe h h))) → IsOpenWith before b words h
rebuilds_on before a b words h is same on =
    subst (λ (x : Membership). IsOpenWith before (record { member = x; rebuild = b.rebuild; stopped = b.stopped; remembered = b.remembered }) words h) (sym same)
    (record {
      array = record {
        member = is.array.member;
        marks = is.array.marks;
        enough = is.array.enough;
        rebuilds = λ rebuild of. ((on rebuild of).0, (on rebuild of).1.0);
      };
      ran = is.ran;
      held = is.held;
      own = is.own;
      live = is.live;
      shut = is.shut;
      rebuilt = λ rebuild of. (on rebuild of).1.1;
    })

-- AN EPOCH'S CALLS

module _ (aim : EpochChange) (gone : Slots) (m last : Membership) (old new : List Happening) (issued : Issued aim gone m last old new) where
  -- they are apart from a redo, on whichever slots,
  pub issued_apart : (live : ℕ → Type 0) → Ran (IsApart live) old new
  issued_apart live =
      ran_weakened {allowed = IsIssuing issued.slots issued.editions} {more = IsApart live}
      (λ i c may. (issuing_attaches issued.slots issued.editions live i c may, issuing_writes issued.slots issued.editions live i c may)) issued.ran

  -- and beside the chunks that were rebuilt
  pub issued_beside : (g : Geometry) (j next : ℕ) → Ran (IsBesideChunks g j next) old new
  issued_beside g j next =
      ran_weakened {allowed = IsIssuing issued.slots issued.editions} {more = IsBesideChunks g j next}
      (λ i c may at. (
        issuing_attaches issued.slots issued.editions (IsSlot i) i c may refl,
        λ t row bytes answer below inside wrote. no_cell i (cell_sector g t row) bytes answer (cells_behind g t row)
            (subst (λ (x : SlotCall). IsIssuing issued.slots issued.editions i x) wrote may),
      )) issued.ran
    where
      no_cell : (i k : ℕ) (bytes : List ℕ) (answer : Reply) → 2 ≤ k → ¬ IsIssuing issued.slots issued.editions i (Write k bytes answer)
      no_cell i k bytes answer behind may =
          let first : k < gate_sector = issuing_writes issued.slots issued.editions (IsSlot i) i (Write k bytes answer) may refl in
          omega (arith, first, behind)
