-- An open array while calls are made beside all that it has, and while a slot is promoted or admitted, and by which laws it is led on,
-- whether media come back or not: a slot is replaced so, and rebuilt.
use Rattle.std.proofs.Common.{ap, ◌++◌, sym, subst, ◌∙◌, ◌≡◌, ℕ, ◌<◌, List, None, Option, Some, ◌⊎◌, inl, refl}
use Rattle.std.proofs.lemmas.Bool.{cond-true, eq-eqb}
use Rattle.std.specs.Prelude.{not, IsTrue}
use Rattle.stair_model.specs.Device.{first_place, second_place}
use Rattle.stair_model.specs.Geometry.{Geometry}
use Rattle.stair_model.specs.Slots.{HasSlot, Slots}
use Rattle.stair_rack.specs.Answers.{IsBesideAttach, Told, Untold, is_ready, Calls, Ran, any_call}
use Rattle.stair_rack.specs.Crash.{CrashMayLeave}
use Rattle.stair_rack.specs.History.{SlotState, Sync, slot_state, stopped, Attach, Happening}
use Rattle.stair_rack.specs.Media.{Image}
use Rattle.stair_rack.specs.Moments.{IsMoment}
use Rattle.stair_rack.specs.Offline.{WasPulled, IsAttached, IsHeld}
use Rattle.stair_rack.specs.Passes.{IsDone, IsOn, Settled}
use Rattle.stair_rack.specs.Placed.{IsSlot}
use Rattle.stair_rack.specs.Sector.{Cell}
use Rattle.stair_rack.specs.RackState.{IsReading, RackState}
use Rattle.stair_rack.specs.declared.rack.Reply.TheVariants as reply
use Rattle.stair_rack.proofs.CallLemmas.{attach_done}
use Rattle.stair_rack.proofs.MomentLemmas.{ran_weakened, ran_any, ran_before, ran_join}
use Rattle.stair_rack.proofs.OfflineLemmas.{and-true_left, reply_if-Done, held_on, pulls_on}
use Rattle.stair_super.specs.Superblock.{Superblock, mark_in}
use Rattle.stair_super.specs.declared.configuration.Configuration.{Configuration}
use Rattle.stair_super.specs.declared.mark.Mark.TheVariants.{Down}
use Rattle.stair_member.specs.Aims.{frozen_then, label_then, mark_for}
use Rattle.stair_member.specs.Establishing.{Establishes}
use Rattle.stair_member.specs.Membership.{IsMembership, Membership, why_of}
use Rattle.stair_member.specs.Seeing.{Sees}
use Rattle.stair_member.specs.Superblocks.{HoldsThis}
use Rattle.stair_member.specs.declared.aim.EpochChange.{EpochChange}
use Rattle.stair_member.specs.declared.aim.EpochChange.TheVariants.{Promote, Admit}
use Rattle.stair_member.specs.declared.fault.FenceFault.{FenceFault}
use Rattle.stair_member.specs.declared.fault.FenceFault.TheVariants as fence
use Rattle.stair_member.specs.declared.why.Why.{Why}
use Rattle.stair_state.specs.Blocks.{AreEncodingsOf, Codewords}
use Rattle.stair_state.specs.Recovering.{IsShut}
use Rattle.stair_state.specs.Redoing.{AttachesNone}
use Rattle.stair_state.specs.State.{Content}
use Rattle.stair_invariant.specs.InSession.{IsOfContent, state_with}
use Rattle.stair_invariant.specs.Leading.{IsBesideArray, led_to}
use Rattle.stair_invariant.specs.Rebuilding.{IsRebuiltTo}
use Rattle.stair_invariant.specs.Returning.{AnyReturns, NoneReturns, Returning, StandsFor, StandsForAlone}
use Rattle.stair_invariant.specs.SeatSteps.{SeatsMove}
use Rattle.stair_invariant.specs.Session.{IsOpenWith, ArrayState, IsRebuiltIn, ServesSlot, seats_in}
use Rattle.stair_invariant.proofs.KnownLemmas.{attached_before}
use Rattle.stair_invariant.proofs.OpenLaws.{goes_on_within}
use Rattle.stair_invariant.proofs.RebuildingLemmas.{rebuilt_serves}
use Rattle.stair_invariant.proofs.SeatLemmas.{Begins, listed_member, seats_move}
use Rattle.stair_invariant.proofs.Serving.{StaysWithinToleranceTo, IsGoing, IsServing, LeadsReads, StandsIn, tolerated_now}

-- within tolerance a session goes on
pub calm_going : (returning : Returning) (g : Geometry) (before h : List Happening) → Ran any_call before h → StaysWithinToleranceTo returning g before h
    → IsGoing returning g before h
calm_going NoneReturns g before h ran calm = (calm.1, goes_on_within g before h (tolerated_now NoneReturns g before h ran calm))
calm_going AnyReturns g before h ran calm = calm

-- CALLS BESIDE

pub record LeadsBeside (returning : Returning) : Type 0 where
  -- The array serves after calls that are beside all that it has: to slots that don't take part, and to one that is rebuilt after the
  -- chunks that the rebuild has come to.
  pub beside : (before : List Happening) (a : ArrayState) (words : Codewords) (kept : Content) (old new : List Happening)
      → IsServing returning before a words kept old → Ran (IsBesideArray a) old new → IsGoing returning a.member.array.geometry before new
      → IsServing returning before a words kept new

-- at each moment of them an image represents the state
pub beside_stands : (returning : Returning) → LeadsReads returning → LeadsBeside returning → (before : List Happening) (a : ArrayState)
    (words : Codewords) (kept : Content) (old new : List Happening) → IsServing returning before a words kept old → Ran (IsBesideArray a) old new
    → (c : List Happening) → IsMoment old c new → StaysWithinToleranceTo returning a.member.array.geometry before c → (image : Image) → CrashMayLeave c image
    → StandsIn returning a.member kept None image
beside_stands returning reads laws before a words kept old new is ran c at calm image left = record {
  array = a.member.array;
  stands = reads.alone (state_with a.member kept None a.member.array) c image then.history (reads.stands before a words kept c then calm) left;
  dropped = λ j. inl refl;
}
  where
    upto : Ran (IsBesideArray a) old c
    upto = ran_before {allowed = IsBesideArray a} ran at

    then : IsServing returning before a words kept c
    then =
        laws.beside before a words kept old c is upto
        (calm_going returning a.member.array.geometry before c
        (ran_join {allowed = any_call} is.is_open.ran (ran_any {allowed = IsBesideArray a} upto)) calm)

-- SEATS THAT MOVE

-- An image represents the state, with seats that the array had, or as an epoch for this has them.
pub record StandsMoved (returning : Returning) (aim : EpochChange) (gone : Slots) (m : Membership) (kept : Content) (image : Image) : Type 0 where
  pub array : Configuration
  pub stands : StandsForAlone returning (state_with m kept None array) image
  pub moved : (array ≡ m.array) ⊎ SeatsMove aim (HasSlot gone) (seats_in m.array) (seats_in array)

-- so does a rack
pub record StandsAsMoved (returning : Returning) (aim : EpochChange) (gone : Slots) (m : Membership) (kept : Content) (h : List Happening) : Type 0 where
  pub array : Configuration
  pub stands : StandsFor returning (state_with m kept None array) h
  pub moved : (array ≡ m.array) ⊎ SeatsMove aim (HasSlot gone) (seats_in m.array) (seats_in array)

-- Where it isn't refused an epoch moves seats as it is for that.
pub epoch_moves : (aim : EpochChange) (m last : Membership) (old new : RackState) → IsMembership m
    → ((j : ℕ) → j < m.array.geometry.n → mark_in m.array j ≡ mark_for (why_of m j)) → Begins aim m → (e : Establishes aim m last None old new)
    → SeatsMove aim (HasSlot e.gone) (seats_in m.array) (seats_in last.array)
epoch_moves aim m last old new rules marks begins e =
    seats_move (HasSlot e.gone) m last.array rules (listed_member last e.rules) marks aim begins (e.done refl).aimed_at

-- and keeps the content, where it is for seats
pub epoch_content : (aim : EpochChange) (m last : Membership) (words : Codewords) (kept : Content) (old new : RackState) → IsOfContent m words kept
    → frozen_then aim m.array ≡ m.array.frozen → label_then aim m.array ≡ m.array.label → Establishes aim m last None old new
    → IsOfContent last words kept
epoch_content aim m last words kept old new of frozen label e =
    let named = (e.done refl).aimed_at in record {
      encodings = subst (λ (g : Geometry). AreEncodingsOf g kept.blocks words) (sym e.geometry) of.encodings;
      frozen = named.frozen ∙ frozen ∙ of.frozen;
      label = named.label ∙ label ∙ of.label;
    }

-- A PROMOTION

-- slot j is rebuilt whole: it is attached, and serves the stripes
pub record IsRebuiltWhole (a : ArrayState) (words : Codewords) (h : List Happening) (j : ℕ) : Type 0 where
  pub rebuilt : IsRebuiltIn a.member j
  pub attached : IsAttached h j
  pub serves : ServesSlot a.member.array.geometry words h j

-- a slot that answered its sync Done is attached
synced_attached : (old new : List Happening) (j : ℕ) → Calls old new j (Sync reply.Done) → IsAttached new j
synced_attached old new j (Told acts runs answered is) =
    subst (λ (h : List Happening). IsAttached h j) (sym is)
    (ap (λ (b : SlotState). b.attached) (cond-true _ _ _ (eq-eqb j j refl))
    ∙ and-true_left (slot_state (acts ++ old) j).attached (not (stopped (acts ++ old))) (reply_if-Done (is_ready (acts ++ old) j) answered))
synced_attached old new j (Untold acts runs answered stops changes is) =
    subst (λ (h : List Happening). IsAttached h j) (sym is)
    (and-true_left (slot_state (acts ++ old) j).attached (not (stopped (acts ++ old))) (reply_if-Done (is_ready (acts ++ old) j) answered))

-- So it is once all its chunks were written and it was synced alone, which is a pass over it.
pub rebuilt_wholly : (before : List Happening) (a : ArrayState) (words : Codewords) (j : ℕ) (to gone : Slots) (old new : List Happening)
    → IsOpenWith before a words old → IsRebuiltIn a.member j → Settled to gone old new → IsDone to gone j
    → (IsAttached old j → IsRebuiltTo a.member.array.geometry words j a.member.array.geometry.stripes old old)
    → Calls old new j (Sync reply.Done) → IsRebuiltWhole a words new j
rebuilt_wholly before a words j to gone old new is rebuilt settles done chunks called = record {
  rebuilt = rebuilt;
  attached = on;
  serves =
      rebuilt_serves a.member.array.geometry words j to gone old old new is.array.member.array.limits settles done (chunks was.0)
      (is.shut j rebuilt was.0) on was.1;
}
  where
    on : IsAttached new j
    on = synced_attached old new j called

    was : IsAttached old j × ¬ WasPulled old new j
    was =
        attached_before {some = IsSlot j} j refl
        (ran_weakened {allowed = IsOn to Sync} {more = AttachesNone (IsSlot j)} (λ i c may here. subst IsBesideAttach (sym may.1.1) tt) settles.ran) on

pub record LeadsPromotions (returning : Returning) : Type 0 where
  -- at each moment of it, refused or not, an image represents the state
  pub moments : (before : List Happening) (a : ArrayState) (words : Codewords) (kept : Content) (j : ℕ) (last : Membership)
      (refusal : Option FenceFault) (old new : RackState) → IsServing returning before a words kept old.history
      → IsRebuiltWhole a words old.history j → (e : Establishes (Promote j) a.member last refusal old new) → IsTrue new.honest
      → (c : List Happening) → IsMoment old.history c new.history → StaysWithinToleranceTo returning a.member.array.geometry before c → (image : Image)
      → CrashMayLeave c image → StandsMoved returning (Promote j) e.gone a.member kept image
  -- so does the rack in the end
  pub ended : (before : List Happening) (a : ArrayState) (words : Codewords) (kept : Content) (j : ℕ) (last : Membership)
      (refusal : Option FenceFault) (old new : RackState) → IsServing returning before a words kept old.history
      → IsRebuiltWhole a words old.history j → (e : Establishes (Promote j) a.member last refusal old new) → IsTrue new.honest
      → StaysWithinToleranceTo returning a.member.array.geometry before new.history → StandsAsMoved returning (Promote j) e.gone a.member kept new.history
  -- where it isn't refused the array serves, with the slot live, or dropped if it was gone
  pub serves : (before : List Happening) (a : ArrayState) (words : Codewords) (kept : Content) (j : ℕ) (last : Membership) (old new : RackState)
      → IsServing returning before a words kept old.history → IsRebuiltWhole a words old.history j
      → (e : Establishes (Promote j) a.member last None old new) → IsTrue new.honest → IsGoing returning a.member.array.geometry before new.history
      → IsServing returning before (led_to a last) words kept new.history
  -- it isn't refused for want of slots
  pub enough : (before : List Happening) (a : ArrayState) (words : Codewords) (kept : Content) (j : ℕ) (last : Membership) (whys : List Why)
      (old new : RackState) → IsServing returning before a words kept old.history → IsRebuiltWhole a words old.history j
      → Establishes (Promote j) a.member last (Some (fence.TooFew whys)) old new → IsTrue new.honest
      → StaysWithinToleranceTo returning a.member.array.geometry before new.history → ⊥

-- AN ADMISSION

-- A slot that doesn't take part was attached and looked at, and its gate closed, by calls beside the array: the member is as it was but for
-- what the superblock places held.
pub record IsLookedAt (a : ArrayState) (slot : ℕ) (seen : Membership) (old new : List Happening) : Type 0 where
  pub below : slot < a.member.array.geometry.n
  pub down : mark_in a.member.array slot ≡ Down
  pub ran : Ran (IsBesideArray a) old new
  -- its medium was attached, and no other one since
  pub start : RackState
  pub end : RackState
  pub attached : Calls old start.history slot (Attach reply.Done)
  pub honest : IsTrue end.honest
  pub later : Ran (AttachesNone (IsSlot slot)) end.history new
  pub none : Ran (AttachesNone (IsSlot slot)) start.history end.history
  -- what its places held
  pub cell : ℕ → Cell
  pub reading : (k : ℕ) → k < 2 → IsReading slot k start end (cell k)
  pub first : Option Superblock
  pub second : Option Superblock
  pub in_first : HoldsThis (cell first_place) first
  pub in_second : HoldsThis (cell second_place) second
  pub sees : Sees slot first second a.member seen
  pub rules : IsMembership seen
  -- while it is attached its gate reads closed
  pub shut : IsAttached new slot → IsShut a.member.array.geometry new new slot

-- since its attach the session holds the slot
pub looked_held : (before : List Happening) (a : ArrayState) (slot : ℕ) (seen : Membership) (old new : List Happening) → Ran any_call before old
    → IsLookedAt a slot seen old new → IsHeld before new slot
looked_held before a slot seen old new ran l =
    held_on {allowed = any_call} {before = before} slot
    (ran_join {allowed = any_call} (ran_any {allowed = AttachesNone (IsSlot slot)} l.none) (ran_any {allowed = AttachesNone (IsSlot slot)} l.later))
    (attach_done old l.start.history slot before (pulls_on {allowed = any_call} slot ran) l.attached)

-- the array with what was seen
abbrev pub seen_by : ArrayState → Membership → ArrayState
seen_by a seen = record a { member = seen }

pub record LeadsAdmissions (returning : Returning) : Type 0 where
  -- by what was seen the array serves,
  pub saw : (before : List Happening) (a : ArrayState) (words : Codewords) (kept : Content) (slot : ℕ) (seen : Membership)
      (old new : List Happening) → IsServing returning before a words kept old → IsLookedAt a slot seen old new
      → IsGoing returning a.member.array.geometry before new → IsServing returning before (seen_by a seen) words kept new
  -- at each moment of the admission, refused or not, an image represents the state,
  pub moments : (before : List Happening) (a : ArrayState) (words : Codewords) (kept : Content) (slot : ℕ) (seen last : Membership)
      (refusal : Option FenceFault) (first : List Happening) (old new : RackState) → IsServing returning before a words kept first
      → IsLookedAt a slot seen first old.history → (e : Establishes (Admit slot) seen last refusal old new) → IsTrue new.honest
      → (c : List Happening) → IsMoment old.history c new.history → StaysWithinToleranceTo returning a.member.array.geometry before c → (image : Image)
      → CrashMayLeave c image → StandsMoved returning (Admit slot) e.gone seen kept image
  -- and so does the rack in the end
  pub ended : (before : List Happening) (a : ArrayState) (words : Codewords) (kept : Content) (slot : ℕ) (seen last : Membership)
      (refusal : Option FenceFault) (first : List Happening) (old new : RackState) → IsServing returning before a words kept first
      → IsLookedAt a slot seen first old.history → (e : Establishes (Admit slot) seen last refusal old new) → IsTrue new.honest
      → StaysWithinToleranceTo returning a.member.array.geometry before new.history → StandsAsMoved returning (Admit slot) e.gone seen kept new.history
  -- where it isn't refused the array serves, with the slot as one that is rebuilt, or Down if it was gone
  pub serves : (before : List Happening) (a : ArrayState) (words : Codewords) (kept : Content) (slot : ℕ) (seen last : Membership)
      (first : List Happening) (old new : RackState) → IsServing returning before a words kept first → IsLookedAt a slot seen first old.history
      → (e : Establishes (Admit slot) seen last None old new) → IsTrue new.honest → IsGoing returning a.member.array.geometry before new.history
      → IsServing returning before (led_to (seen_by a seen) last) words kept new.history
  -- it isn't refused for want of slots
  pub enough : (before : List Happening) (a : ArrayState) (words : Codewords) (kept : Content) (slot : ℕ) (seen last : Membership)
      (whys : List Why) (first : List Happening) (old new : RackState) → IsServing returning before a words kept first
      → IsLookedAt a slot seen first old.history → Establishes (Admit slot) seen last (Some (fence.TooFew whys)) old new → IsTrue new.honest
      → StaysWithinToleranceTo returning a.member.array.geometry before new.history → ⊥
