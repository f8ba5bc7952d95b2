-- An open array that serves is led on by reads, and by slots that are left out, whichever media come back meanwhile.
use Rattle.std.proofs.Common.{◌≡◌, ℕ, List, inl, refl, sym, ◌∙◌, subst, None}
use Rattle.std.specs.Prelude.{IsTrue, Result}
use Rattle.stair_model.specs.Geometry.{Geometry}
use Rattle.stair_model.specs.Slots.{HasSlot, Slots}
use Rattle.stair_rack.specs.Answers.{IsHistory, Ran, any_call}
use Rattle.stair_rack.specs.Crash.{CrashMayLeave}
use Rattle.stair_rack.specs.History.{Happening, SlotCall, Attach, Sectors, Read, Write, Sync}
use Rattle.stair_rack.specs.Media.{Image}
use Rattle.stair_rack.specs.Moments.{IsMoment}
use Rattle.stair_rack.specs.RackState.{RackState}
use Rattle.stair_rack.proofs.MomentLemmas.{moment_last, ran_any, ran_join, ran_weakened}
use Rattle.stair_rack.proofs.TidyLemmas.{history_on}
use Rattle.stair_super.specs.declared.configuration.Configuration.{Configuration}
use Rattle.stair_member.specs.Aims.{IsAimed}
use Rattle.stair_member.specs.Epochs.{IsIssuing, Issued}
use Rattle.stair_member.specs.Establishing.{Establishes, Fences, refusal_of}
use Rattle.stair_member.specs.Membership.{IsHere, Membership}
use Rattle.stair_member.specs.declared.aim.EpochChange.TheVariants.{Fence}
use Rattle.stair_member.specs.declared.fault.FenceFault.{FenceFault}
use Rattle.stair_state.specs.Blocks.{AreEncodingsOf, Codewords}
use Rattle.stair_state.specs.State.{Content}
use Rattle.stair_state.specs.Tolerance.{IsTolerated, ToleratedSince}
use Rattle.stair_state.proofs.AloneLemmas.{left_consistent}
use Rattle.stair_invariant.specs.Effects.{Fenced, FencesGone, NoneWas, Snapshot, snapshot}
use Rattle.stair_invariant.specs.InSession.{IsOfContent, state_with}
use Rattle.stair_invariant.specs.Leading.{IsBesideArray, led_to}
use Rattle.stair_invariant.specs.Returning.{AnyReturns, KnowsMedia, current_media_of}
use Rattle.stair_invariant.specs.SeatSteps.{EachMayDrop}
use Rattle.stair_invariant.specs.Session.{ArrayState, seats_in}
use Rattle.stair_invariant.proofs.FencesLemmas.{establishes, open_left}
use Rattle.stair_invariant.proofs.LeftOutLemmas.{start_geometry}
use Rattle.stair_invariant.proofs.OpenWithLemmas.{open_beside}
use Rattle.stair_invariant.proofs.SeatLemmas.{IsListed}
use Rattle.stair_invariant.proofs.Serving.{StaysWithinToleranceTo, IsServing, LeadsReads, StandsAs, StandsIn, any_read, read_beside}
use Rattle.stair_invariant.proofs.StaysArrayLemmas.{fence_drops, left_stays}
use Rattle.stair_reinsert.specs.Beginning.{BeginsWherever, IsBesideMember, SaysContent}
use Rattle.stair_reinsert.proofs.EpochLaws.{established}
use Rattle.stair_reinsert.proofs.LeavingBegins.{leaves_begins, leaves_closed}
use Rattle.stair_reinsert.proofs.ServingEpochs.{doubtful, epoch_stands_as, epoch_stands_in, knows_led, serving_begins}
use Rattle.stair_reinsert.proofs.SessionLooks.{looked_knows}

-- READS

-- they write nothing, and attach no slot
pub read_looks : (m : Membership) (j : ℕ) (c : SlotCall) → any_read j c → IsBesideMember m j c
read_looks m j (Attach answer) may = absurd may
read_looks m j (Sectors size) may = absurd may
read_looks m j (Read k answer) may = record { writes = tt; attaches = λ here. tt }
read_looks m j (Write k bytes answer) may = absurd may
read_looks m j (Sync answer) may = absurd may

reads_serve : (before : List Happening) (a : ArrayState) (words : Codewords) (kept : Content) (old new : List Happening)
    → IsServing AnyReturns before a words kept old → Ran any_read old new → ToleratedSince a.member.array.geometry before new
    → IsServing AnyReturns before a words kept new
reads_serve before a words kept old new is ran calm = record {
  is_open =
      open_beside before a words old new is.is_open is.history
      (ran_weakened {allowed = any_read} {more = IsBesideArray a} (read_beside a) ran);
  history = history_on {allowed = any_read} is.history ran;
  of = is.of;
  knows =
      looked_knows (state_with a.member kept None a.member.array) a.member before old new is.history refl is.is_open.array.member
      (ran_weakened {allowed = any_read} {more = IsBesideMember a.member} (read_looks a.member) ran) is.knows
      (calm new (moment_last upto.more upto.is)) refl;
}
  where
    upto : Ran any_call before new
    upto = ran_join {allowed = any_call} is.is_open.ran (ran_any {allowed = any_read} ran)

-- A FENCE, by the member that some slots left, each of which takes part

module _ (before : List Happening) (a : ArrayState) (words : Codewords) (kept : Content) (leaving : Slots) (last : Membership)
    (answer : Result Slots FenceFault) (old new : RackState) (is : IsServing AnyReturns before a words kept old.history)
    (does : Fences leaving a.member last answer old new) (honest : IsTrue new.honest) (here : (j : ℕ) → HasSlot leaving j → IsHere a.member j) where
  abbrev g : Geometry
  g = a.member.array.geometry

  issued : Issued Fence does.establishes.gone does.start last old.history new.history
  issued = does.establishes.issued honest

  -- it says what the array did
  says : SaysContent (doubtful before a words kept None refl old.history is) Fence a.member
  says = record { frozen = inl is.of.frozen; label = inl is.of.label; frozen_new = inl is.of.frozen; label_new = inl is.of.label }

  begins : IsTolerated g before old.history
      → BeginsWherever (doubtful before a words kept None refl old.history is) (current_media_of a.member) a.member.array.epoch Fence does.start old.history
  begins tolerated =
      leaves_begins (doubtful before a words kept None refl old.history is) (current_media_of a.member) a.member.array.epoch leaving a.member does.start old.history
      (serving_begins before a words kept None refl old.history is Fence refl (λ j never. cc) says tolerated) does.leaves (λ j has. (here j has).below)

  drops : (named : Configuration) → IsListed named → IsAimed Fence (HasSlot does.establishes.gone) does.start named
      → EachMayDrop (seats_in a.member.array) (seats_in named)
  drops named listed aimed =
      fence_drops leaving (HasSlot does.establishes.gone) a.member does.start named does.leaves is.is_open.array.member listed aimed

  fence_stands_in : (c : List Happening) → IsMoment old.history c new.history → StaysWithinToleranceTo AnyReturns g before c → (image : Image)
      → CrashMayLeave c image → StandsIn AnyReturns a.member kept None image
  fence_stands_in c at calm image left =
      epoch_stands_in before a words kept None refl old.history is Fence does.establishes.gone does.start last new.history begins issued
      does.leaves.array drops c at calm image left

  fence_stands_as : StaysWithinToleranceTo AnyReturns g before new.history → StandsAs AnyReturns a.member kept None new.history
  fence_stands_as calm =
      epoch_stands_as before a words kept None refl old.history is Fence does.establishes.gone does.start last new.history begins issued
      does.leaves.array drops calm

  -- once it stands
  fence_knows : refusal_of answer ≡ None → StaysWithinToleranceTo AnyReturns g before new.history → IsOfContent last words kept
      → KnowsMedia (state_with last kept None last.array) last new.history
  fence_knows fine calm of =
      let e : Establishes Fence does.start last None old new = establishes leaving before a last answer old new does fine honest is.history in
      knows_led before a words kept None refl old.history is Fence e.gone does.start last new.history begins (e.issued honest) does.leaves.array
      (λ named listed aimed. fence_drops leaving (HasSlot e.gone) a.member does.start named does.leaves is.is_open.array.member listed aimed) calm
      (established Fence does.start last old new e honest (λ slot never. absurd (cc)))
      (λ closed. leaves_closed g (current_media_of a.member) leaving a.member does.start old.history closed does.leaves)
      (e.geometry ∙ start_geometry leaving a.member does.start does.leaves) of

-- SLOTS THAT ARE LEFT OUT

left_serves : (before : List Happening) (a : ArrayState) (words : Codewords) (kept : Content) (gone : Slots) (old : RackState) (y : Snapshot)
    → IsServing AnyReturns before a words kept old.history → FencesGone gone None (snapshot a.member old) y → IsTrue y.told.honest
    → ((j : ℕ) → HasSlot gone j → IsHere a.member j) → StaysWithinToleranceTo AnyReturns a.member.array.geometry before y.told.history
    → IsServing AnyReturns before (led_to a y.member) words kept y.told.history
left_serves before a words kept gone old y is leaves honest here calm = by leaves
  where
    -- the new epoch says what the array did
    of : IsOfContent y.member words kept
    of =
        let stays = left_stays gone None (snapshot a.member old) y leaves is.is_open.array.member in
        record {
          encodings = subst (λ (x : Geometry). AreEncodingsOf x kept.blocks words) (sym stays.geometry) is.of.encodings;
          frozen = stays.frozen ∙ is.of.frozen;
          label = stays.label ∙ is.of.label;
        }

    by : FencesGone gone None (snapshot a.member old) y → IsServing AnyReturns before (led_to a y.member) words kept y.told.history
    by (NoneWas out same fine) = record {
      is_open = open_left gone before a old y leaves honest is.history words is.is_open;
      history = subst (λ (p : Snapshot). IsHistory p.told.history) (sym same) is.history;
      of = of;
      knows =
          subst (λ (p : Snapshot). KnowsMedia (state_with p.member kept None p.member.array) p.member p.told.history) (sym same) is.knows;
    }
    by (Fenced j has answer fine does) =
        let issued = does.establishes.issued honest in
        record {
          is_open = open_left gone before a old y leaves honest is.history words is.is_open;
          history = history_on {allowed = IsIssuing issued.slots issued.editions} is.history issued.ran;
          of = of;
          knows = fence_knows before a words kept gone y.member answer old y.told is does honest here (sym fine) calm of;
        }

-- THE LAWS

pub reads_lead : LeadsReads AnyReturns
reads_lead = record {
  stands = λ before a words kept h is calm. record { current_media = current_media_of a.member; since = a.member.array.epoch; is = is.knows.is };
  alone = λ s h image history stands left. left_consistent s h image history stands left;
  reads = λ before a words kept old new is ran calm. reads_serve before a words kept old new is ran calm;
  left = λ before a words kept gone old y is leaves honest here calm. left_serves before a words kept gone old y is leaves honest here calm;
  fencing = λ before a words kept gone last answer old new is does honest here off c at calm image left.
      fence_stands_in before a words kept gone last answer old new is does honest here c at calm image left;
  fenced = λ before a words kept gone last answer old new is does honest here off calm.
      fence_stands_as before a words kept gone last answer old new is does honest here calm;
}
