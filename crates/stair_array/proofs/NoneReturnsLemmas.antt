-- The laws by which an open array is led on, where no medium comes back.
use Rattle.std.specs.Prelude.{IsTrue, Result}
use Rattle.std.proofs.Common.{◌≡◌, ℕ, List, inl, inr, refl, sym, ◌∙◌, subst, None, Some, Option, false, true≢false}
use Rattle.stair_model.specs.Geometry.{IsWithinLimits, Geometry}
use Rattle.stair_model.specs.Slots.{HasSlot, Slots}
use Rattle.stair_model.specs.Stripe.{Stripe}
use Rattle.stair_rack.specs.Answers.{IsHistory, Ran, any_call}
use Rattle.stair_rack.specs.Crash.{CrashMayLeave, image_now}
use Rattle.stair_rack.specs.History.{Happening, slot_state, stopped}
use Rattle.stair_rack.specs.Media.{Image}
use Rattle.stair_rack.specs.Moments.{IsMoment}
use Rattle.stair_rack.specs.Offline.{IsAttached, IsOfflineUntilAttached}
use Rattle.stair_rack.specs.Sector.{damaged}
use Rattle.stair_rack.specs.RackState.{RackState}
use Rattle.stair_rack.specs.declared.watcher.Event.{Event}
use Rattle.stair_rack.proofs.CrashLemmas.{CrashMayLeave-now}
use Rattle.stair_rack.proofs.MomentLemmas.{moment_between, moment_last, ran_any, ran_before, ran_join, ran_weakened}
use Rattle.stair_rack.proofs.OfflineLemmas.{stopped_on}
use Rattle.stair_rack.proofs.StretchLemmas.{each_after}
use Rattle.stair_rack.proofs.TidyLemmas.{history_on}
use Rattle.stair_super.specs.declared.configuration.Configuration.{Configuration}
use Rattle.stair_journal.specs.declared.redo.Redo.{Redo}
use Rattle.stair_member.specs.Epochs.{IsIssuing}
use Rattle.stair_member.specs.Establishing.{Fences}
use Rattle.stair_member.specs.Membership.{IsHere, Membership, why_of, IsMembership}
use Rattle.stair_member.specs.declared.fault.FenceFault.{FenceFault}
use Rattle.stair_member.specs.declared.fault.FenceFault.TheVariants as fence
use Rattle.stair_member.specs.declared.why.Why.{Why}
use Rattle.stair_member.specs.declared.why.Why.TheVariants as why
use Rattle.stair_member.proofs.SuperLemmas.{super_formed}
use Rattle.stair_state.specs.Blocks.{Codewords, AreEncodingsOf}
use Rattle.stair_state.specs.Redoing.{AtRest, Redoing}
use Rattle.stair_state.specs.Represents.{AreSteady, Encodings, RepresentsAlone}
use Rattle.stair_state.specs.State.{Content, State, Change, changed_if}
use Rattle.stair_state.specs.Tolerance.{IsTolerated, IsToleratedAlone}
use Rattle.stair_state.proofs.AloneLemmas.{left_stands}
use Rattle.stair_state.proofs.OutsideLemmas.{tolerated_alone}
use Rattle.stair_invariant.specs.Effects.{Snapshot, snapshot, Redoes}
use Rattle.stair_invariant.specs.InSession.{IsInSession, state_with}
use Rattle.stair_invariant.specs.Leading.{led_to, IsBesideArray}
use Rattle.stair_invariant.specs.Opening.{Across, StaysArray}
use Rattle.stair_invariant.specs.Returning.{NoneReturns}
use Rattle.stair_invariant.specs.SeatSteps.{EachMayDrop}
use Rattle.stair_invariant.specs.Session.{ArrayState, IsLiveIn, seats_in}
use Rattle.stair_invariant.specs.UnderWay.{IsOfRedo}
use Rattle.stair_invariant.proofs.AmidRedoLemmas.{redo_begins}
use Rattle.stair_invariant.proofs.DoubtLemmas.{IsOfDoubt, doubt_stands}
use Rattle.stair_invariant.proofs.FencesLemmas.{leaves_open}
use Rattle.stair_invariant.proofs.LeavingOutImages as images
use Rattle.stair_invariant.proofs.OpenLaws.{in_session}
use Rattle.stair_invariant.proofs.OpenWithLemmas.{represents_open, beside_open}
use Rattle.stair_invariant.proofs.RedoMoments as redo_moments
use Rattle.stair_invariant.proofs.RedoingLemmas.{no_redo, resting, way_begins, redo_ran}
use Rattle.stair_invariant.proofs.SeatLemmas.{listed_member, listed_super}
use Rattle.stair_invariant.proofs.Serving.{StaysWithinToleranceTo, IsGoing, IsServing, LeadsReads, LeadsRedos, LeadsTo, StandsAs, StandsIn, any_read, calm_sooner, read_beside, redoing_of, tolerated_now}
use Rattle.stair_invariant.proofs.StaysArrayLemmas.{redo_stays, left_stays}
use Rattle.stair_invariant.proofs.SteadyEndLemmas.{fence_steady}
use Rattle.stair_array.specs.Machine.{Step, Recover, Answer}
use Rattle.stair_array.specs.Promise.{Seen, Performs, IsInState}
use Rattle.stair_array.proofs.CompleteLemmas.{redo_never}
use Rattle.stair_array.proofs.LedOnLemmas.{kept_drops, amid_opening, still_of}
use Rattle.stair_array.proofs.OpenStepLemmas.{forgets_open, forgetting, open_first}
use Rattle.stair_array.proofs.SeatedLemmas.{seated, now_alone}
use Rattle.stair_array.proofs.ServingLemmas.{goes_on}
use Rattle.stair_array.proofs.WriteRedoLemmas.{IsAmid, redo_serves, refused_after, refused_steady, way}

-- A FENCE, by the member that some slots left, each of which takes part; a live one is offline

module _ (before : List Happening) (a : ArrayState) (words : Codewords) (kept : Content) (leaving : Slots) (last : Membership)
    (answer : Result Slots FenceFault) (old new : RackState) (does : Fences leaving a.member last answer old new)
    (honest : IsTrue new.honest) (is : IsServing NoneReturns before a words kept old.history) (here : (j : ℕ) → HasSlot leaving j → IsHere a.member j)
    (off : (j : ℕ) → HasSlot leaving j → IsLiveIn a.member j → IsOfflineUntilAttached before old.history j) where
  abbrev m : Membership
  m = a.member

  abbrev CalmTo : List Happening → Type 0
  CalmTo = StaysWithinToleranceTo NoneReturns a.member.array.geometry before

  -- the state of the array with these seats in the place of its own
  abbrev pub with_seats : Configuration → State
  with_seats array = state_with a.member kept None array

  issuing : Ran (IsIssuing (does.establishes.issued honest).slots (does.establishes.issued honest).editions) old.history new.history
  issuing = (does.establishes.issued honest).ran

  ran : Ran any_call old.history new.history
  ran = ran_any {allowed = IsIssuing (does.establishes.issued honest).slots (does.establishes.issued honest).editions} issuing

  -- a redo of no cells, at rest
  abbrev rest : Redoing
  rest = resting a.member.array.geometry words no_redo words

  abbrev settled : State
  settled = record { geometry = a.member.array.geometry; content = kept; in_doubt = None; seats = None }

  abbrev both : Encodings settled
  both = record { old = words; new = words; old_are = is.of.encodings; new_are = is.of.encodings }

  of_rest : IsOfRedo rest a.member kept None
  of_rest = record {
    old_are = is.of.encodings;
    new_are = is.of.encodings;
    frozen = is.of.frozen;
    label = is.of.label;
    frozen_new = refl;
    label_new = refl;
  }

  of_doubt : IsOfDoubt settled both rest a.member kept None
  of_doubt = record { geometry = refl; of = of_rest; between = Across refl refl; frozen = inl refl; label = inl refl }

  limits : IsWithinLimits a.member.array.geometry
  limits = is.knows.member.array.limits

  module _ (c : List Happening) (at : IsMoment old.history c new.history) (calm : CalmTo c) where
    upto : Ran any_call before c
    upto = ran_join {allowed = any_call} is.is_open.ran (ran_before {allowed = any_call} ran at)

    to_old : IsMoment before old.history c
    to_old = moment_between {a = any_call} {b = any_call} is.is_open.ran (ran_before {allowed = any_call} ran at)

    calm_old : CalmTo old.history
    calm_old = calm_sooner NoneReturns a.member.array.geometry before old.history c to_old calm

    going_old : ¬ IsTrue (stopped old.history)
    going_old = goes_on NoneReturns a.member.array.geometry before old.history is.is_open.ran calm_old

    session : IsInSession a.member words old.history
    session = in_session before a words old.history is.is_open calm_old.1 going_old is.knows

    off_or_on : (j : ℕ) → IsOfflineUntilAttached before old.history j → ¬ IsAttached old.history j
    off_or_on j (IsOfflineUntilAttached.RackStopped stops) on = going_old stops
    off_or_on j (IsOfflineUntilAttached.Unattached apart pulled) on = absurd (true≢false (sym on ∙ apart))

    bare : (j : ℕ) → HasSlot leaving j → why_of a.member j ≡ why.Here
        → ((slot_state old.history j).attached ≡ false) × ((k : ℕ) → (slot_state old.history j).sector k ≡ damaged)
    bare j has up =
        elim (session.own j (here j has)) [
          | inl on ↦ absurd (off_or_on j (off j has (record { below = (here j has).below; why = up })) on.0)
          | inr nothing ↦ nothing
        ]

    -- At each moment of it an image is as it was, with the seats that its own current superblock has.
    fencing_stands : (image : Image) → CrashMayLeave c image → (alone : IsToleratedAlone a.member.array.geometry image)
        → RepresentsAlone (with_seats alone.current.array) image × EachMayDrop (seats_in a.member.array) (seats_in alone.current.array)
    fencing_stands image left alone =
        let way = way_begins rest a.member old.history session refl in
        let none = each_after calm.1 to_old in
        let going = goes_on NoneReturns a.member.array.geometry before c upto calm in
        let stands =
        images.leaving_stands rest AtRest (inl refl) limits old.history leaving a.member last answer old new way here bare does honest c at none going
        image
        left kept None of_rest alone in (
          doubt_stands settled both rest a.member kept None of_doubt (Some (seats_in alone.current.array)) limits stands.0 image stands.1,
          kept_drops a.member.array alone.current.array (listed_member a.member is.knows.member)
              (listed_super alone.current (super_formed _ alone.current alone.is_current.counts.super)) alone.is_current.counts.identity
              (images.leaving_keeps rest AtRest (inl refl) limits old.history leaving a.member last answer old new way here bare does honest c at none
              going
              image left alone),
        )

    fence_stands : (image : Image) → CrashMayLeave c image → StandsIn NoneReturns a.member kept None image
    fence_stands image left =
        let alone =
        tolerated_alone a.member.array.geometry before c image (tolerated_now NoneReturns a.member.array.geometry before c upto calm) left in
        let stands = fencing_stands image left alone in
        record { array = alone.current.array; stands = stands.0; dropped = stands.1 }

  -- Nothing is unsynced at its end, so that the rack represents the array with these seats, refused or not.
  fence_represents : CalmTo new.history → StandsAs NoneReturns a.member kept None new.history
  fence_represents calm = record {
    array = now.current.array;
    stands = seated a.member kept None before new.history limits history tolerated steady each;
    dropped = (fencing_stands new.history end calm (image_now new.history) (CrashMayLeave-now new.history) now).1;
  }
    where
      end : IsMoment old.history new.history new.history
      end = moment_last ran.more ran.is

      all : Ran any_call before new.history
      all = ran_join {allowed = any_call} is.is_open.ran ran

      history : IsHistory new.history
      history = history_on {allowed = any_call} is.knows.history ran

      tolerated : IsTolerated a.member.array.geometry before new.history
      tolerated = tolerated_now NoneReturns a.member.array.geometry before new.history all calm

      now : IsToleratedAlone a.member.array.geometry (image_now new.history)
      now = tolerated_alone a.member.array.geometry before new.history (image_now new.history) tolerated (CrashMayLeave-now new.history)

      steady : AreSteady a.member.array.geometry new.history
      steady =
          fence_steady leaving a.member last answer old new does is.knows (λ j has. (here j has).below) honest
          (each_after calm.1 (moment_between {a = any_call} {b = any_call} is.is_open.ran ran))
          (goes_on NoneReturns a.member.array.geometry before new.history all calm)

      each : (image : Image) → CrashMayLeave new.history image → (alone : IsToleratedAlone a.member.array.geometry image)
          → RepresentsAlone (with_seats alone.current.array) image
      each image left alone = (fencing_stands new.history end calm image left alone).0

-- THE LAWS, of reads and of slots that are left out

pub reads_lead : LeadsReads NoneReturns
reads_lead = record {
  stands = λ before a words kept h is calm.
      represents_open before a words h is.is_open calm.1 is.knows kept is.of
      (tolerated_now NoneReturns a.member.array.geometry before h is.is_open.ran calm);
  alone = λ s h image history stands left. left_stands s h image history stands left;
  reads = λ before a words kept old new is ran on.
      let then =
      beside_open before a words old new is.is_open is.knows (ran_weakened {allowed = any_read} {more = IsBesideArray a} (read_beside a) ran) on.0
      on.1 in
      record { is_open = then.0; history = then.1.history; of = is.of; knows = then.1 };
  left = λ before a words kept gone old y is leaves honest here on.
      let then = leaves_open gone before a old y leaves honest (λ j has. (here j has).below) is.knows on.0 on.1 words is.is_open in
      record {
        is_open = then.0;
        history = then.1.history;
        of = still_of a.member y.member words kept (left_stays gone None (snapshot a.member old) y leaves is.is_open.array.member) is.of;
        knows = then.1;
      };
  fencing = λ before a words kept gone last answer old new is does honest here off c at calm image left.
      fence_stands before a words kept gone last answer old new does honest is here off c at calm image left;
  fenced = λ before a words kept gone last answer old new is does honest here off calm.
      fence_represents before a words kept gone last answer old new does honest is here off calm;
}

same_stays : (m : Membership) → IsMembership m → StaysArray m m
same_stays m rules = record { rules = rules; geometry = refl; frozen = refl; label = refl; seats = λ j. inl refl }

-- A REDO

module _ (before : List Happening) (a : ArrayState) (words new : Codewords) (kept : Content) (change : Option Change) (redo : Redo) (stripe : Stripe)
    (leads : LeadsTo a words new kept change redo stripe) (old : RackState) (is : IsServing NoneReturns before a words kept old.history) where
  abbrev r : Redoing
  r = redoing_of a words new redo

  abbrev here : Snapshot
  here = snapshot a.member old

  limits_of : IsWithinLimits a.member.array.geometry
  limits_of = leads.redoing.limits

  rest_amid : IsAmid before r leads.redoing stripe leads.cells old.history AtRest a.rebuild a.stopped here
  rest_amid = record { amid = redo_begins r before (forgetting a) old.history (forgets_open before a words old.history is.is_open) refl; begun = is.knows }

  redo_done : (z : Snapshot) → Redoes a.member.array.geometry redo stripe AtRest None here z → IsTrue z.told.honest
      → IsGoing NoneReturns a.member.array.geometry before z.told.history
      → IsServing NoneReturns before (led_to a z.member) new (changed_if change kept) z.told.history
  redo_done z run honest on =
      let serves = redo_serves before r leads.redoing stripe leads.cells old.history AtRest None here z run refl honest on.0 on.1 a.rebuild a.stopped
      rest_amid in
      let stays = redo_stays a.member.array.geometry redo stripe AtRest None here z run is.is_open.array.member in
      record {
        is_open = serves.0;
        history = serves.1.history;
        of = record {
          encodings = subst (λ (g : Geometry). AreEncodingsOf g (changed_if change kept).blocks new) (sym stays.geometry) leads.becomes.new_are;
          frozen = stays.frozen ∙ leads.becomes.frozen ∙ sym leads.becomes.frozen_new;
          label = stays.label ∙ leads.becomes.label ∙ sym leads.becomes.label_new;
        };
        knows = serves.1;
      }

  -- THE DOUBT

  abbrev doubted : State
  doubted = record {
    geometry = a.member.array.geometry;
    content = kept;
    in_doubt = change;
    seats = None;
  }

  abbrev redo_words : Encodings doubted
  redo_words = record { old = words; new = new; old_are = leads.becomes.old_are; new_are = leads.becomes.new_are }

  of_change : IsOfDoubt doubted redo_words r a.member kept change
  of_change = record { geometry = refl; of = leads.becomes; between = Across refl refl; frozen = inl refl; label = inl refl }

  -- what a crash leaves at a moment of it
  module _ (refusal : Option FenceFault) (z : Snapshot) (run : Redoes a.member.array.geometry redo stripe AtRest refusal here z)
      (honest : IsTrue z.told.honest) (c : List Happening) (at : IsMoment old.history c z.told.history)
      (calm : StaysWithinToleranceTo NoneReturns a.member.array.geometry before c) where
    so_far : Ran any_call old.history c
    so_far =
        ran_before {allowed = any_call} (redo_ran r leads.redoing stripe leads.cells old.history AtRest refusal here z run honest) at

    redo_upto : Ran any_call before c
    redo_upto = ran_join {allowed = any_call} is.is_open.ran so_far

    to_y : IsMoment before old.history c
    to_y = moment_between {a = any_call} {b = any_call} is.is_open.ran so_far

    going_so : ¬ IsTrue (stopped c)
    going_so = goes_on NoneReturns a.member.array.geometry before c redo_upto calm

    image_stands : (image : Image) → CrashMayLeave c image → (alone : IsToleratedAlone a.member.array.geometry image)
        → RepresentsAlone (state_with a.member kept change alone.current.array) image
        × EachMayDrop (seats_in a.member.array) (seats_in alone.current.array)
    image_stands image left alone =
        let good =
        redo_moments.moments r stripe AtRest refusal old.history here z kept change c image leads.redoing leads.cells
        (way before r leads.redoing stripe leads.cells old.history AtRest a.rebuild a.stopped here
        (calm_sooner NoneReturns a.member.array.geometry before old.history c to_y calm).1
        (λ stops. going_so (stopped_on {allowed = any_call} so_far stops)) rest_amid)
        run honest leads.becomes at (each_after calm.1 to_y) going_so left alone in (
          doubt_stands doubted redo_words r a.member kept change of_change (Some (seats_in alone.current.array)) limits_of good.0.0 image good.0.1,
          kept_drops a.member.array alone.current.array (listed_member a.member is.is_open.array.member)
              (listed_super alone.current (super_formed _ alone.current alone.is_current.counts.super)) alone.is_current.counts.identity good.1,
        )

    redo_stands : (image : Image) → CrashMayLeave c image → StandsIn NoneReturns a.member kept change image
    redo_stands image left =
        let alone =
        tolerated_alone a.member.array.geometry before c image (tolerated_now NoneReturns a.member.array.geometry before c redo_upto calm) left in
        let stands = image_stands image left alone in
        record { array = alone.current.array; stands = stands.0; dropped = stands.1 }

  -- refused
  redo_refused : (fault : FenceFault) (z : Snapshot) → Redoes a.member.array.geometry redo stripe AtRest (Some fault) here z → IsTrue z.told.honest
      → StaysWithinToleranceTo NoneReturns a.member.array.geometry before z.told.history → StandsAs NoneReturns a.member kept change z.told.history
  redo_refused fault z run honest calm = record {
    array = now.current.array;
    stands = seated a.member kept change before z.told.history limits_of history tolerated steady each;
    dropped = (image_stands (Some fault) z run honest z.told.history end calm (image_now z.told.history) (CrashMayLeave-now z.told.history) now).1;
  }
    where
      ran : Ran any_call old.history z.told.history
      ran = redo_ran r leads.redoing stripe leads.cells old.history AtRest (Some fault) here z run honest

      end : IsMoment old.history z.told.history z.told.history
      end = moment_last ran.more ran.is

      all : Ran any_call before z.told.history
      all = ran_join {allowed = any_call} is.is_open.ran ran

      history : IsHistory z.told.history
      history = history_on {allowed = any_call} is.knows.history ran

      tolerated : IsTolerated a.member.array.geometry before z.told.history
      tolerated = tolerated_now NoneReturns a.member.array.geometry before z.told.history all calm

      going : ¬ IsTrue (stopped z.told.history)
      going = going_so (Some fault) z run honest z.told.history end calm

      steady : AreSteady a.member.array.geometry z.told.history
      steady =
          refused_steady before r leads.redoing stripe leads.cells old.history here fault z
          (refused_after before r leads.redoing stripe leads.cells old.history AtRest (Some fault) here z run fault refl honest calm.1 going
          a.rebuild a.stopped rest_amid) honest calm.1 going

      each : (image : Image) → CrashMayLeave z.told.history image → (alone : IsToleratedAlone a.member.array.geometry image)
          → RepresentsAlone (state_with a.member kept change alone.current.array) image
      each image left alone = (image_stands (Some fault) z run honest z.told.history end calm image left alone).0

      now : IsToleratedAlone a.member.array.geometry (image_now z.told.history)
      now = now_alone a.member kept change before z.told.history limits_of history tolerated steady each

  -- not for want of slots
  redo_enough : (whys : List Why) (z : Snapshot) → Redoes a.member.array.geometry redo stripe AtRest (Some (fence.TooFew whys)) here z
      → IsTrue z.told.honest → StaysWithinToleranceTo NoneReturns a.member.array.geometry before z.told.history → ⊥
  redo_enough whys z run honest calm =
      redo_never doubted before a.member redo_words refl (record { frozen = inl leads.becomes.frozen; label = inl leads.becomes.label }) r
      old.history leads.redoing stripe leads.cells (Across refl refl) AtRest (Some (fence.TooFew whys)) here z run whys refl
      (way before r leads.redoing stripe leads.cells old.history AtRest a.rebuild a.stopped here
      (calm_sooner NoneReturns a.member.array.geometry before old.history z.told.history to_y calm).1
      (λ stops. going (stopped_on {allowed = any_call} ran stops))
      rest_amid) (amid_opening before a.rebuild a.stopped here rest_amid.amid.amid is.knows) (same_stays a.member is.is_open.array.member) honest
      (record { none = calm.1; tolerated = tolerated_now NoneReturns a.member.array.geometry before z.told.history all calm })
    where
      ran : Ran any_call old.history z.told.history
      ran = redo_ran r leads.redoing stripe leads.cells old.history AtRest (Some (fence.TooFew whys)) here z run honest

      all : Ran any_call before z.told.history
      all = ran_join {allowed = any_call} is.is_open.ran ran

      to_y : IsMoment before old.history z.told.history
      to_y = moment_between {a = any_call} {b = any_call} is.is_open.ran ran

      going : ¬ IsTrue (stopped z.told.history)
      going = goes_on NoneReturns a.member.array.geometry before z.told.history all calm

pub redos_lead : LeadsRedos NoneReturns
redos_lead = record {
  done = λ before a words new kept change redo stripe old z is leads run honest on.
      redo_done before a words new kept change redo stripe leads old is z run honest on;
  moments = λ before a words new kept change redo stripe refusal old z is leads run honest c at calm image left.
      redo_stands before a words new kept change redo stripe leads old is refusal z run honest c at calm image left;
  refused = λ before a words new kept change redo stripe fault old z is leads run honest calm.
      redo_refused before a words new kept change redo stripe leads old is fault z run honest calm;
  enough = λ before a words new kept change redo stripe whys old z is leads run honest calm.
      redo_enough before a words new kept change redo stripe leads old is whys z run honest calm;
}

-- BEFORE A STEP

-- what is known of the media says what kind of history it is
pub begun_history : (step : Step) → ¬ (step ≡ Recover) → (answer : Answer step) (events : List Event) (x y : Seen)
    (p : Performs step answer events x y) (before : List Happening) (s : State) → IsInState NoneReturns before s x → IsHistory x.told.history
begun_history step other answer events x y p before s state =
    (open_first NoneReturns reads_lead step other answer events x y p before s state).knows.history
