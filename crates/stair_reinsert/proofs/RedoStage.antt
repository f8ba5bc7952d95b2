-- A stage's phase of a redo of an array whose media come back, and the fence after it: at each moment of both an image represents the state
-- with the redo's change in doubt.
use Rattle.std.proofs.Common.{IsTrue, List, Option, Result, Some, inl, ◌<◌, ◌≡◌, ℕ}
use Rattle.stair_model.specs.CellSet.{HasCell}
use Rattle.stair_model.specs.Geometry.{Geometry}
use Rattle.stair_model.specs.Slots.{HasSlot, Slots}
use Rattle.stair_model.specs.Stripe.{Stripe, cell}
use Rattle.stair_rack.specs.Answers.{Ran, any_call}
use Rattle.stair_rack.specs.Crash.{CrashMayLeave, image_now}
use Rattle.stair_rack.specs.History.{Happening}
use Rattle.stair_rack.specs.Media.{Image}
use Rattle.stair_rack.specs.Moments.{IsMoment}
use Rattle.stair_rack.specs.Offline.{IsAttached, IsOfflineUntilAttached}
use Rattle.stair_rack.specs.Placed.{Placed}
use Rattle.stair_rack.specs.Stretch.{every_slot}
use Rattle.stair_rack.proofs.CrashLemmas.{CrashMayLeave-now}
use Rattle.stair_rack.proofs.MomentLemmas.{moment_between, moment_last, ran_any, ran_before, ran_join}
use Rattle.stair_member.specs.declared.fault.FenceFault.TheVariants as fence
use Rattle.stair_member.specs.Epochs.{IsIssuing, Issued}
use Rattle.stair_member.specs.Establishing.{Fences, refusal_of}
use Rattle.stair_member.specs.Membership.{Membership}
use Rattle.stair_member.specs.declared.aim.EpochChange.TheVariants.{Fence}
use Rattle.stair_member.specs.declared.fault.FenceFault.{FenceFault}
use Rattle.stair_member.specs.declared.why.Why.{Why}
use Rattle.stair_state.specs.Redoing.{AttachesNone, Redoing, Stage, writes_in}
use Rattle.stair_state.specs.State.{Change, Content}
use Rattle.stair_state.specs.Tolerance.{IsTolerated, IsToleratedAlone}
use Rattle.stair_state.proofs.OutsideLemmas.{tolerated_alone}
use Rattle.stair_state.proofs.RedoRunLemmas.{phase_attaches}
use Rattle.stair_state.proofs.StageLemmas.{written_in_range}
use Rattle.stair_invariant.specs.Effects.{DoesStage, IsOver, Snapshot, stage_writes}
use Rattle.stair_invariant.specs.InSession.{IsBesideEpochs}
use Rattle.stair_invariant.specs.Rebuilding.{Rebuild}
use Rattle.stair_invariant.specs.Returning.{AnyReturns, current_media_of}
use Rattle.stair_invariant.specs.SeatSteps.{EachMayDrop}
use Rattle.stair_invariant.specs.Session.{IsLiveIn, seats_in}
use Rattle.stair_invariant.proofs.OpenLaws.{goes_on_within}
use Rattle.stair_invariant.proofs.RedoingLemmas.{placed}
use Rattle.stair_invariant.proofs.Serving.{StaysWithinToleranceTo, StandsAs, StandsIn, tolerated_now}
use Rattle.stair_invariant.proofs.StageBesideLemmas.{over_alone, phase_beside}
use Rattle.stair_invariant.proofs.StaysArrayLemmas.{drops_twice}
use Rattle.stair_reinsert.specs.Beginning.{BeginsWherever}
use Rattle.stair_reinsert.proofs.AmidFence.{leaving_begins, leaving_drops, leaving_enough}
use Rattle.stair_reinsert.proofs.EpochStands.{stands_alone, stands_ended}
use Rattle.stair_reinsert.proofs.RedoFence.{amid_stands}
use Rattle.stair_reinsert.proofs.RedoPhase.{IsAmidAny, amid_large}
use Rattle.stair_reinsert.proofs.RedoStart.{in_redo, RedoAny, redo_of}
use Rattle.stair_reinsert.proofs.StageSince.{SinceIn, since_phase}

module _ (before : List Happening) {kept : Content} {change : Option Change} (doing : RedoAny kept change) (stripe : Stripe)
    (cells : (i c : ℕ) → HasCell doing.redo.cells i c → cell stripe i c ≡ cell (doing.new doing.redo.stripe) i c) (stage : Stage) (to : Slots)
    (refusal : Option FenceFault) (rebuild : Option Rebuild) (stopped : Option FenceFault) (p y : Snapshot)
    (is : IsAmidAny before doing stage rebuild stopped p) (over : IsOver stage p.member to)
    (does : DoesStage (stage_writes doing.m.array.geometry doing.redo stripe stage) to refusal p y) (honest : IsTrue y.told.honest) where
  open doing use {m, redoing, start}

  abbrev pub r : Redoing
  r = redo_of doing

  abbrev g : Geometry
  g = m.array.geometry

  abbrev pub mid : List Happening
  mid = does.mid.history

  -- THE PHASE

  abbrev pub phase : Placed (writes_in (redo_of doing) stage) (HasSlot to) (HasSlot does.gone) p.told.history does.mid.history
  phase = placed (redo_of doing) redoing stripe cells start stage to refusal p y over does honest

  pub besides : Ran (IsBesideEpochs p.member) p.told.history does.mid.history
  besides =
      phase_beside (redo_of doing) redoing p.member stage (HasSlot to) (over_alone p.member to stage over) {gone = HasSlot does.gone} phase

  pub free : Ran (AttachesNone every_slot) p.told.history does.mid.history
  free = phase_attaches {live = every_slot} phase

  pub first : IsMoment start p.told.history does.mid.history
  first = moment_between {a = AttachesNone every_slot} {b = AttachesNone every_slot} is.amid.ran free

  module _ (c : List Happening) (at : IsMoment p.told.history c does.mid.history) where
    beside_to : Ran (IsBesideEpochs p.member) p.told.history c
    beside_to = ran_before {allowed = IsBesideEpochs p.member} besides at

    free_to : Ran (AttachesNone every_slot) p.told.history c
    free_to = ran_before {allowed = AttachesNone every_slot} free at

    pub since_to : (j : ℕ) → IsLiveIn p.member j → IsAttached start j → SinceIn (redo_of doing) stage start c j
    since_to j live on =
        since_phase (redo_of doing) redoing stage start p.told.history does.mid.history (HasSlot to) (HasSlot does.gone) phase first j
        (is.since j live on) c at

    -- at each moment of it
    pub phase_stands : StaysWithinToleranceTo AnyReturns m.array.geometry before c → (image : Image) → CrashMayLeave c image
        → StandsIn AnyReturns m kept change image
    phase_stands =
        amid_stands before doing stage rebuild stopped p is c beside_to free_to since_to

  -- ITS END

  pub end : IsMoment p.told.history does.mid.history does.mid.history
  end = moment_last free.more free.is

  abbrev pub since_mid : (j : ℕ) → IsLiveIn p.member j → IsAttached start j → SinceIn (redo_of doing) stage start does.mid.history j
  since_mid = since_to does.mid.history end

  pub mid_ran : Ran any_call before does.mid.history
  mid_ran = ran_join {allowed = any_call} is.amid.amid.ran (ran_any {allowed = IsBesideEpochs p.member} besides)

  -- a live slot that was gone to it is offline
  pub mid_off : (j : ℕ) → IsLiveIn p.member j → HasSlot does.gone j → IsOfflineUntilAttached before does.mid.history j
  mid_off j live has =
      phase.shut before j has (is.amid.amid.held j (record { below = live.below; why = inl live.why }))
      (λ on k bytes written.
      amid_large before doing stage rebuild stopped p is p.told.history is.amid.ran j live on k
      (written_in_range (redo_of doing) redoing stage j k bytes written))

  -- A FENCE, refused or not

  module _ (leaving : Slots) (last : Membership) (answer : Result Slots FenceFault) (fences : Fences leaving p.member last answer does.mid y.told)
      (below : (j : ℕ) → HasSlot leaving j → j < p.member.array.geometry.n) where
    abbrev issued : Issued Fence fences.establishes.gone fences.start last does.mid.history y.told.history
    issued = fences.establishes.issued honest

    fence_ran : Ran any_call does.mid.history y.told.history
    fence_ran = ran_any {allowed = IsIssuing issued.slots issued.editions} issued.ran

    module _ (c : List Happening) (at : IsMoment does.mid.history c y.told.history) (calm : StaysWithinToleranceTo AnyReturns m.array.geometry before c) where
      upto : Ran any_call does.mid.history c
      upto = ran_before {allowed = any_call} fence_ran at

      within : IsTolerated m.array.geometry before c
      within = tolerated_now AnyReturns m.array.geometry before c (ran_join {allowed = any_call} mid_ran upto) calm

      tolerated : IsTolerated m.array.geometry before does.mid.history
      tolerated = calm does.mid.history (moment_between {a = any_call} {b = any_call} mid_ran upto)

      began : BeginsWherever (in_redo m kept change) (current_media_of p.member) p.member.array.epoch Fence fences.start does.mid.history
      began =
          leaving_begins before doing stage rebuild stopped p is does.mid
          besides free since_mid leaving last answer y.told fences honest below tolerated

      both_drop : (image : Image) → CrashMayLeave c image → (alone : IsToleratedAlone m.array.geometry image)
          → EachMayDrop (seats_in m.array) (seats_in alone.current.array)
      both_drop image left alone =
          drops_twice (seats_in m.array) (seats_in p.member.array) (seats_in alone.current.array) is.stays.seats
          (leaving_drops before doing stage rebuild stopped p is does.mid
          besides free since_mid leaving last answer y.told fences honest below tolerated c at image left alone)

      pub fence_stands : (image : Image) → CrashMayLeave c image → StandsIn AnyReturns m kept change image
      fence_stands image left =
          let alone = tolerated_alone m.array.geometry before c image within left in
          record {
            array = alone.current.array;
            stands =
                stands_alone (in_redo m kept change) (current_media_of p.member) p.member.array.epoch Fence fences.establishes.gone fences.start last
                does.mid.history y.told.history began issued c at image left alone;
            dropped = both_drop image left alone;
          }

    module _ (calm : StaysWithinToleranceTo AnyReturns m.array.geometry before y.told.history) where
      last_moment : IsMoment does.mid.history y.told.history y.told.history
      last_moment = moment_last issued.ran.more issued.ran.is

      now : IsToleratedAlone m.array.geometry (image_now y.told.history)
      now =
          tolerated_alone m.array.geometry before y.told.history (image_now y.told.history) (within y.told.history last_moment calm)
          (CrashMayLeave-now y.told.history)

      -- in the end the rack does
      pub fence_ended : StandsAs AnyReturns m kept change y.told.history
      fence_ended = record {
        array = now.current.array;
        stands =
            stands_ended (in_redo m kept change) (current_media_of p.member) p.member.array.epoch Fence fences.establishes.gone fences.start last
            does.mid.history y.told.history (began y.told.history last_moment calm) issued
            (goes_on_within m.array.geometry before y.told.history (within y.told.history last_moment calm)) now;
        dropped = both_drop y.told.history last_moment calm (image_now y.told.history) (CrashMayLeave-now y.told.history) now;
      }

      -- and it isn't refused for want of slots
      pub fence_enough : ((j : ℕ) → HasSlot leaving j → HasSlot does.gone j) → (whys : List Why) → ¬ (refusal_of answer ≡ Some (fence.TooFew whys))
      fence_enough among =
          leaving_enough before doing stage rebuild stopped p is does.mid
          besides free since_mid leaving last answer y.told fences honest below (tolerated y.told.history last_moment calm)
          (within y.told.history last_moment calm) (λ j live has. mid_off j live (among j has))
