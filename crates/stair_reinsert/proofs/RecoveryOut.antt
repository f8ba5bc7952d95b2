-- In the midst of a redo of an array whose media come back slots that were gone are left out, where no phase came before that: at each moment
-- the rack represents the state, and the redo is in a stage that its live slots are in.
use Rattle.std.proofs.Common.{IsTrue, List, None, Option, Result, refl, sym, ◌<◌, ◌∙◌, ◌≡◌, ◌⊎◌, ℕ, ◌∷◌, []}
use Rattle.stair_model.specs.Slots.{HasSlot, Slots}
use Rattle.stair_rack.specs.Answers.{Ran, any_call}
use Rattle.stair_rack.specs.Crash.{CrashMayLeave}
use Rattle.stair_rack.specs.History.{Happening, Made, stopped}
use Rattle.stair_rack.specs.Media.{Image}
use Rattle.stair_rack.specs.Moments.{IsMoment}
use Rattle.stair_rack.specs.Offline.{IsAttached}
use Rattle.stair_rack.specs.Stretch.{every_slot}
use Rattle.stair_rack.specs.RackState.{RackState}
use Rattle.stair_rack.proofs.MomentLemmas.{moment_between, ran_join, ran_none, moment_last, ran_before}
use Rattle.stair_member.specs.Epochs.{Issued}
use Rattle.stair_member.specs.Establishing.{Fences}
use Rattle.stair_member.specs.Membership.{Membership}
use Rattle.stair_member.specs.declared.aim.EpochChange.TheVariants.{Fence}
use Rattle.stair_member.specs.declared.fault.FenceFault.{FenceFault}
use Rattle.stair_state.specs.Holding.{IsConsistentUnderReassembly}
use Rattle.stair_state.specs.Redoing.{AttachesNone, Stage}
use Rattle.stair_state.specs.State.{Change, Content}
use Rattle.stair_state.specs.Tolerance.{IsTolerated}
use Rattle.stair_state.proofs.AloneLemmas.{left_consistent}
use Rattle.stair_state.proofs.StageLemmas.{is_in}
use Rattle.stair_invariant.specs.Effects.{FencesGone, Snapshot, snapshot}
use Rattle.stair_invariant.specs.InSession.{IsBesideEpochs}
use Rattle.stair_invariant.specs.Leading.{IsOpenAmid}
use Rattle.stair_invariant.specs.Opening.{opened_with}
use Rattle.stair_invariant.specs.Returning.{AnyReturns, current_media_of}
use Rattle.stair_invariant.specs.Session.{IsLiveIn}
use Rattle.stair_invariant.proofs.AmidRedoLemmas.{live_still}
use Rattle.stair_invariant.proofs.FencesLemmas.{amid_left}
use Rattle.stair_invariant.proofs.OpenLaws.{goes_on_within}
use Rattle.stair_invariant.proofs.RedoingLemmas.{out_ran}
use Rattle.stair_invariant.proofs.Serving.{StaysWithinToleranceTo, tolerated_now}
use Rattle.stair_invariant.proofs.StaysArrayLemmas.{left_stays}
use Rattle.stair_reinsert.specs.Beginning.{BeginsWherever}
use Rattle.stair_reinsert.proofs.AmidFence.{leaving_begins}
use Rattle.stair_reinsert.proofs.AmidOut.{goes_out, out_attaches}
use Rattle.stair_reinsert.proofs.LeavingOut.{ended, throughout}
use Rattle.stair_reinsert.proofs.RecoveryFence.{fence_ended, fence_left, unseated}
use Rattle.stair_reinsert.proofs.RedoPhase.{IsAmidAny}
use Rattle.stair_reinsert.proofs.RedoStart.{in_redo, RedoAny, redo_of}
use Rattle.stair_reinsert.proofs.StageSince.{SinceIn, slot_last}

module _ (before : List Happening) {kept : Content} {change : Option Change} (doing : RedoAny kept change) (stage : Stage) (p : Snapshot)
    (is : IsAmidAny before doing stage None None p) where
  open doing use {both, m, stage_first, start}

  stayed : Ran (IsBesideEpochs p.member) p.told.history p.told.history
  stayed = ran_none {allowed = IsBesideEpochs p.member} p.told.history

  free_now : Ran (AttachesNone every_slot) p.told.history p.told.history
  free_now = ran_none {allowed = AttachesNone every_slot} p.told.history

  -- it represents the state as it is
  pub amid_alone : (image : Image) → CrashMayLeave p.told.history image → IsConsistentUnderReassembly (unseated m.array.geometry kept change) (Made image ∷ [])
  amid_alone image left =
      left_consistent (unseated m.array.geometry kept change) p.told.history image is.history
      (record { current_media = current_media_of p.member; since = p.member.array.epoch; is = is.consistent }) left

  amid_stands_now : IsConsistentUnderReassembly (unseated m.array.geometry kept change) p.told.history
  amid_stands_now = record { current_media = current_media_of p.member; since = p.member.array.epoch; is = is.consistent }

  -- A FENCE, whatever it answers

  module _ (leaving : Slots) (last : Membership) (answer : Result Slots FenceFault) (new_told : RackState)
      (fences : Fences leaving p.member last answer p.told new_told) (honest : IsTrue new_told.honest)
      (below : (j : ℕ) → HasSlot leaving j → j < p.member.array.geometry.n) (tolerated : IsTolerated m.array.geometry before p.told.history) where
    began : BeginsWherever (in_redo m kept change) (current_media_of p.member) p.member.array.epoch Fence fences.start p.told.history
    began =
        leaving_begins before doing stage None None p is p.told stayed free_now is.since leaving last answer new_told fences honest below tolerated

    abbrev issued : Issued Fence fences.establishes.gone fences.start last p.told.history new_told.history
    issued = fences.establishes.issued honest

    amid_fence_left : (c : List Happening) → IsMoment p.told.history c new_told.history → (image : Image) → CrashMayLeave c image
        → IsConsistentUnderReassembly (unseated m.array.geometry kept change) (Made image ∷ [])
    amid_fence_left =
        fence_left (in_redo m kept change) refl (current_media_of p.member) p.member.array.epoch fences.establishes.gone fences.start last p.told.history
        new_told.history began issued

    amid_fence_ended : ¬ IsTrue (stopped new_told.history) → IsConsistentUnderReassembly (unseated m.array.geometry kept change) new_told.history
    amid_fence_ended =
        fence_ended (in_redo m kept change) refl (current_media_of p.member) p.member.array.epoch fences.establishes.gone fences.start last p.told.history
        new_told.history began issued

  -- SLOTS THAT ARE LEFT OUT

  module _ (gone : Slots) (refusal : Option FenceFault) (y : Snapshot) (leaves : FencesGone gone refusal (snapshot p.member p.told) y) (honest : IsTrue y.told.honest)
      (below : (j : ℕ) → HasSlot gone j → j < p.member.array.geometry.n) where
    out_runs : Ran any_call p.told.history y.told.history
    out_runs = out_ran gone refusal (snapshot p.member p.told) y leaves honest

    within : (c : List Happening) → IsMoment p.told.history c y.told.history → StaysWithinToleranceTo AnyReturns m.array.geometry before c
        → IsTolerated m.array.geometry before p.told.history
    within c at calm =
        calm p.told.history (moment_between {a = any_call} {b = any_call} is.amid.amid.ran (ran_before {allowed = any_call} out_runs at))

    pub amid_out_left : (c : List Happening) → IsMoment p.told.history c y.told.history → StaysWithinToleranceTo AnyReturns m.array.geometry before c → (image : Image)
        → CrashMayLeave c image → IsConsistentUnderReassembly (unseated m.array.geometry kept change) (Made image ∷ [])
    amid_out_left =
        throughout leaves
        (λ h. StaysWithinToleranceTo AnyReturns m.array.geometry before h → (image : Image) → CrashMayLeave h image
        → IsConsistentUnderReassembly (unseated m.array.geometry kept change) (Made image ∷ []))
        (λ calm. amid_alone)
        (λ answer fences c at calm. amid_fence_left gone y.member answer y.told fences honest below (within c at calm) c at)

    module _ (calm : StaysWithinToleranceTo AnyReturns m.array.geometry before y.told.history) where
      end : IsMoment p.told.history y.told.history y.told.history
      end = moment_last out_runs.more out_runs.is

      tolerated_then : IsTolerated m.array.geometry before y.told.history
      tolerated_then = tolerated_now AnyReturns m.array.geometry before y.told.history (ran_join {allowed = any_call} is.amid.amid.ran out_runs) calm

      going : ¬ IsTrue (stopped y.told.history)
      going = goes_on_within m.array.geometry before y.told.history tolerated_then

      pub amid_out_ended : IsConsistentUnderReassembly (unseated m.array.geometry kept change) y.told.history
      amid_out_ended =
          ended leaves (IsConsistentUnderReassembly (unseated m.array.geometry kept change)) amid_stands_now
          (λ answer fences. amid_fence_ended gone y.member answer y.told fences honest below (within y.told.history end calm) going)

  -- WHERE THAT ISN'T REFUSED

  module _ (gone : Slots) (y : Snapshot) (leaves : FencesGone gone None (snapshot p.member p.told) y) (honest : IsTrue y.told.honest)
      (below : (j : ℕ) → HasSlot gone j → j < p.member.array.geometry.n) (calm : StaysWithinToleranceTo AnyReturns m.array.geometry before y.told.history) where
    ran_out : Ran any_call p.told.history y.told.history
    ran_out = out_ran gone None (snapshot p.member p.told) y leaves honest

    open_amid : IsOpenAmid before (opened_with y.member) y.told.history
    open_amid = amid_left gone before (opened_with p.member) p.told y leaves honest is.history is.amid.amid

    -- So it goes on, in the stage in which its live slots are.
    pub amid_out : (now : Stage) → ((j : ℕ) → IsLiveIn y.member j → IsAttached start j → SinceIn (redo_of doing) now start y.told.history j)
        → (now ≡ stage_first) ⊎ ((j : ℕ) → IsLiveIn y.member j → IsAttached start j)
        → IsAmidAny before doing now None None y
    amid_out now then used =
        goes_out before doing stage None None p is p.told stayed free_now is.since gone y leaves honest below calm now None (record {
          amid = open_amid;
          geometry = is.amid.geometry ∙ sym (left_stays gone None (snapshot p.member p.told) y leaves is.amid.amid.array.member).geometry;
          ran =
              ran_join {allowed = AttachesNone every_slot} is.amid.ran
              (out_attaches before doing stage None None p is p.told stayed free_now is.since gone y leaves honest below calm);
          large = λ j live on. is.amid.large j (live_still gone p.member p.told y j leaves live).0 on;
          is_in =
              is_in (redo_of doing) now (λ j. IsLiveIn y.member j × IsAttached start j) start y.told.history
              (λ j both. slot_last (redo_of doing) now start y.told.history j (then j both.0 both.1));
          rebuilt = λ rebuild never. absurd (cc);
        }) then used
