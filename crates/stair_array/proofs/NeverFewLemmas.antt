-- An epoch of an opening isn't refused for want of slots, where all is within tolerance and no medium has come back.
use Rattle.std.proofs.Common.{◌≡◌, ℕ, ◌<◌, List, inl, inr, sym, ◌∙◌, subst, arith, true≢false, Some}
use Rattle.std.specs.Prelude.{IsTrue, Ok, Err}
use Rattle.stair_model.specs.Geometry.{Geometry}
use Rattle.stair_model.specs.Slots.{HasSlot, Slots, no_slots}
use Rattle.stair_model.proofs.SetLaws.{has_slot-none}
use Rattle.stair_rack.specs.Answers.{Ran, any_call}
use Rattle.stair_rack.specs.Crash.{image_now}
use Rattle.stair_rack.specs.History.{Happening, slot_state, stopped}
use Rattle.stair_rack.specs.Media.{has_sector}
use Rattle.stair_rack.specs.Offline.{IsAttached, IsOfflineUntilAttached}
use Rattle.stair_rack.specs.Stretch.{NothingReturned}
use Rattle.stair_rack.specs.RackState.{RackState}
use Rattle.stair_rack.proofs.CrashLemmas.{CrashMayLeave-now}
use Rattle.stair_rack.proofs.MomentLemmas.{moment_between, moment_last, ran_any, ran_join, ran_weakened}
use Rattle.stair_rack.proofs.OfflineLemmas.{stopped_on}
use Rattle.stair_rack.proofs.StretchLemmas.{each_after, each_before}
use Rattle.stair_super.specs.Superblock.{Superblock}
use Rattle.stair_super.specs.declared.mark.Mark.TheVariants as mark
use Rattle.stair_member.specs.Asked.{LeavesSectors}
use Rattle.stair_member.specs.Current.{IsCurrent, IsLive}
use Rattle.stair_member.specs.Establishing.{Fences}
use Rattle.stair_member.specs.Membership.{IsHere, why_of}
use Rattle.stair_member.specs.declared.fault.FenceFault.{FenceFault}
use Rattle.stair_member.specs.declared.fault.FenceFault.TheVariants.{TooFew}
use Rattle.stair_member.specs.declared.why.Why.{Why}
use Rattle.stair_member.specs.declared.why.Why.TheVariants as why
use Rattle.stair_member.proofs.SuperLemmas.{one_current}
use Rattle.stair_state.specs.Redoing.{AttachesNone, Redoing, Stage}
use Rattle.stair_state.specs.State.{State}
use Rattle.stair_state.specs.Tolerance.{IsTolerated, IsToleratedAlone}
use Rattle.stair_state.proofs.DegradedLemmas.{degraded_same}
use Rattle.stair_state.proofs.OutsideLemmas.{tolerated_alone}
use Rattle.stair_invariant.specs.Effects.{Fenced, FencesGone, NoneWas, Snapshot, snapshot}
use Rattle.stair_invariant.specs.InSession.{IsBesideEpochs}
use Rattle.stair_invariant.specs.Opening.{IsFoundFor, IsOpening, opened_with}
use Rattle.stair_invariant.specs.Session.{IsLiveIn}
use Rattle.stair_invariant.specs.UnderWay.{AreKept, IsUnderWay}
use Rattle.stair_invariant.proofs.BesideLemmas.{attached_on, large_on}
use Rattle.stair_invariant.proofs.CameLemmas.{left_by}
use Rattle.stair_invariant.proofs.ChangingLemmas.{live_here}
use Rattle.stair_invariant.proofs.FirstEpochLemmas.{first_fencing}
use Rattle.stair_invariant.proofs.FirstFenceLemmas.{live_stays}
use Rattle.stair_invariant.proofs.OpenLaws.{goes_on_within}
use Rattle.stair_invariant.proofs.OpenWithLemmas.{beside_amid}
use Rattle.stair_invariant.proofs.RedoingLemmas.{out_ran}
use Rattle.stair_array.proofs.EnoughLemmas.{first_size, never_few}
use Rattle.stair_array.proofs.RecoveredLemmas.{Calm, calm_now, fence_ran}

-- within tolerance at a moment, and no medium has come back
pub record StaysWithinToleranceAt (g : Geometry) (before h : List Happening) : Type 0 where
  pub none : NothingReturned before h
  pub tolerated : IsTolerated g before h

pub calm_at : (s : State) (before h : List Happening) → Ran any_call before h → Calm s before h → StaysWithinToleranceAt s.geometry before h
calm_at s before h ran calm = record { none = calm.1; tolerated = calm_now s before h ran calm }

-- THE FIRST FENCE

module _ (s : State) (before : List Happening) (x w : Snapshot) (found : IsFoundFor s x.member before before x.told.history)
    (fault : FenceFault) (fences : Fences no_slots x.member w.member (Err fault) x.told w.told)
    (honest : IsTrue w.told.honest) (calm : StaysWithinToleranceAt s.geometry before w.told.history) where
  ran_fence : Ran any_call x.told.history w.told.history
  ran_fence = fence_ran x.member w.member (Err fault) x.told w.told fences honest

  to_x : Ran any_call before x.told.history
  to_x = ran_any {allowed = LeavesSectors} found.ran

  alone : IsToleratedAlone x.member.array.geometry (image_now w.told.history)
  alone =
      subst (λ (g : Geometry). IsToleratedAlone g (image_now w.told.history)) found.geometry
      (tolerated_alone s.geometry before w.told.history (image_now w.told.history) calm.tolerated (CrashMayLeave-now w.told.history))

  live_then : (current : Superblock) → IsCurrent s.geometry (image_now w.told.history) current → (j : ℕ)
      → IsLive s.geometry (image_now w.told.history) current j → why_of x.member j ≡ why.Here
  live_then current is_current j live =
      let image = image_now w.told.history in
      let current_m : IsCurrent x.member.array.geometry image current = subst (λ (g : Geometry). IsCurrent g image current) found.geometry is_current in
      let live_m : IsLive x.member.array.geometry image current j = subst (λ (g : Geometry). IsLive g image current j) found.geometry live in
      let fencing =
      first_fencing x.member w.member (Err fault) x.told w.told w.told.history fences found.begun honest (moment_last ran_fence.more ran_fence.is)
      (each_after calm.none (moment_between {a = any_call} {b = any_call} to_x ran_fence)) in
      live_stays found (goes_on_within s.geometry before w.told.history calm.tolerated) (left_by fencing.1 (CrashMayLeave-now w.told.history)) image
      (record { degraded = degraded_same image; alone = alone }) j
      (subst (λ (c : Superblock). IsLive x.member.array.geometry image c j)
      (one_current x.member.array.geometry image current alone.current current_m alone.is_current) live_m)

  pub first_never : (whys : List Why) → ¬ (fault ≡ TooFew whys)
  first_never =
      never_few before x.member no_slots w.member fault x.told w.told fences honest s.geometry found.geometry calm.tolerated live_then
      (λ j live. found.held j (record { below = live.below; why = inl live.why })) (first_size s x.member before x.told.history found)
      (λ j live has. absurd (true≢false (sym has ∙ has_slot-none j)))

-- A PART that is refused

module _ (s : State) (before : List Happening) (a : Redoing) (stage : Stage) (start : List Happening) (x y : Snapshot) (mid : RackState) (leaving : Slots)
    (fault : FenceFault) (ran : Ran (IsBesideEpochs x.member) x.told.history mid.history) (leaves : FencesGone leaving (Some fault) (snapshot x.member mid) y)
    (way : IsUnderWay a stage start x.member x.told.history) (lasting : IsOpening before x) (same : s.geometry ≡ x.member.array.geometry)
    (kept : (alone : IsToleratedAlone s.geometry (image_now y.told.history)) → AreKept s.geometry x.member.array alone.current.array)
    (off : (j : ℕ) → IsLiveIn x.member j → HasSlot leaving j → IsOfflineUntilAttached before mid.history j) (honest : IsTrue y.told.honest)
    (calm : StaysWithinToleranceAt s.geometry before y.told.history) where
  later : Ran any_call mid.history y.told.history
  later = out_ran leaving (Some fault) (snapshot x.member mid) y leaves honest

  none_mid : NothingReturned before mid.history
  none_mid =
      each_before calm.none
      (moment_between {a = any_call} {b = any_call}
      (ran_join {allowed = any_call} lasting.amid.ran (ran_any {allowed = IsBesideEpochs x.member} ran)) later)

  going_mid : ¬ IsTrue (stopped mid.history)
  going_mid stops = goes_on_within s.geometry before y.told.history calm.tolerated (stopped_on {allowed = any_call} later stops)

  live_at : (current : Superblock) → IsCurrent s.geometry (image_now y.told.history) current → (j : ℕ)
      → IsLive s.geometry (image_now y.told.history) current j → why_of x.member j ≡ why.Here
  live_at current is_current j live =
      let image = image_now y.told.history in
      let by_itself = tolerated_alone s.geometry before y.told.history image calm.tolerated (CrashMayLeave-now y.told.history) in
      let live_now : IsLive s.geometry image by_itself.current j =
      subst (λ (c : Superblock). IsLive s.geometry image c j)
      (one_current s.geometry image current by_itself.current is_current by_itself.is_current) live in
      elim (kept by_itself j live_now.below) [
        | inr down ↦ let never : mark.Live ≡ mark.Down = sym live_now.marked ∙ down in absurd (cc)
        | inl as_was ↦
            live_here (why_of x.member j)
            (sym (lasting.amid.array.marks j (subst (λ (g : Geometry). j < g.n) same live_now.below)) ∙ sym as_was.0 ∙ live_now.marked)
      ]

  free : (j : ℕ) → IsLiveIn x.member j → Ran (AttachesNone (λ i. i ≡ j)) x.told.history mid.history
  free j live =
      ran_weakened {allowed = IsBesideEpochs x.member} {more = AttachesNone (λ i. i ≡ j)}
      (λ i c may at. may.attaches (subst (IsHere x.member) (sym at) (record { below = live.below; why = inl live.why }))) ran

  size_mid : (j : ℕ) → IsLiveIn x.member j → IsAttached mid.history j → IsTrue (has_sector (slot_state mid.history j).size 1)
  size_mid j live on =
      let was = attached_on x.told.history mid.history j (free j live) on in
      large_on a.geometry x.told.history mid.history j (free j live) was on (way.large j (live, was)) 1 (omega arith)

  pub part_never : (whys : List Why) → ¬ (fault ≡ TooFew whys)
  part_never whys is = by leaves
    where
      by : FencesGone leaving (Some fault) (snapshot x.member mid) y → ⊥
      by (NoneWas out stays fine) = absurd (cc)
      by (Fenced j has (Ok fallen) fine does) = absurd (cc)
      by (Fenced j has (Err refused) fine does) =
          let one : fault ≡ refused = cc in
          never_few before x.member leaving y.member refused mid y.told does honest s.geometry same calm.tolerated live_at
          (λ i live.
          (beside_amid before (opened_with x.member) x.told.history mid.history lasting.amid lasting.begun ran none_mid going_mid).0.held i
          (record { below = live.below; why = inl live.why })) size_mid off whys (sym one ∙ is)
