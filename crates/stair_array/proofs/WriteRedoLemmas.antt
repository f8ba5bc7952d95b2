-- The redo of a write, where no medium comes back: how the array is led on from stage to stage, and what stands where it is refused.
use Rattle.std.proofs.Common.{◌≡◌, ℕ, List, refl, sym, ◌∙◌, subst, None, Some, Option, inl, true≢false, ◌≢◌}
use Rattle.std.specs.Prelude.{IsTrue}
use Rattle.stair_model.specs.CellSet.{HasCell}
use Rattle.stair_model.specs.Geometry.{Geometry}
use Rattle.stair_model.specs.Slots.{HasSlot, Slots}
use Rattle.stair_model.specs.Stripe.{Stripe, cell}
use Rattle.stair_rack.specs.Answers.{Ran, any_call}
use Rattle.stair_rack.specs.History.{Happening, slot_state, stopped}
use Rattle.stair_rack.specs.Moments.{IsMoment}
use Rattle.stair_rack.specs.Offline.{IsAttached, IsOfflineUntilAttached}
use Rattle.stair_rack.specs.Placed.{Placed, Writes}
use Rattle.stair_rack.specs.Stretch.{NothingReturned}
use Rattle.stair_rack.proofs.MomentLemmas.{moment_between, ran_any, ran_join, ran_weakened}
use Rattle.stair_rack.proofs.OfflineLemmas.{stopped_on}
use Rattle.stair_rack.proofs.StretchLemmas.{each_after, each_before}
use Rattle.stair_member.specs.Fencing.{IsBegun}
use Rattle.stair_member.specs.declared.fault.FenceFault.{FenceFault}
use Rattle.stair_state.specs.Redoing.{AttachesNone, Done, IsRedoing, Redoing, Stage, next, writes_in}
use Rattle.stair_state.specs.Represents.{AreSteady, IsLargeEnough}
use Rattle.stair_state.proofs.StageLemmas.{written_in_range}
use Rattle.stair_invariant.specs.Effects.{DoesStage, Fenced, IsOver, FencesGone, NoneWas, Snapshot, Redoes, snapshot, stage_writes}
use Rattle.stair_invariant.specs.InSession.{IsBesideEpochs}
use Rattle.stair_invariant.specs.Leading.{IsAmidRedo, IsOpenAmid, led_to, rebuild_in}
use Rattle.stair_invariant.specs.Opening.{StaysArray}
use Rattle.stair_invariant.specs.Rebuilding.{Rebuild}
use Rattle.stair_invariant.specs.Session.{IsLiveIn, IsOpenWith}
use Rattle.stair_invariant.specs.UnderWay.{IsUnderWay}
use Rattle.stair_invariant.proofs.AmidRedoLemmas.{redo_ends, redo_goes, redo_under_way}
use Rattle.stair_invariant.proofs.BesideLemmas.{attached_on}
use Rattle.stair_invariant.proofs.FencesLemmas.{stays_open}
use Rattle.stair_invariant.proofs.HonestLemmas.{honest_first}
use Rattle.stair_invariant.proofs.OpenWithLemmas.{beside_amid}
use Rattle.stair_invariant.proofs.OwnPartLemmas.{stays_live}
use Rattle.stair_invariant.proofs.RedoingLemmas.{out_ran, over_here, placed, redo_ran, stage_ran}
use Rattle.stair_invariant.proofs.StageBesideLemmas.{over_alone, phase_beside}
use Rattle.stair_invariant.proofs.StaysArrayLemmas.{redo_stays, stage_stays, stays_again}
use Rattle.stair_invariant.proofs.SteadyEndLemmas.{fence_steady}
use Rattle.stair_invariant.proofs.UnderWayLemmas.{way_ends, writes_same}
use Rattle.stair_array.proofs.CourseLemmas.{redo_part}
use Rattle.stair_array.proofs.GoneToLemmas.{attaches_none}
use Rattle.stair_array.proofs.LedOnLemmas.{led_again}
use Rattle.stair_array.proofs.PartsLemmas.{out_after}
use Rattle.stair_array.proofs.ReadPartLemmas.{array_with}

module _ (before : List Happening) (r : Redoing) (redoing : IsRedoing r) (stripe : Stripe)
    (cells : (i c : ℕ) → HasCell r.redo.cells i c → cell stripe i c ≡ cell (r.new r.redo.stripe) i c) (start : List Happening) where
  -- At a point of it the redo has come to this stage.
  pub record IsAmid (stage : Stage) (rebuild : Option Rebuild) (stopped : Option FenceFault) (p : Snapshot) : Type 0 where
    pub amid : IsAmidRedo r before (array_with rebuild stopped p) stage start p.told.history
    pub begun : IsBegun None p.member p.told.history

  -- what is written goes by the redo's cells alone
  same_writes : (stage : Stage) → stage_writes r.geometry r.redo stripe stage ≡ stage_writes r.geometry r.redo (r.new r.redo.stripe) stage
  same_writes stage = writes_same r stripe stage cells ∙ sym (writes_same r (r.new r.redo.stripe) stage (λ i c has. refl))

  stage_goes : (stage : Stage) (rebuild : Option Rebuild) (stopped_by : Option FenceFault) (to : Slots) (p y : Snapshot) → IsOver stage p.member to
      → DoesStage (stage_writes r.geometry r.redo stripe stage) to None p y → IsTrue y.told.honest → NothingReturned before y.told.history
      → ¬ IsTrue (stopped y.told.history) → IsAmid stage rebuild stopped_by p → IsAmid (next stage) (rebuild_in y.member rebuild) None y
  stage_goes stage rebuild stopped_by to p y over does honest none going is =
      let then =
      redo_goes r redoing before (array_with rebuild stopped_by p) stage to start p.told y over
      (subst (λ (what : Writes). DoesStage what to None p y) (same_writes stage) does) honest is.amid is.begun none going in
      record { amid = then.0; begun = then.1 }

  pub way : (stage : Stage) (rebuild : Option Rebuild) (stopped_by : Option FenceFault) (p : Snapshot) → NothingReturned before p.told.history
      → ¬ IsTrue (stopped p.told.history) → IsAmid stage rebuild stopped_by p → IsUnderWay r stage start p.member p.told.history
  way stage rebuild stopped_by p none going is =
      redo_under_way r before (array_with rebuild stopped_by p) stage start p.told.history is.amid none going is.begun

  -- a stage that was done, and what the redo did after it
  module _ (stage : Stage) (to : Slots) (refusal : Option FenceFault) (rebuild : Option Rebuild) (stopped_by : Option FenceFault) (p y z : Snapshot)
      (over : IsOver stage p.member to) (does : DoesStage (stage_writes r.geometry r.redo stripe stage) to None p y)
      (more : Redoes r.geometry r.redo stripe (next stage) refusal y z) (honest : IsTrue z.told.honest) (none : NothingReturned before z.told.history)
      (going : ¬ IsTrue (stopped z.told.history)) (is : IsAmid stage rebuild stopped_by p) where
    honest_y : IsTrue y.told.honest
    honest_y = honest_first r.geometry r.redo stripe (next stage) refusal y z more honest

    later : Ran any_call y.told.history z.told.history
    later = redo_ran r redoing stripe cells start (next stage) refusal y z more honest

    upto : Ran any_call before y.told.history
    upto = ran_join {allowed = any_call} is.amid.amid.ran (stage_ran r redoing stripe cells start stage to None p y over does honest_y)

    next_amid : IsAmid (next stage) (rebuild_in y.member rebuild) None y
    next_amid =
        stage_goes stage rebuild stopped_by to p y over does honest_y (each_before none (moment_between {a = any_call} {b = any_call} upto later))
        (λ stops. going (stopped_on {allowed = any_call} later stops)) is

  -- ITS END: the array serves the new stripes

  pub redo_serves : (stage : Stage) (refusal : Option FenceFault) (p z : Snapshot) → Redoes r.geometry r.redo stripe stage refusal p z → refusal ≡ None
      → IsTrue z.told.honest → NothingReturned before z.told.history → ¬ IsTrue (stopped z.told.history) → (rebuild : Option Rebuild)
      (stopped_by : Option FenceFault) → IsAmid stage rebuild stopped_by p
      → IsOpenWith before (led_to (array_with rebuild stopped_by p) z.member) r.new z.told.history × IsBegun None z.member z.told.history
  redo_serves _ _ _ _ (Redoes.Ends p) fine honest none going rebuild stopped_by is = (
    stays_open before (array_with rebuild stopped_by p) r.new p.told.history
        (redo_ends r before (array_with rebuild stopped_by p) start p.told.history is.amid),
    is.begun,
  )
  redo_serves _ _ _ _ (Redoes.Stops stage to fault p y not_done over does) fine honest none going rebuild stopped_by is = absurd (cc)
  redo_serves _ _ _ _ (Redoes.Goes stage to refusal p y z not_done over does more) fine honest none going rebuild stopped_by is =
      let then = next_amid stage to refusal rebuild stopped_by p y z over does more honest none going is in
      let serves = redo_serves (next stage) refusal y z more fine honest none going (rebuild_in y.member rebuild) None then in
      let first : StaysArray p.member y.member = stage_stays _ to None p y does is.amid.amid.array.member in (
        led_again before (array_with rebuild stopped_by p) y.member z.member r.new z.told.history is.amid.amid.array first
            then.amid.amid.array (redo_stays r.geometry r.redo stripe (next stage) refusal y z more first.rules) serves.0,
        serves.1,
      )

  -- A PHASE, and what is left out after it

  module _ (stage : Stage) (not_done : stage ≢ Done) (to : Slots) (refusal : Option FenceFault) (rebuild : Option Rebuild)
      (stopped_by : Option FenceFault) (p y : Snapshot) (over : IsOver stage p.member to)
      (does : DoesStage (stage_writes r.geometry r.redo stripe stage) to refusal p y) (honest : IsTrue y.told.honest)
      (none : NothingReturned before y.told.history) (going : ¬ IsTrue (stopped y.told.history)) (is : IsAmid stage rebuild stopped_by p) where
    phase : Placed (writes_in r stage) (HasSlot to) (HasSlot does.gone) p.told.history does.mid.history
    phase = placed r redoing stripe cells start stage to refusal p y over does honest

    besides : Ran (IsBesideEpochs p.member) p.told.history does.mid.history
    besides = phase_beside r redoing p.member stage (HasSlot to) (over_alone p.member to stage over) {gone = HasSlot does.gone} phase

    pub ran_out : Ran any_call does.mid.history y.told.history
    ran_out = out_ran does.gone refusal (snapshot p.member does.mid) y does.leaves honest

    pub to_mid : IsMoment before does.mid.history y.told.history
    to_mid =
        moment_between {a = any_call} {b = any_call}
        (ran_join {allowed = any_call} is.amid.amid.ran (ran_any {allowed = IsBesideEpochs p.member} besides)) ran_out

    none_mid : NothingReturned before does.mid.history
    none_mid = each_before none to_mid

    going_mid : ¬ IsTrue (stopped does.mid.history)
    going_mid stops = going (stopped_on {allowed = any_call} ran_out stops)

    from_p : IsMoment before p.told.history does.mid.history
    from_p = moment_between {a = any_call} {b = IsBesideEpochs p.member} is.amid.amid.ran besides

    way_p : IsUnderWay r stage start p.member p.told.history
    way_p =
        way stage rebuild stopped_by p (each_before none_mid from_p)
        (λ stops. going_mid (stopped_on {allowed = any_call} (ran_any {allowed = IsBesideEpochs p.member} besides) stops)) is

    -- after the phase the next stage is reached
    pub mid_way : IsUnderWay r (next stage) start p.member does.mid.history
    mid_way =
        way_ends r redoing stage start p.member to over (HasSlot does.gone) p.told.history does.mid.history way_p phase (each_after none_mid from_p) not_done
        going_mid

    pub mid_amid : IsOpenAmid before (array_with rebuild stopped_by p) does.mid.history
    mid_amid =
        (beside_amid before (array_with rebuild stopped_by p) p.told.history does.mid.history is.amid.amid is.begun besides none_mid going_mid).0

    -- a live slot that was gone to it is offline, so that one that is attached wasn't
    pub mid_off : (j : ℕ) → IsLiveIn p.member j → HasSlot does.gone j → IsOfflineUntilAttached before does.mid.history j
    mid_off j live has =
        phase.shut before j has (is.amid.amid.held j (record { below = live.below; why = inl live.why }))
        (λ attached k bytes written. way_p.large j (live, attached) k (written_in_range r redoing stage j k bytes written))

    pub attached_mid : (j : ℕ) → IsAttached y.told.history j → IsAttached does.mid.history j
    attached_mid j attached =
        attached_on does.mid.history y.told.history j
        (ran_weakened {allowed = attaches_none} {more = AttachesNone (λ i. i ≡ j)} (λ i c may at. may)
        ((out_after does.gone refusal (snapshot p.member does.mid) y does.leaves).beside honest)) attached

    pub stays_in : (j : ℕ) → IsLiveIn p.member j → IsAttached y.told.history j → ¬ HasSlot does.gone j
    stays_in j live attached has = by (mid_off j live has)
      where
        by : IsOfflineUntilAttached before does.mid.history j → ⊥
        by (IsOfflineUntilAttached.RackStopped stops) = going_mid stops
        by (IsOfflineUntilAttached.Unattached off pulled) = true≢false (sym (attached_mid j attached) ∙ off)

    -- and stays live where that isn't refused
    pub live_still : refusal ≡ None → (j : ℕ) → IsLiveIn p.member j → IsAttached y.told.history j → IsLiveIn y.member j
    live_still fine j live attached =
        stays_live does.gone before (array_with rebuild stopped_by p) refusal does.mid y j mid_amid does.leaves fine honest going live
        (λ on.
        subst (λ (g : Geometry). IsLargeEnough g (slot_state does.mid.history j).size) is.amid.geometry (mid_way.large j (live, on)))
        (stays_in j live attached) attached

  -- WHERE IT IS REFUSED

  -- the stage after which it was; each slot that was live at first and is attached in the end was live in it
  pub record IsRefusedAfter (first : Snapshot) (fault : FenceFault) (z : Snapshot) : Type 0 where
    pub stage : Stage
    pub not_done : stage ≢ Done
    pub to : Slots
    pub rebuild : Option Rebuild
    pub stopped_by : Option FenceFault
    pub snapshot : Snapshot
    pub over : IsOver stage snapshot.member to
    pub does : DoesStage (stage_writes r.geometry r.redo stripe stage) to (Some fault) snapshot z
    pub is : IsAmid stage rebuild stopped_by snapshot
    pub stays : StaysArray first.member snapshot.member
    pub live : (j : ℕ) → IsLiveIn first.member j → IsAttached z.told.history j → IsLiveIn snapshot.member j

  pub refused_after : (stage : Stage) (refusal : Option FenceFault) (p z : Snapshot) → Redoes r.geometry r.redo stripe stage refusal p z
      → (fault : FenceFault) → refusal ≡ Some fault → IsTrue z.told.honest → NothingReturned before z.told.history
      → ¬ IsTrue (stopped z.told.history) → (rebuild : Option Rebuild) (stopped_by : Option FenceFault) → IsAmid stage rebuild stopped_by p
      → IsRefusedAfter p fault z
  refused_after _ _ _ _ (Redoes.Ends p) fault fine honest none going rebuild stopped_by is = absurd (cc)
  refused_after _ _ _ _ (Redoes.Stops stage to given p y not_done over does) fault fine honest none going rebuild stopped_by is = record {
    stage = stage;
    not_done = not_done;
    to = to;
    rebuild = rebuild;
    stopped_by = stopped_by;
    snapshot = p;
    over = over;
    does =
        subst (λ (f : FenceFault). DoesStage (stage_writes r.geometry r.redo stripe stage) to (Some f) p y)
        (let one : given ≡ fault = cc in one) does;
    is = is;
    stays = record { rules = is.amid.amid.array.member; geometry = refl; frozen = refl; label = refl; seats = λ j. inl refl };
    live = λ j live attached. live;
  }
  refused_after _ _ _ _ (Redoes.Goes stage to refusal p y z not_done over does more) fault fine honest none going rebuild stopped_by is =
      let honest_at = honest_y stage to refusal rebuild stopped_by p y z over does more honest none going is in
      let rest = later stage to refusal rebuild stopped_by p y z over does more honest none going is in
      let then =
      refused_after (next stage) refusal y z more fault fine honest none going (rebuild_in y.member rebuild) None
      (next_amid stage to refusal rebuild stopped_by p y z over does more honest none going is) in
      let first : StaysArray p.member y.member = stage_stays _ to None p y does is.amid.amid.array.member in
      let part = redo_part r.geometry r.redo stripe (next stage) refusal y z more first.rules (is.amid.geometry ∙ sym first.geometry) redoing.formed in
      record {
        stage = then.stage;
        not_done = then.not_done;
        to = then.to;
        rebuild = then.rebuild;
        stopped_by = then.stopped_by;
        snapshot = then.snapshot;
        over = then.over;
        does = then.does;
        is = then.is;
        stays = stays_again p.member y.member then.snapshot.member first then.stays;
        live = λ j live attached.
            then.live j
            (live_still stage not_done to None rebuild stopped_by p y over does honest_at
            (each_before none
            (moment_between {a = any_call} {b = any_call} (upto stage to refusal rebuild stopped_by p y z over does more honest none going is) rest))
            (λ stops. going (stopped_on {allowed = any_call} rest stops)) is refl j live
            (attached_on y.told.history z.told.history j
            (ran_weakened {allowed = attaches_none} {more = AttachesNone (λ i. i ≡ j)} (λ i c may at. may) (part.after.beside honest)) attached)) attached;
      }

  -- nothing is unsynced in superblock places then
  pub refused_steady : (first : Snapshot) (fault : FenceFault) (z : Snapshot) → IsRefusedAfter first fault z → IsTrue z.told.honest
      → NothingReturned before z.told.history → ¬ IsTrue (stopped z.told.history) → AreSteady r.geometry z.told.history
  refused_steady first fault z at honest none going = by at.does.leaves
    where
      by : FencesGone at.does.gone (Some fault) (snapshot at.snapshot.member at.does.mid) z → AreSteady r.geometry z.told.history
      by (NoneWas out same fine) = absurd (let never : Some fault ≡ None = fine in cc)
      by (Fenced j has answer fine e) =
          subst (λ (g : Geometry). AreSteady g z.told.history) (sym at.is.amid.geometry)
          (fence_steady at.does.gone at.snapshot.member z.member answer at.does.mid z.told e
          (mid_way at.stage at.not_done at.to (Some fault) at.rebuild at.stopped_by at.snapshot z at.over at.does honest none going at.is).epoch.begun
          (λ i was. (over_here at.stage at.snapshot.member at.to at.over i (at.does.phase.among i was)).below) honest
          (each_after none
          (to_mid at.stage at.not_done at.to (Some fault) at.rebuild at.stopped_by at.snapshot z at.over at.does honest none going at.is)) going)
