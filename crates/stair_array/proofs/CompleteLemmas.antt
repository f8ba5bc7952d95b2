-- No opening is refused for want of slots, where all is within tolerance and no medium has come back.
use Rattle.std.proofs.Common.{◌≡◌, ℕ, ◌<◌, List, inl, refl, sym, ap, ◌∙◌, subst, arith, None, Some, Option, ◌⊎◌}
use Rattle.std.specs.Prelude.{IsTrue, Result, Ok, Err}
use Rattle.stair_model.specs.CellSet.{HasCell}
use Rattle.stair_model.specs.Geometry.{Geometry, sectors_needed}
use Rattle.stair_model.specs.Slots.{HasSlot, Slots}
use Rattle.stair_model.specs.Stripe.{Stripe, cell}
use Rattle.stair_rack.specs.Answers.{Ran, any_call}
use Rattle.stair_rack.specs.Crash.{image_now}
use Rattle.stair_rack.specs.History.{Happening, stopped}
use Rattle.stair_rack.specs.Moments.{AtEveryMoment}
use Rattle.stair_rack.specs.Offline.{IsOfflineUntilAttached}
use Rattle.stair_rack.specs.Placed.{Placed, Writes}
use Rattle.stair_rack.specs.Reading.{IsReadOf}
use Rattle.stair_rack.proofs.CrashLemmas.{CrashMayLeave-now}
use Rattle.stair_rack.proofs.KeepingLemmas.{phase_ran}
use Rattle.stair_rack.proofs.MomentLemmas.{at_last, moment_between, moment_last, ran_any, ran_join}
use Rattle.stair_rack.proofs.OfflineLemmas.{stopped_on}
use Rattle.stair_rack.proofs.StretchLemmas.{each_after, each_before}
use Rattle.stair_member.specs.Membership.{Membership}
use Rattle.stair_member.specs.declared.fault.FenceFault.{FenceFault}
use Rattle.stair_member.specs.declared.fault.FenceFault.TheVariants.{EpochsSpent, TooFew}
use Rattle.stair_member.specs.declared.why.Why.{Why}
use Rattle.stair_journal.specs.Bodies.{IsBodySector}
use Rattle.stair_journal.specs.Gate.{closed_gate, open_gate}
use Rattle.stair_journal.specs.Gates.{IsGateSector}
use Rattle.stair_journal.specs.Journalling.{gate_writes}
use Rattle.stair_journal.specs.declared.body.Body.{Body}
use Rattle.stair_journal.specs.declared.redo.Redo.{Redo}
use Rattle.stair_journal.proofs.WritesLemmas.{gate_writes_is}
use Rattle.stair_state.specs.Represents.{Encodings}
use Rattle.stair_state.specs.Redoing.{IsRedoing, Placing, Redoing, Stage, Uncommitted, next}
use Rattle.stair_state.specs.State.{State}
use Rattle.stair_state.specs.Surveyed.{NamesContent}
use Rattle.stair_state.specs.Tolerance.{IsToleratedAlone}
use Rattle.stair_state.proofs.StageLemmas.{written_in_range}
use Rattle.stair_invariant.specs.Effects.{DoesStage, FindsBody, FindsRedo, Snapshot, Redoes, Replays, snapshot}
use Rattle.stair_invariant.specs.Opening.{StaysArray, AreBetween, IsOpening, IsRecovering, IsToldBy, StandsWithin}
use Rattle.stair_invariant.specs.Session.{IsLiveIn}
use Rattle.stair_invariant.specs.UnderWay.{AreKept, IsUnderWay}
use Rattle.stair_invariant.proofs.DoubtLemmas.{doubt_of}
use Rattle.stair_invariant.proofs.FindsLemmas.{found_ran}
use Rattle.stair_invariant.proofs.HonestLemmas.{found_honest, honest_first, left_honest, mid_honest, replay_honest}
use Rattle.stair_invariant.proofs.OpenCourseLemmas.{gates_last, part_lasts}
use Rattle.stair_invariant.proofs.ReadOnLemmas.{lasts, reads_beside_epochs, recovering_read}
use Rattle.stair_invariant.proofs.RecoveryEndLemmas.{goes_on}
use Rattle.stair_invariant.proofs.RedoMoments.{moments}
use Rattle.stair_invariant.proofs.RedoingLemmas.{out_ran, over_here, phase, placed, redo_ran}
use Rattle.stair_invariant.proofs.ReplayLemmas.{gates_beside, opens_gates}
use Rattle.stair_invariant.proofs.StageBesideLemmas.{over_alone, phase_beside}
use Rattle.stair_invariant.proofs.StandsWithinLemmas.{body_stands, closing_stands, finding_stands, replay_stands}
use Rattle.stair_invariant.proofs.StaysArrayLemmas.{left_stays, stage_stays, stays_again}
use Rattle.stair_array.specs.Calls.{refused}
use Rattle.stair_array.specs.Machine.{Refusal}
use Rattle.stair_array.specs.Openings.{ClearsJournal, Recovers}
use Rattle.stair_array.proofs.NeverFewLemmas.{StaysWithinToleranceAt, calm_at, first_never, part_never}
use Rattle.stair_array.proofs.RecoveredLemmas.{Calm, IsAt, IsFoundAt, IsReadAt, IsSurveyed, body_at, body_ran, calm_then, cleared_honest, cleared_ran, does_ran, fence_at, fence_ran, finding_at, honest_then, is_at, names_on, replayed_ran}

module _ (s : State) (before : List Happening) (m : Membership) (encodings : Encodings s) (same : s.geometry ≡ m.array.geometry)
    (content : NamesContent s m.array) (a : Redoing) (start : List Happening) where
  abbrev At : Stage → Snapshot → Type 0
  At stage p = IsAt s before m encodings a stage start p

  moving : (h : List Happening) → StaysWithinToleranceAt s.geometry before h → ¬ IsTrue (stopped h)
  moving h calm = goes_on s before h calm.tolerated

  -- marks are kept at the end of a part, by what is so at each moment of it
  kept_by : (p y : Snapshot) → Ran any_call before p.told.history → Ran any_call p.told.history y.told.history → StaysWithinToleranceAt s.geometry before y.told.history
      → AtEveryMoment (StandsWithin s p.member.array p.told.history) p.told.history y.told.history
      → (alone : IsToleratedAlone s.geometry (image_now y.told.history)) → AreKept s.geometry p.member.array alone.current.array
  kept_by p y upto ran calm every alone =
      (at_last {P = StandsWithin s p.member.array p.told.history} every
      (each_after calm.none (moment_between {a = any_call} {b = any_call} upto ran)) (moving y.told.history calm) (image_now y.told.history)
      (CrashMayLeave-now y.told.history) alone).1

  -- WHILE A REDO IS FOUND

  finding_never : (stage : Stage) (redo : Option Redo) (opened : Slots) (refusal : Option FenceFault) (p z : Snapshot) → FindsRedo redo opened refusal p z
      → (whys : List Why) → refusal ≡ Some (TooFew whys) → At stage p → IsTrue z.told.honest → StaysWithinToleranceAt s.geometry before z.told.history → ⊥
  finding_never stage _ _ _ _ _ (FindsRedo.Found gates live mid p are reads none) whys fine is honest calm = absurd (cc)
  finding_never stage _ _ _ _ _ (FindsRedo.Stops gates live mid redo opened fault p y are reads leaves) whys fine is honest calm =
      let now = honest_then mid y.told (left_honest gates.gone (Some fault) (snapshot p.member mid) y leaves) honest in
      let stops : FindsRedo redo opened (Some fault) p y = FindsRedo.Stops gates live mid redo opened fault p y are reads leaves in
      let few : fault ≡ TooFew whys = cc in
      part_never s before a stage start p y mid gates.gone fault
      (reads_beside_epochs p.member {slots = HasSlot live} {sectors = IsGateSector} p.told.history mid.history (reads.ran now)) leaves is.recovering.way
      is.opening is.geometry
      (kept_by p y is.opening.amid.ran (found_ran redo opened (Some fault) p y stops honest) calm
      (finding_stands s encodings a stage start p is.recovering is.geometry is.names redo opened (Some fault) y stops honest))
      (λ j on has. (reads.gone j has).shut now before (is.opening.amid.held j (record { below = on.below; why = inl on.why }))) honest calm whys few
  finding_never stage _ _ _ _ _ (FindsRedo.Again gates live mid redo opened refusal i p y z are reads gone leaves rest) whys fine is honest calm =
      let after : IsTrue y.told.honest = honest_then y.told z.told (found_honest redo opened refusal y z rest) honest in
      let now : IsTrue mid.honest = honest_then mid y.told (left_honest gates.gone None (snapshot p.member mid) y leaves) after in
      let reading : Ran (IsReadOf (HasSlot live) IsGateSector) p.told.history mid.history = reads.ran now in
      let leaving : Ran any_call mid.history y.told.history = out_ran gates.gone None (snapshot p.member mid) y leaves after in
      let later : Ran any_call y.told.history z.told.history = found_ran redo opened refusal y z rest honest in
      let to_mid : Ran any_call before mid.history =
      ran_join {allowed = any_call} is.opening.amid.ran (ran_any {allowed = IsReadOf (HasSlot live) IsGateSector} reading) in
      let none_y = each_before calm.none (moment_between {a = any_call} {b = any_call} (ran_join {allowed = any_call} to_mid leaving) later) in
      let none_mid = each_before none_y (moment_between {a = any_call} {b = any_call} to_mid leaving) in
      let from_p = each_after none_mid (moment_between {a = any_call} {b = IsReadOf (HasSlot live) IsGateSector} is.opening.amid.ran reading) in
      let going : ¬ IsTrue (stopped y.told.history) = λ stops. moving z.told.history calm (stopped_on {allowed = any_call} later stops) in
      let below : (j : ℕ) → HasSlot gates.gone j → IsLiveIn p.member j = λ j has. (are.are j).0 (reads.live_gone j has) in
      let at_mid : IsRecovering a stage encodings.old encodings.new start p.member mid.history =
      recovering_read a stage encodings.old encodings.new start p.member {slots = HasSlot live} {sectors = IsGateSector}
      p.told.history mid.history reading from_p is.recovering in
      let then =
      lasts a stage encodings.old encodings.new start gates.gone (snapshot p.member mid) y at_mid
      (λ j has. record { below = (below j has).below; why = inl (below j has).why }) after
      (each_after none_y (moment_between {a = any_call} {b = any_call} to_mid leaving)) going leaves in
      let left = left_stays gates.gone None (snapshot p.member mid) y leaves is.stays.rules in
      finding_never stage redo opened refusal y z rest whys fine
      (is_at s before m encodings same content a stage start y then.recovering
      (part_lasts before gates.gone p y mid
      (reads_beside_epochs p.member {slots = HasSlot live} {sectors = IsGateSector} p.told.history mid.history reading) leaves
      (λ j has. (below j has).below) after none_y going is.opening) (stays_again m p.member y.member is.stays left)) honest calm

  -- while its body is read
  body_never : (stage : Stage) (redo : Redo) (body : Body) (was into : Stripe) (fault : FenceFault) (p y : Snapshot)
      → FindsBody redo body was into (Some fault) p y → (whys : List Why) → At stage p → IsTrue y.told.honest
      → StaysWithinToleranceAt s.geometry before y.told.history → ¬ (fault ≡ TooFew whys)
  body_never stage redo body was into fault p y f whys is honest calm =
      let now = honest_then f.mid y.told (left_honest body.gone (Some fault) (snapshot p.member f.mid) y f.leaves) honest in
      part_never s before a stage start p y f.mid body.gone fault
      (reads_beside_epochs p.member {slots = HasSlot f.live} {sectors = IsBodySector p.member.array.geometry redo} p.told.history f.mid.history
      (f.reads.ran now)) f.leaves is.recovering.way is.opening is.geometry
      (kept_by p y is.opening.amid.ran (body_ran redo body was into (Some fault) p y f honest) calm
      (body_stands s encodings a stage start p is.recovering is.geometry is.names redo body was into (Some fault) y f honest))
      (λ j on has. (f.reads.gone j has).shut now before (is.opening.amid.held j (record { below = on.below; why = inl on.why }))) honest calm whys

  -- PHASES

  -- a slot in use that was gone to a phase is offline
  module _ (what : Writes) (to : Slots) (fault : FenceFault) (p y : Snapshot) (does : DoesStage what to (Some fault) p y) (stage : Stage)
      (way : IsUnderWay a stage start p.member p.told.history) (opening : IsOpening before p)
      (small : (j k : ℕ) (bytes : List ℕ) → what j k ≡ Some bytes → k < sectors_needed a.geometry) (honest : IsTrue y.told.honest) where
    phase_placed : Placed what (HasSlot to) (HasSlot does.gone) p.told.history does.mid.history
    phase_placed = does.phase.placed (mid_honest what to (Some fault) p y does honest)

    phase_off : (j : ℕ) → IsLiveIn p.member j → HasSlot does.gone j → IsOfflineUntilAttached before does.mid.history j
    phase_off j on has =
        phase_placed.shut before j has (opening.amid.held j (record { below = on.below; why = inl on.why }))
        (λ attached k bytes written. way.large j (on, attached) k (small j k bytes written))

  -- gates of live slots
  gates_never : (stage : Stage) (gate : List ℕ) (to : Slots) (fault : FenceFault) (p y : Snapshot) → ((j : ℕ) → HasSlot to j → IsLiveIn p.member j)
      → DoesStage (gate_writes gate) to (Some fault) p y → (whys : List Why) → At stage p → IsTrue y.told.honest
      → StaysWithinToleranceAt s.geometry before y.told.history
      → AtEveryMoment (StandsWithin s p.member.array p.told.history) p.told.history y.told.history → ¬ (fault ≡ TooFew whys)
  gates_never stage gate to fault p y live does whys is honest calm every =
      let phase = does.phase.placed (mid_honest (gate_writes gate) to (Some fault) p y does honest) in
      let ran =
      ran_join {allowed = any_call} (phase_ran phase) (out_ran does.gone (Some fault) (snapshot p.member does.mid) y does.leaves honest) in
      part_never s before a stage start p y does.mid does.gone fault
      (gates_beside p.member gate to (HasSlot does.gone) p.told.history does.mid.history live phase) does.leaves is.recovering.way is.opening
      is.geometry (kept_by p y is.opening.amid.ran ran calm every)
      (phase_off (gate_writes gate) to fault p y does stage is.recovering.way is.opening
      (λ j k bytes written. let at = (gate_writes_is gate j k bytes written).at in omega (arith, at)) honest) honest calm whys

  -- a redo
  module _ (redoing : IsRedoing a) (stripe : Stripe) (cells : (i c : ℕ) → HasCell a.redo.cells i c → cell stripe i c ≡ cell (a.new a.redo.stripe) i c)
      (words : AreBetween encodings.old encodings.new a.old a.new) where
    pub redo_never : (stage : Stage) (refusal : Option FenceFault) (p z : Snapshot) → Redoes a.geometry a.redo stripe stage refusal p z → (whys : List Why)
        → refusal ≡ Some (TooFew whys) → IsUnderWay a stage start p.member p.told.history → IsOpening before p → StaysArray m p.member
        → IsTrue z.told.honest → StaysWithinToleranceAt s.geometry before z.told.history → ⊥
    redo_never _ _ _ _ (Redoes.Ends p) whys fine way opening stays honest calm = absurd (cc)
    redo_never _ _ _ _ (Redoes.Stops stage to fault p y not_done over does) whys fine way opening stays honest calm =
        let stops : Redoes a.geometry a.redo stripe stage (Some fault) p y = Redoes.Stops stage to fault p y not_done over does in
        let few : fault ≡ TooFew whys = cc in
        let phase = placed a redoing stripe cells start stage to (Some fault) p y over does honest in
        let ran =
        ran_join {allowed = any_call} (phase_ran phase) (out_ran does.gone (Some fault) (snapshot p.member does.mid) y does.leaves honest) in
        let here : s.geometry ≡ p.member.array.geometry = same ∙ sym stays.geometry in
        let of_state : a.geometry ≡ s.geometry = way.geometry ∙ sym here in
        let doubt = doubt_of s encodings a p.member of_state (names_on s before m encodings same content p.member stays) words in
        let none = each_after calm.none (moment_between {a = any_call} {b = any_call} opening.amid.ran ran) in
        let kept : (alone : IsToleratedAlone s.geometry (image_now y.told.history)) → AreKept s.geometry p.member.array alone.current.array =
        subst
        (λ (g : Geometry). (alone : IsToleratedAlone g (image_now y.told.history)) → AreKept g p.member.array alone.current.array) of_state
        (λ alone.
        (moments a stripe stage (Some fault) start p y doubt.content doubt.change y.told.history (image_now y.told.history) redoing cells way stops honest
        doubt.is.of (moment_last ran.more ran.is) none (moving y.told.history calm) (CrashMayLeave-now y.told.history) alone).1) in
        part_never s before a stage start p y does.mid does.gone fault
        (phase_beside a redoing p.member stage (HasSlot to) (over_alone p.member to stage over) {gone = HasSlot does.gone} phase) does.leaves way opening
        here kept
        (λ j on has.
        phase.shut before j has (opening.amid.held j (record { below = on.below; why = inl on.why }))
        (λ attached k bytes written. way.large j (on, attached) k (written_in_range a redoing stage j k bytes written))) honest calm whys few
    redo_never _ _ _ _ (Redoes.Goes stage to refusal p y z not_done over does more) whys fine way opening stays honest calm =
        let now : IsTrue y.told.honest = honest_first a.geometry a.redo stripe (next stage) refusal y z more honest in
        let later : Ran any_call y.told.history z.told.history = redo_ran a redoing stripe cells start (next stage) refusal y z more honest in
        let what = placed a redoing stripe cells start stage to None p y over does now in
        let ran =
        ran_join {allowed = any_call} (phase_ran what) (out_ran does.gone None (snapshot p.member does.mid) y does.leaves now) in
        let none_y =
        each_before calm.none (moment_between {a = any_call} {b = any_call} (ran_join {allowed = any_call} opening.amid.ran ran) later) in
        let going : ¬ IsTrue (stopped y.told.history) = λ stops. moving z.told.history calm (stopped_on {allowed = any_call} later stops) in
        let first = stage_stays _ to None p y does stays.rules in
        redo_never (next stage) refusal y z more whys fine
        (phase a redoing stripe cells start stage to p y not_done over way does now
        (each_after none_y (moment_between {a = any_call} {b = any_call} opening.amid.ran ran)) going)
        (part_lasts before does.gone p y does.mid
        (phase_beside a redoing p.member stage (HasSlot to) (over_alone p.member to stage over) {gone = HasSlot does.gone} what) does.leaves
        (λ j has. (over_here stage p.member to over j (does.phase.among j has)).below) now none_y going opening)
        (stays_again m p.member y.member stays first) honest calm

  -- done again
  replay_never : (stage : Stage) (redo : Redo) (opened : Slots) (stripe : Stripe) (refusal : Option FenceFault) (p z : Snapshot)
      → Replays a.redo stripe opened refusal p z → (whys : List Why) → refusal ≡ Some (TooFew whys) → At stage p
      → IsToldBy (Some redo) opened a stage start p.member p.told.history → IsRedoing a → ((stage ≡ Uncommitted) ⊎ (stage ≡ Placing))
      → ((i c : ℕ) → HasCell a.redo.cells i c → cell stripe i c ≡ cell (a.new a.redo.stripe) i c) → IsTrue z.told.honest
      → StaysWithinToleranceAt s.geometry before z.told.history → ⊥
  replay_never stage redo opened stripe _ _ _ (Replays.Stops to fault p y are does) whys fine is told redoing at_stage cells honest calm =
      let few : fault ≡ TooFew whys = cc in
      gates_never stage (open_gate p.member.array.geometry a.redo) to fault p y (λ j has. ((are.are j).0 has).0) does whys is honest calm
      (replay_stands s encodings a stage start p is.recovering is.geometry is.names (Some redo) opened stripe
      (Some fault) y told redoing at_stage cells (Replays.Stops to fault p y are does) honest) few
  replay_never stage redo opened stripe _ _ _ (Replays.Goes to refusal p y z are does more) whys fine is told redoing at_stage cells honest calm =
      let of_member : a.geometry ≡ p.member.array.geometry = is.recovering.way.geometry in
      let run : Redoes a.geometry a.redo stripe Placing refusal y z =
      subst (λ (g : Geometry). Redoes g a.redo stripe Placing refusal y z) (sym of_member) more in
      let opens : DoesStage (gate_writes (open_gate a.geometry a.redo)) to None p y =
      subst (λ (g : Geometry). DoesStage (gate_writes (open_gate g a.redo)) to None p y) (sym of_member) does in
      let now : IsTrue y.told.honest = honest_first a.geometry a.redo stripe Placing refusal y z run honest in
      let later : Ran any_call y.told.history z.told.history = redo_ran a redoing stripe cells start Placing refusal y z run honest in
      let ran =
      ran_join {allowed = any_call} (phase_ran (opens.phase.placed (mid_honest (gate_writes (open_gate a.geometry a.redo)) to None p y opens now)))
      (out_ran opens.gone None (snapshot p.member opens.mid) y opens.leaves now) in
      let none_y =
      each_before calm.none (moment_between {a = any_call} {b = any_call} (ran_join {allowed = any_call} is.opening.amid.ran ran) later) in
      let going : ¬ IsTrue (stopped y.told.history) = λ stops. moving z.told.history calm (stopped_on {allowed = any_call} later stops) in
      let first = stage_stays (gate_writes (open_gate a.geometry a.redo)) to None p y opens is.stays.rules in
      redo_never redoing stripe cells is.recovering.words Placing refusal y z run whys fine
      (opens_gates a stage encodings.old encodings.new start (Some redo) opened to p y is.recovering told redoing at_stage
      are opens now (each_after none_y (moment_between {a = any_call} {b = any_call} is.opening.amid.ran ran)) going)
      (gates_last before (open_gate a.geometry a.redo) to p y (λ j has. ((are.are j).0 has).0) opens now none_y going is.opening)
      (stays_again m p.member y.member is.stays first) honest calm

-- ALL OF IT

-- an opening that was refused
abbrev pub failed : Refusal → Result Geometry Refusal
failed refusal = Err refusal

few_of : (fault : FenceFault) (whys : List Why) → failed (refused fault) ≡ failed (refused (TooFew whys)) → fault ≡ TooFew whys
few_of (TooFew some) whys same = cc
few_of EpochsSpent whys same = absurd (cc)

module _ (s : State) (before : List Happening) (m : Membership) (encodings : Encodings s) (same : s.geometry ≡ m.array.geometry)
    (content : NamesContent s m.array) (a : Redoing) (start : List Happening) where
  clears_never : (redo : Option Redo) (opened : Slots) (answer : Result Geometry Refusal) (q w : Snapshot)
      → ClearsJournal redo opened answer q w → (whys : List Why) → answer ≡ failed (refused (TooFew whys))
      → IsFoundAt s before m encodings same content a start redo opened q → IsTrue w.told.honest → Calm s before w.told.history → ⊥
  clears_never _ _ _ _ _ (ClearsJournal.Closes opened live None q w are does) whys fine is honest calm = absurd (cc)
  clears_never _ _ _ _ _ (ClearsJournal.Replayed redo opened body was stripe None q y w f whole run) whys fine is honest calm = absurd (cc)
  clears_never _ _ _ _ _ (ClearsJournal.BodyLost redo opened body was stripe sector q w f lost) whys fine is honest calm = absurd (cc)
  clears_never _ _ _ _ _ (ClearsJournal.Closes opened live (Some fault) q w are does) whys fine is honest calm =
      let ran = does_ran (gate_writes closed_gate) live (Some fault) q w does honest in
      gates_never s before m encodings same content a start is.stage closed_gate live fault q w (λ j has. (are.are j).0 has) does whys is.at honest
      (calm_at s before w.told.history (ran_join {allowed = any_call} is.at.opening.amid.ran ran) calm)
      (closing_stands s encodings a is.stage start q is.at.recovering is.at.geometry is.at.names (is.told.none refl) live (Some fault) w are does honest)
      (few_of fault whys fine)
  clears_never _ _ _ _ _ (ClearsJournal.Stops redo opened body was stripe fault q w f) whys fine is honest calm =
      let ran = body_ran redo body was stripe (Some fault) q w f honest in
      body_never s before m encodings same content a start is.stage redo body was stripe fault q w f whys is.at honest
      (calm_at s before w.told.history (ran_join {allowed = any_call} is.at.opening.amid.ran ran) calm) (few_of fault whys fine)
  clears_never _ _ _ _ _ (ClearsJournal.Replayed redo opened body was stripe (Some fault) q y w f whole run) whys fine is honest calm =
      let here : IsTrue y.told.honest = honest_then y.told w.told (replay_honest redo stripe opened (Some fault) y w run) honest in
      let ran : Ran any_call y.told.history w.told.history = replayed_ran redo stripe opened (Some fault) y w run honest in
      let upto : Ran any_call before y.told.history =
      ran_join {allowed = any_call} is.at.opening.amid.ran (body_ran redo body was stripe None q y f here) in
      let now : IsReadAt s before m encodings same content a start redo opened stripe y =
      body_at s before m encodings same content a start redo opened body was stripe q y f whole is here
      (calm_then s before y.told.history w.told.history (moment_between {a = any_call} {b = any_call} upto ran) calm) in
      let few = few_of fault whys fine in
      replay_never s before m encodings same content a start now.stage redo opened stripe (Some fault) y w
      (subst (λ (r : Redo). Replays r stripe opened (Some fault) y w) now.same_redo run) whys (ap (λ (f : FenceFault). Some f) few) now.at now.told
      now.redoing now.going now.cells honest (calm_at s before w.told.history (ran_join {allowed = any_call} upto ran) calm)

-- of an array that a survey found
module _ (s : State) (before : List Happening) where
  pub recovers_never : (answer : Result Geometry Refusal) (x w : Snapshot) → Recovers answer x w → (whys : List Why)
      → answer ≡ failed (refused (TooFew whys)) → IsSurveyed s before x → IsTrue w.told.honest → Calm s before w.told.history → ⊥
  recovers_never _ _ _ (Recovers.NoEpoch fault x w fences) whys fine is honest calm =
      let ran = fence_ran x.member w.member (Err fault) x.told w.told fences honest in
      let found = is.found (calm_then s before x.told.history w.told.history (moment_between {a = any_call} {b = any_call} is.ran ran) calm) in
      first_never s before x w found fault fences honest (calm_at s before w.told.history (ran_join {allowed = any_call} is.ran ran) calm) whys
      (few_of fault whys fine)
  recovers_never _ _ _ (Recovers.Stops fallen opened redo fault x y w fences f) whys fine is honest calm =
      let honest_y = honest_then y.told w.told (found_honest redo opened (Some fault) y w f) honest in
      let first = fence_ran x.member y.member (Ok fallen) x.told y.told fences honest_y in
      let upto : Ran any_call before y.told.history = ran_join {allowed = any_call} is.ran first in
      let second : Ran any_call y.told.history w.told.history = found_ran redo opened (Some fault) y w f honest in
      let calm_y = calm_then s before y.told.history w.told.history (moment_between {a = any_call} {b = any_call} upto second) calm in
      let found = is.found (calm_then s before x.told.history y.told.history (moment_between {a = any_call} {b = any_call} is.ran first) calm_y) in
      let now = fence_at s before x y fallen is found fences honest_y calm_y in
      finding_never s before x.member found.represents.encodings found.geometry found.content now.redoing y.told.history now.stage redo opened
      (Some fault) y w f whys (ap (λ (f : FenceFault). Some f) (few_of fault whys fine)) now.at honest
      (calm_at s before w.told.history (ran_join {allowed = any_call} upto second) calm)
  recovers_never _ _ _ (Recovers.Goes fallen opened redo answer x y z w fences f clears) whys fine is honest calm =
      let honest_z = honest_then z.told w.told (cleared_honest redo opened answer z w clears) honest in
      let honest_y = honest_then y.told z.told (found_honest redo opened None y z f) honest_z in
      let first = fence_ran x.member y.member (Ok fallen) x.told y.told fences honest_y in
      let upto : Ran any_call before y.told.history = ran_join {allowed = any_call} is.ran first in
      let second : Ran any_call y.told.history z.told.history = found_ran redo opened None y z f honest_z in
      let third : Ran any_call z.told.history w.told.history = cleared_ran redo opened answer z w clears honest in
      let calm_z =
      calm_then s before z.told.history w.told.history
      (moment_between {a = any_call} {b = any_call} (ran_join {allowed = any_call} upto second) third) calm in
      let calm_y = calm_then s before y.told.history z.told.history (moment_between {a = any_call} {b = any_call} upto second) calm_z in
      let found = is.found (calm_then s before x.told.history y.told.history (moment_between {a = any_call} {b = any_call} is.ran first) calm_y) in
      let now = fence_at s before x y fallen is found fences honest_y calm_y in
      clears_never s before x.member found.represents.encodings found.geometry found.content now.redoing y.told.history redo opened answer z w clears
      whys fine
      (finding_at s before x.member found.represents.encodings found.geometry found.content now.redoing now.stage y.told.history redo opened y z f now.at
      honest_z calm_z) honest calm
