-- At the end of a recovery's parts, refused or not, nothing is unsynced in the superblock places.
use Rattle.std.proofs.Common.{◌≡◌, ℕ, ◌<◌, List, [], inl, inr, refl, sym, ap, subst, arith, None, Some, Option}
use Rattle.std.specs.Prelude.{◌⊎◌, IsTrue, Result}
use Rattle.stair_model.specs.CellSet.{HasCell}
use Rattle.stair_model.specs.Geometry.{Geometry}
use Rattle.stair_model.specs.Slots.{HasSlot, Slots}
use Rattle.stair_model.specs.Stripe.{Stripe, cell}
use Rattle.stair_rack.specs.Answers.{Ran, any_call}
use Rattle.stair_rack.specs.History.{Happening, slot_state, stopped}
use Rattle.stair_rack.specs.Offline.{IsKept}
use Rattle.stair_rack.specs.Reading.{IsReadOf}
use Rattle.stair_rack.specs.Sector.{Sector}
use Rattle.stair_rack.specs.Stretch.{NothingReturned}
use Rattle.stair_rack.specs.RackState.{RackState}
use Rattle.stair_rack.proofs.KeepingLemmas.{phase_ran}
use Rattle.stair_rack.proofs.MomentLemmas.{moment_between, ran_any, ran_join}
use Rattle.stair_rack.proofs.OfflineLemmas.{stopped_on}
use Rattle.stair_rack.proofs.StretchLemmas.{each_after, each_before}
use Rattle.stair_rack.proofs.TidyLemmas.{history_tidy}
use Rattle.stair_member.specs.Epochs.{IsPlaceSettled, Issued}
use Rattle.stair_member.specs.Establishing.{Establishes, Fences, refusal_of}
use Rattle.stair_member.specs.Fencing.{IsBegun}
use Rattle.stair_member.specs.Membership.{IsHere, Membership}
use Rattle.stair_member.specs.declared.aim.EpochChange.{EpochChange}
use Rattle.stair_member.specs.declared.aim.EpochChange.TheVariants.{Fence}
use Rattle.stair_member.specs.declared.fault.FenceFault.{FenceFault}
use Rattle.stair_member.proofs.EditionLemmas.{Bare, Same, slot_is}
use Rattle.stair_journal.specs.Bodies.{IsBodySector}
use Rattle.stair_journal.specs.Gate.{open_gate}
use Rattle.stair_journal.specs.Gates.{IsGateSector}
use Rattle.stair_journal.specs.Journalling.{gate_writes}
use Rattle.stair_journal.specs.declared.body.Body.{Body}
use Rattle.stair_journal.specs.declared.redo.Redo.{Redo}
use Rattle.stair_state.specs.Blocks.{Codewords}
use Rattle.stair_state.specs.Redoing.{IsRedoing, Placing, Redoing, Stage, Uncommitted, next}
use Rattle.stair_state.specs.Represents.{AreSteady}
use Rattle.stair_invariant.specs.Effects.{DoesStage, Fenced, FindsBody, FindsRedo, FencesGone, NoneWas, Snapshot, Redoes, Replays, snapshot}
use Rattle.stair_invariant.specs.InSession.{HasEpoch, IsBesideEpochs}
use Rattle.stair_invariant.specs.Opening.{IsRecovering, IsToldBy}
use Rattle.stair_invariant.specs.Session.{IsLiveIn}
use Rattle.stair_invariant.specs.UnderWay.{IsUnderWay}
use Rattle.stair_invariant.proofs.BesideLemmas.{epoch_kept}
use Rattle.stair_invariant.proofs.FindsLemmas.{found_ran, honest_back, live_here}
use Rattle.stair_invariant.proofs.HonestLemmas.{found_honest, honest_first, left_honest, mid_honest}
use Rattle.stair_invariant.proofs.ReadOnLemmas.{lasts, reads_beside_epochs, recovering_read}
use Rattle.stair_invariant.proofs.RedoingLemmas.{out_ran, over_here, phase, placed, redo_ran}
use Rattle.stair_invariant.proofs.ReplayLemmas.{gates_beside, opens_gates}
use Rattle.stair_invariant.proofs.StageBesideLemmas.{over_alone, phase_beside}

-- AN EPOCH, that stands or was refused

-- by a member of the same array
pub epoch_steady : (aim : EpochChange) (joining : Option ℕ) (m start last : Membership) (refusal : Option FenceFault) (old new : RackState)
    → Establishes aim start last refusal old new → IsBegun joining m old.history → IsTrue new.honest → NothingReturned old.history new.history
    → ¬ IsTrue (stopped new.history) → AreSteady m.array.geometry new.history
epoch_steady aim joining m start last refusal old new e begun honest none going j k inside place =
    elim
    (slot_is issued.slots issued.editions old.history new.history j (history_tidy begun.history) (λ i lt. begun.settled j i inside lt) issued.ran none) [
      | Bare off bare ↦ ap (λ (s : Sector). s.since) (bare k)
      | Same was same some each ↦
          elim (issued.steady j k place was (begun.settled j k inside place)) [
            | inr stops ↦ absurd (going stops)
            | inl kept ↦ settled same kept
          ]
    ]
  where
    issued : Issued aim e.gone start last old.history new.history
    issued = e.issued honest

    settled : (slot_state new.history j).pulls ≡ (slot_state old.history j).pulls → IsPlaceSettled old.history new.history j k
        → ((slot_state new.history j).sector k).since ≡ []
    settled same (IsKept.Here at has (inl harmed)) = ap (λ (s : Sector). s.since) harmed
    settled same (IsKept.Here at has (inr is)) = is
    settled same (IsKept.Lost less) = absurd (omega (arith, less, same))

pub fence_steady : (leaving : Slots) (m last : Membership) (answer : Result Slots FenceFault) (old new : RackState) → Fences leaving m last answer old new
    → IsBegun None m old.history → ((j : ℕ) → HasSlot leaving j → j < m.array.geometry.n) → IsTrue new.honest
    → NothingReturned old.history new.history → ¬ IsTrue (stopped new.history) → AreSteady m.array.geometry new.history
fence_steady leaving m last answer old new e begun below = epoch_steady Fence None m e.start last (refusal_of answer) old new e.establishes begun

left_steady : (gone : Slots) (refusal : Option FenceFault) (x y : Snapshot) → FencesGone gone refusal x y → IsBegun None x.member x.told.history
    → ((j : ℕ) → HasSlot gone j → j < x.member.array.geometry.n) → IsTrue y.told.honest → NothingReturned x.told.history y.told.history
    → ¬ IsTrue (stopped y.told.history) → AreSteady x.member.array.geometry y.told.history
left_steady gone refusal x y (NoneWas out same fine) begun below honest none going =
    subst (λ (p : Snapshot). AreSteady x.member.array.geometry p.told.history) (sym same) (λ j k inside place. begun.settled j k inside place)
left_steady gone refusal x y (Fenced j has answer fine e) begun below honest none going =
    fence_steady gone x.member y.member answer x.told y.told e begun below honest none going

-- calls beside the epochs, and what is left out after them
part_steady : (g : Geometry) (gone : Slots) (refusal : Option FenceFault) (x y : Snapshot) (mid : RackState) → g ≡ x.member.array.geometry
    → Ran (IsBesideEpochs x.member) x.told.history mid.history → FencesGone gone refusal (snapshot x.member mid) y → HasEpoch x.member x.told.history
    → ((j : ℕ) → HasSlot gone j → IsHere x.member j) → IsTrue y.told.honest → NothingReturned x.told.history y.told.history
    → ¬ IsTrue (stopped y.told.history) → AreSteady g y.told.history
part_steady g gone refusal x y mid same ran leaves epoch here honest none going =
    let later : Ran any_call mid.history y.told.history = out_ran gone refusal (snapshot x.member mid) y leaves honest in
    let at = moment_between {a = IsBesideEpochs x.member} {b = any_call} ran later in
    subst (λ (f : Geometry). AreSteady f y.told.history) (sym same)
    (left_steady gone refusal (snapshot x.member mid) y leaves (epoch_kept x.member x.told.history mid.history epoch ran (each_before none at)).begun
    (λ j has. (here j has).below) honest (each_after none at) going)

-- THE PARTS

module _ (a : Redoing) (old_words new_words : Codewords) (start : List Happening) where
  pub finding_steady : (stage : Stage) (redo : Option Redo) (opened : Slots) (refusal : Option FenceFault) (x z : Snapshot) → FindsRedo redo opened refusal x z
      → IsRecovering a stage old_words new_words start x.member x.told.history → IsTrue z.told.honest → NothingReturned x.told.history z.told.history
      → ¬ IsTrue (stopped z.told.history) → AreSteady a.geometry z.told.history
  finding_steady stage _ _ _ _ _ (FindsRedo.Found gates live mid x are reads gone) is honest none going =
      part_steady a.geometry gates.gone None x (snapshot x.member mid) mid is.way.geometry
      (reads_beside_epochs x.member {slots = HasSlot live} {sectors = IsGateSector} x.told.history mid.history (reads.ran honest))
      (NoneWas gone refl refl) is.way.epoch (λ j has. live_here x.member live are j (reads.live_gone j has)) honest none going
  finding_steady stage _ _ _ _ _ (FindsRedo.Stops gates live mid redo opened fault x y are reads leaves) is honest none going =
      let now = honest_back mid y.told (left_honest gates.gone (Some fault) (snapshot x.member mid) y leaves) honest in
      part_steady a.geometry gates.gone (Some fault) x y mid is.way.geometry
      (reads_beside_epochs x.member {slots = HasSlot live} {sectors = IsGateSector} x.told.history mid.history (reads.ran now)) leaves
      is.way.epoch (λ j has. live_here x.member live are j (reads.live_gone j has)) honest none going
  finding_steady stage _ _ _ _ _ (FindsRedo.Again gates live mid redo opened refusal j x y z are reads gone leaves rest) is honest none going =
      let after : IsTrue y.told.honest = honest_back y.told z.told (found_honest redo opened refusal y z rest) honest in
      let now : IsTrue mid.honest = honest_back mid y.told (left_honest gates.gone None (snapshot x.member mid) y leaves) after in
      let ran : Ran (IsReadOf (HasSlot live) IsGateSector) x.told.history mid.history = reads.ran now in
      let leaving : Ran any_call mid.history y.told.history = out_ran gates.gone None (snapshot x.member mid) y leaves after in
      let later : Ran any_call y.told.history z.told.history = found_ran redo opened refusal y z rest honest in
      let before = ran_join {allowed = any_call} (ran_any {allowed = IsReadOf (HasSlot live) IsGateSector} ran) leaving in
      let to_y = moment_between {a = any_call} {b = any_call} before later in
      let to_mid = moment_between {a = IsReadOf (HasSlot live) IsGateSector} {b = any_call} ran leaving in
      let at_mid : IsRecovering a stage old_words new_words start x.member mid.history =
      recovering_read a stage old_words new_words start x.member {slots = HasSlot live} {sectors = IsGateSector} x.told.history mid.history ran
      (each_before (each_before none to_y) to_mid) is in
      let at_y =
      lasts a stage old_words new_words start gates.gone (snapshot x.member mid) y at_mid
      (λ i has. live_here x.member live are i (reads.live_gone i has)) after (each_after (each_before none to_y) to_mid)
      (λ stops. going (stopped_on {allowed = any_call} later stops)) leaves in
      finding_steady stage redo opened refusal y z rest at_y.recovering honest (each_after none to_y) going

  pub body_steady : (stage : Stage) (redo : Redo) (body : Body) (was into : Stripe) (refusal : Option FenceFault) (x y : Snapshot)
      → FindsBody redo body was into refusal x y → IsRecovering a stage old_words new_words start x.member x.told.history → IsTrue y.told.honest
      → NothingReturned x.told.history y.told.history → ¬ IsTrue (stopped y.told.history) → AreSteady a.geometry y.told.history
  body_steady stage redo body was into refusal x y found is honest none going =
      let now = honest_back found.mid y.told (left_honest body.gone refusal (snapshot x.member found.mid) y found.leaves) honest in
      part_steady a.geometry body.gone refusal x y found.mid is.way.geometry
      (reads_beside_epochs x.member {slots = HasSlot found.live} {sectors = IsBodySector x.member.array.geometry redo} x.told.history found.mid.history
      (found.reads.ran now)) found.leaves is.way.epoch
      (λ j has. live_here x.member found.live found.are_live j (found.reads.live_gone j has)) honest none going

  pub gates_steady : (stage : Stage) (gate : List ℕ) (to : Slots) (refusal : Option FenceFault) (x y : Snapshot) → ((j : ℕ) → HasSlot to j → IsLiveIn x.member j)
      → DoesStage (gate_writes gate) to refusal x y → IsUnderWay a stage start x.member x.told.history → IsTrue y.told.honest
      → NothingReturned x.told.history y.told.history → ¬ IsTrue (stopped y.told.history) → AreSteady a.geometry y.told.history
  gates_steady stage gate to refusal x y live does way honest none going =
      part_steady a.geometry does.gone refusal x y does.mid way.geometry
      (gates_beside x.member gate to (HasSlot does.gone) x.told.history does.mid.history live
      (does.phase.placed (mid_honest (gate_writes gate) to refusal x y does honest))) does.leaves way.epoch
      (λ j has. let on = live j (does.phase.among j has) in record { below = on.below; why = inl on.why }) honest none going

  module _ (redoing : IsRedoing a) (stripe : Stripe)
      (cells : (i c : ℕ) → HasCell a.redo.cells i c → cell stripe i c ≡ cell (a.new a.redo.stripe) i c) where
    redo_steady : (stage : Stage) (refusal : Option FenceFault) (x z : Snapshot) → Redoes a.geometry a.redo stripe stage refusal x z
        → IsUnderWay a stage start x.member x.told.history → IsTrue z.told.honest → NothingReturned x.told.history z.told.history
        → ¬ IsTrue (stopped z.told.history) → AreSteady a.geometry z.told.history
    redo_steady _ _ _ _ (Redoes.Ends x) way honest none going =
        subst (λ (g : Geometry). AreSteady g x.told.history) (sym way.geometry) (λ j k inside place. way.epoch.begun.settled j k inside place)
    redo_steady _ _ _ _ (Redoes.Stops stage to fault x y not_done over does) way honest none going =
        part_steady a.geometry does.gone (Some fault) x y does.mid way.geometry
        (phase_beside a redoing x.member stage (HasSlot to) (over_alone x.member to stage over) {gone = HasSlot does.gone}
        (placed a redoing stripe cells start stage to (Some fault) x y over does honest)) does.leaves way.epoch
        (λ j has. over_here stage x.member to over j (does.phase.among j has)) honest none going
    redo_steady _ _ _ _ (Redoes.Goes stage to refusal x y z not_done over does more) way honest none going =
        let now : IsTrue y.told.honest = honest_first a.geometry a.redo stripe (next stage) refusal y z more honest in
        let later : Ran any_call y.told.history z.told.history = redo_ran a redoing stripe cells start (next stage) refusal y z more honest in
        let first =
        ran_join {allowed = any_call} (ran_any (phase_ran (placed a redoing stripe cells start stage to None x y over does now)))
        (out_ran does.gone None (snapshot x.member does.mid) y does.leaves now) in
        let to_y = moment_between {a = any_call} {b = any_call} first later in
        redo_steady (next stage) refusal y z more
        (phase a redoing stripe cells start stage to x y not_done over way does now (each_before none to_y)
        (λ stops. going (stopped_on {allowed = any_call} later stops))) honest (each_after none to_y) going

    pub replay_steady : (stage : Stage) (redo : Option Redo) (opened : Slots) (refusal : Option FenceFault) (x z : Snapshot)
        → Replays a.redo stripe opened refusal x z → IsRecovering a stage old_words new_words start x.member x.told.history
        → IsToldBy redo opened a stage start x.member x.told.history → ((stage ≡ Uncommitted) ⊎ (stage ≡ Placing)) → IsTrue z.told.honest
        → NothingReturned x.told.history z.told.history → ¬ IsTrue (stopped z.told.history) → AreSteady a.geometry z.told.history
    replay_steady stage redo opened _ _ _ (Replays.Stops to fault x y are does) is told at_stage honest none going =
        gates_steady stage (open_gate x.member.array.geometry a.redo) to (Some fault) x y (λ j has. ((are.are j).0 has).0) does is.way honest none going
    replay_steady stage redo opened _ _ _ (Replays.Goes to refusal x y z are does more) is told at_stage honest none going =
        let run : Redoes a.geometry a.redo stripe Placing refusal y z =
        subst (λ (g : Geometry). Redoes g a.redo stripe Placing refusal y z) (sym is.way.geometry) more in
        let opens : DoesStage (gate_writes (open_gate a.geometry a.redo)) to None x y =
        subst (λ (g : Geometry). DoesStage (gate_writes (open_gate g a.redo)) to None x y) (sym is.way.geometry) does in
        let now : IsTrue y.told.honest = honest_first a.geometry a.redo stripe Placing refusal y z run honest in
        let later : Ran any_call y.told.history z.told.history = redo_ran a redoing stripe cells start Placing refusal y z run honest in
        let first =
        ran_join {allowed = any_call}
        (ran_any (phase_ran (opens.phase.placed (mid_honest (gate_writes (open_gate a.geometry a.redo)) to None x y opens now))))
        (out_ran opens.gone None (snapshot x.member opens.mid) y opens.leaves now) in
        let to_y = moment_between {a = any_call} {b = any_call} first later in
        redo_steady Placing refusal y z run
        (opens_gates a stage old_words new_words start redo opened to x y is told redoing at_stage are opens now (each_before none to_y)
        (λ stops. going (stopped_on {allowed = any_call} later stops))) honest (each_after none to_y) going
