-- What lasts in the midst of a redo is led on by the parts of a recovery, and with the stripes it is the record of an open array.
use Rattle.std.proofs.Common.{◌≡◌, ℕ, ◌<◌, List, refl, sym, subst, None, Option}
use Rattle.std.specs.Prelude.{IsTrue}
use Rattle.stair_model.specs.CellSet.{HasCell}
use Rattle.stair_model.specs.Geometry.{Geometry}
use Rattle.stair_model.specs.Slots.{HasSlot, Slots}
use Rattle.stair_model.specs.Stripe.{Stripe, cell}
use Rattle.stair_rack.specs.Answers.{Ran, any_call}
use Rattle.stair_rack.specs.History.{Happening, stopped}
use Rattle.stair_rack.specs.Reading.{IsReadOf}
use Rattle.stair_rack.specs.Stretch.{NothingReturned}
use Rattle.stair_rack.specs.RackState.{RackState}
use Rattle.stair_rack.proofs.KeepingLemmas.{phase_ran}
use Rattle.stair_rack.proofs.MomentLemmas.{moment_between, ran_any, ran_join}
use Rattle.stair_rack.proofs.OfflineLemmas.{stopped_on}
use Rattle.stair_rack.proofs.StretchLemmas.{each_before}
use Rattle.stair_member.specs.Membership.{Membership}
use Rattle.stair_member.specs.declared.fault.FenceFault.{FenceFault}
use Rattle.stair_journal.specs.Bodies.{IsBodySector}
use Rattle.stair_journal.specs.Gate.{open_gate}
use Rattle.stair_journal.specs.Gates.{IsGateSector}
use Rattle.stair_journal.specs.Journalling.{gate_writes}
use Rattle.stair_journal.specs.declared.body.Body.{Body}
use Rattle.stair_journal.specs.declared.redo.Redo.{Redo}
use Rattle.stair_state.specs.Blocks.{Codewords}
use Rattle.stair_state.specs.Redoing.{IsRedoing, Placing, Redoing, Stage, next}
use Rattle.stair_invariant.specs.Effects.{DoesStage, FindsBody, FindsRedo, FencesGone, Snapshot, Redoes, Replays, snapshot}
use Rattle.stair_invariant.specs.InSession.{IsBesideEpochs, IsInSession}
use Rattle.stair_invariant.specs.Leading.{IsOpenAmid}
use Rattle.stair_invariant.specs.Opening.{IsOpening, opened_with}
use Rattle.stair_invariant.specs.Session.{IsLiveIn, IsOpenWith}
use Rattle.stair_invariant.proofs.FencesLemmas.{leaves_amid}
use Rattle.stair_invariant.proofs.FindsLemmas.{found_ran, honest_back, live_here}
use Rattle.stair_invariant.proofs.HonestLemmas.{found_honest, honest_first, left_honest, mid_honest}
use Rattle.stair_invariant.proofs.OpenWithLemmas.{beside_amid, ends_with}
use Rattle.stair_invariant.proofs.ReadOnLemmas.{reads_beside_epochs}
use Rattle.stair_invariant.proofs.RedoingLemmas.{out_ran, over_here, placed, redo_ran}
use Rattle.stair_invariant.proofs.ReplayLemmas.{gates_beside}
use Rattle.stair_invariant.proofs.StageBesideLemmas.{over_alone, phase_beside}

module _ (before : List Happening) where
  -- CALLS BESIDE THE EPOCHS, and what is left out after them

  module _ (gone : Slots) (x y : Snapshot) (mid : RackState) (ran : Ran (IsBesideEpochs x.member) x.told.history mid.history)
      (leaves : FencesGone gone None (snapshot x.member mid) y) (below : (j : ℕ) → HasSlot gone j → j < x.member.array.geometry.n)
      (honest : IsTrue y.told.honest) (none : NothingReturned before y.told.history) (going : ¬ IsTrue (stopped y.told.history)) where
    later : Ran any_call mid.history y.told.history
    later = out_ran gone None (snapshot x.member mid) y leaves honest

    pub part_lasts : IsOpening before x → IsOpening before y
    part_lasts is =
        let within =
        moment_between {a = any_call} {b = any_call}
        (ran_join {allowed = any_call} is.amid.ran (ran_any {allowed = IsBesideEpochs x.member} ran)) later in
        let at_mid =
        beside_amid before (opened_with x.member) x.told.history mid.history is.amid is.begun ran (each_before none within)
        (λ stops. going (stopped_on {allowed = any_call} later stops)) in
        let at_end = leaves_amid gone before (opened_with x.member) mid y leaves honest below at_mid.1 none going at_mid.0 in
        record { amid = at_end.0; begun = at_end.1 }

  -- FINDING A REDO, and its body

  pub finding_lasts : (redo : Option Redo) (opened : Slots) (refusal : Option FenceFault) (x z : Snapshot) → FindsRedo redo opened refusal x z
      → refusal ≡ None → IsTrue z.told.honest → NothingReturned before z.told.history → ¬ IsTrue (stopped z.told.history) → IsOpening before x → IsOpening before z
  finding_lasts _ _ _ _ _ (FindsRedo.Found gates live mid x are reads gone) fine honest none going is =
      part_lasts gates.gone x (snapshot x.member mid) mid
      (reads_beside_epochs x.member {slots = HasSlot live} {sectors = IsGateSector} x.told.history mid.history (reads.ran honest))
      (FencesGone.NoneWas gone refl refl) (λ j has. (live_here x.member live are j (reads.live_gone j has)).below) honest none going is
  finding_lasts _ _ _ _ _ (FindsRedo.Stops gates live mid redo opened fault x y are reads leaves) fine honest none going is = absurd (cc)
  finding_lasts _ _ _ _ _ (FindsRedo.Again gates live mid redo opened refusal j x y z are reads gone leaves rest) fine honest none going is =
      let after : IsTrue y.told.honest = honest_back y.told z.told (found_honest redo opened refusal y z rest) honest in
      let now : IsTrue mid.honest = honest_back mid y.told (left_honest gates.gone None (snapshot x.member mid) y leaves) after in
      let later : Ran any_call y.told.history z.told.history = found_ran redo opened refusal y z rest honest in
      let so_far : Ran any_call before y.told.history =
      ran_join {allowed = any_call} is.amid.ran
      (ran_join {allowed = any_call} (ran_any {allowed = IsReadOf (HasSlot live) IsGateSector} (reads.ran now))
      (out_ran gates.gone None (snapshot x.member mid) y leaves after)) in
      let to_y = moment_between {a = any_call} {b = any_call} so_far later in
      finding_lasts redo opened refusal y z rest fine honest none going
      (part_lasts gates.gone x y mid
      (reads_beside_epochs x.member {slots = HasSlot live} {sectors = IsGateSector} x.told.history mid.history (reads.ran now)) leaves
      (λ i has. (live_here x.member live are i (reads.live_gone i has)).below) after (each_before none to_y)
      (λ stops. going (stopped_on {allowed = any_call} later stops)) is)

  pub body_lasts : (redo : Redo) (body : Body) (was into : Stripe) (x y : Snapshot) → FindsBody redo body was into None x y → IsTrue y.told.honest
      → NothingReturned before y.told.history → ¬ IsTrue (stopped y.told.history) → IsOpening before x → IsOpening before y
  body_lasts redo body was into x y found honest none going is =
      let now = honest_back found.mid y.told (left_honest body.gone None (snapshot x.member found.mid) y found.leaves) honest in
      part_lasts body.gone x y found.mid
      (reads_beside_epochs x.member {slots = HasSlot found.live} {sectors = IsBodySector x.member.array.geometry redo} x.told.history found.mid.history
      (found.reads.ran now)) found.leaves (λ j has. (live_here x.member found.live found.are_live j (found.reads.live_gone j has)).below) honest none going is

  -- GATES of live slots

  pub gates_last : (gate : List ℕ) (to : Slots) (x y : Snapshot) → ((j : ℕ) → HasSlot to j → IsLiveIn x.member j)
      → DoesStage (gate_writes gate) to None x y → IsTrue y.told.honest → NothingReturned before y.told.history → ¬ IsTrue (stopped y.told.history)
      → IsOpening before x → IsOpening before y
  gates_last gate to x y live does honest none going is =
      part_lasts does.gone x y does.mid
      (gates_beside x.member gate to (HasSlot does.gone) x.told.history does.mid.history live
      (does.phase.placed (mid_honest (gate_writes gate) to None x y does honest))) does.leaves
      (λ j has. (live j (does.phase.among j has)).below) honest none going is

  -- A REDO

  module _ (a : Redoing) (redoing : IsRedoing a) (stripe : Stripe)
      (cells : (i c : ℕ) → HasCell a.redo.cells i c → cell stripe i c ≡ cell (a.new a.redo.stripe) i c) (start : List Happening) where
    redo_lasts : (stage : Stage) (refusal : Option FenceFault) (x z : Snapshot) → Redoes a.geometry a.redo stripe stage refusal x z → refusal ≡ None
        → IsTrue z.told.honest → NothingReturned before z.told.history → ¬ IsTrue (stopped z.told.history) → IsOpening before x → IsOpening before z
    redo_lasts _ _ _ _ (Redoes.Ends x) fine honest none going is = is
    redo_lasts _ _ _ _ (Redoes.Stops stage to fault x y not_done over does) fine honest none going is = absurd (cc)
    redo_lasts _ _ _ _ (Redoes.Goes stage to refusal x y z not_done over does more) fine honest none going is =
        let now : IsTrue y.told.honest = honest_first a.geometry a.redo stripe (next stage) refusal y z more honest in
        let later : Ran any_call y.told.history z.told.history = redo_ran a redoing stripe cells start (next stage) refusal y z more honest in
        let phase = placed a redoing stripe cells start stage to None x y over does now in
        let so_far : Ran any_call before y.told.history =
        ran_join {allowed = any_call} is.amid.ran
        (ran_join {allowed = any_call} (ran_any (phase_ran phase)) (out_ran does.gone None (snapshot x.member does.mid) y does.leaves now)) in
        let to_y = moment_between {a = any_call} {b = any_call} so_far later in
        redo_lasts (next stage) refusal y z more fine honest none going
        (part_lasts does.gone x y does.mid
        (phase_beside a redoing x.member stage (HasSlot to) (over_alone x.member to stage over) {gone = HasSlot does.gone} phase) does.leaves
        (λ j has. (over_here stage x.member to over j (does.phase.among j has)).below) now (each_before none to_y)
        (λ stops. going (stopped_on {allowed = any_call} later stops)) is)

    -- done again
    pub replay_lasts : (opened : Slots) (refusal : Option FenceFault) (x z : Snapshot) → Replays a.redo stripe opened refusal x z → refusal ≡ None
        → a.geometry ≡ x.member.array.geometry → IsTrue z.told.honest → NothingReturned before z.told.history → ¬ IsTrue (stopped z.told.history)
        → IsOpening before x → IsOpening before z
    replay_lasts opened _ _ _ (Replays.Stops to fault x y are does) fine same honest none going is = absurd (cc)
    replay_lasts opened _ _ _ (Replays.Goes to refusal x y z are does more) fine same honest none going is =
        let run : Redoes a.geometry a.redo stripe Placing refusal y z =
        subst (λ (g : Geometry). Redoes g a.redo stripe Placing refusal y z) (sym same) more in
        let gate : List ℕ = open_gate x.member.array.geometry a.redo in
        let now : IsTrue y.told.honest = honest_first a.geometry a.redo stripe Placing refusal y z run honest in
        let later : Ran any_call y.told.history z.told.history = redo_ran a redoing stripe cells start Placing refusal y z run honest in
        let so_far : Ran any_call before y.told.history =
        ran_join {allowed = any_call} is.amid.ran
        (ran_join {allowed = any_call}
        (ran_any (phase_ran (does.phase.placed (mid_honest (gate_writes (open_gate x.member.array.geometry a.redo)) to None x y does now))))
        (out_ran does.gone None (snapshot x.member does.mid) y does.leaves now)) in
        let to_y = moment_between {a = any_call} {b = any_call} so_far later in
        redo_lasts Placing refusal y z run fine honest none going
        (gates_last (open_gate x.member.array.geometry a.redo) to x y (λ j has. ((are.are j).0 has).0) does now (each_before none to_y)
        (λ stops. going (stopped_on {allowed = any_call} later stops)) is)

  -- THE END

  -- With the stripes of its session it is the record of an open array.
  pub opens_with : (m : Membership) (words : Codewords) (h : List Happening) → IsOpenAmid before (opened_with m) h → IsInSession m words h
      → IsOpenWith before (opened_with m) words h
  opens_with m words h amid is =
      ends_with before (opened_with m) words h amid (λ j live on. is.live j live.below live.why on) (λ rebuild never. absurd (cc))
