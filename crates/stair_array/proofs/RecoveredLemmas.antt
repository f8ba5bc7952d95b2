-- What an opening leads to, where no medium comes back.
use Rattle.std.proofs.Common.{◌≡◌, ℕ, List, inl, inr, refl, sym, ◌∙◌, subst, None, Option, Some}
use Rattle.std.specs.Prelude.{◌⊎◌, IsTrue, Result, Ok, Err}
use Rattle.stair_model.specs.CellSet.{HasCell}
use Rattle.stair_model.specs.Geometry.{Geometry}
use Rattle.stair_model.specs.Slots.{HasSlot, Slots, no_slots}
use Rattle.stair_model.specs.Stripe.{Stripe, cell}
use Rattle.stair_rack.specs.Answers.{Ran, any_call}
use Rattle.stair_rack.specs.History.{Happening, stopped}
use Rattle.stair_rack.specs.Moments.{IsMoment}
use Rattle.stair_rack.specs.Placed.{Writes}
use Rattle.stair_rack.specs.Reading.{IsReadOf}
use Rattle.stair_rack.specs.Stretch.{NothingReturned}
use Rattle.stair_rack.specs.RackState.{RackState}
use Rattle.stair_rack.proofs.KeepingLemmas.{phase_ran}
use Rattle.stair_rack.proofs.MomentLemmas.{moment_between, moment_last, moment_sooner, ran_any, ran_join, ran_none}
use Rattle.stair_rack.proofs.StretchLemmas.{each_after, each_before}
use Rattle.stair_member.specs.Asked.{LeavesSectors}
use Rattle.stair_member.specs.Epochs.{IsIssuing}
use Rattle.stair_member.specs.Establishing.{Fences}
use Rattle.stair_member.specs.Membership.{IsMembership, Membership}
use Rattle.stair_member.specs.Survey.{Surveys}
use Rattle.stair_member.specs.declared.fault.FenceFault.{FenceFault}
use Rattle.stair_member.proofs.AskedLemmas.{asked_ran}
use Rattle.stair_journal.specs.Bodies.{IsBodySector}
use Rattle.stair_journal.specs.Gate.{closed_gate}
use Rattle.stair_journal.specs.Journalling.{gate_writes}
use Rattle.stair_journal.specs.declared.body.Body.{Body}
use Rattle.stair_journal.specs.declared.redo.Redo.{Redo}
use Rattle.stair_state.specs.Blocks.{Codewords}
use Rattle.stair_state.specs.Redoing.{AtRest, Done, IsRedoing, Placing, Redoing, Stage, Uncommitted, next}
use Rattle.stair_state.specs.Represents.{Encodings, Represents}
use Rattle.stair_state.specs.State.{Content, State, without_seats}
use Rattle.stair_state.specs.Surveyed.{NamesContent}
use Rattle.stair_state.specs.Tolerance.{IsTolerated, ToleratedSince}
use Rattle.stair_invariant.specs.Effects.{DoesStage, FindsBody, FindsRedo, Snapshot, Redoes, Replays, snapshot}
use Rattle.stair_invariant.specs.InSession.{IsInSession}
use Rattle.stair_invariant.specs.Opening.{IsDecidedAs, IsFoundFor, IsOpening, IsRecovering, IsToldBy, StaysArray, opened_with}
use Rattle.stair_invariant.specs.SeatSteps.{EachMayDrop}
use Rattle.stair_invariant.specs.Session.{IsOpenWith, seats_in}
use Rattle.stair_invariant.specs.UnderWay.{IsUnderWay}
use Rattle.stair_invariant.proofs.DecidedLemmas.{decides, opens_as}
use Rattle.stair_invariant.proofs.FindsLemmas.{body_cells, body_recovering, body_told, body_whole, finds, found_ran}
use Rattle.stair_invariant.proofs.FirstEpochLemmas.{first_stood}
use Rattle.stair_invariant.proofs.HonestLemmas.{body_honest, found_honest, redo_honest, left_honest, mid_honest, replay_honest, stage_honest}
use Rattle.stair_invariant.proofs.OpenAmidLemmas.{opened_amid}
use Rattle.stair_invariant.proofs.OpenCourseLemmas.{body_lasts, finding_lasts, gates_last, replay_lasts}
use Rattle.stair_invariant.proofs.OpeningEndLemmas.{recovers}
use Rattle.stair_invariant.proofs.RecoveryEndLemmas.{body_represents, closing_represents, finding_represents, first_represents, goes_on, replay_represents}
use Rattle.stair_invariant.proofs.RedoingLemmas.{out_ran, way_opens}
use Rattle.stair_invariant.proofs.ReplayLemmas.{closes, replays, rest_opens}
use Rattle.stair_invariant.proofs.StageFoundLemmas.{first_among, last_among}
use Rattle.stair_invariant.proofs.StaysArrayLemmas.{body_stays, fence_stays, found_stays, replay_stays, stage_stays, stays_again}
use Rattle.stair_invariant.proofs.SurveyFoundLemmas.{found_for}
use Rattle.stair_array.specs.Calls.{answer_of, refused}
use Rattle.stair_array.specs.Machine.{Refusal}
use Rattle.stair_array.specs.Openings.{ClearsJournal, Recovers}

-- HONEST RACKS, and what was called

pub honest_then : (x y : RackState) → x.honest ≡ y.honest → IsTrue y.honest → IsTrue x.honest
honest_then x y same honest = subst IsTrue (sym same) honest

pub cleared_honest : (redo : Option Redo) (opened : Slots) (answer : Result Geometry Refusal) (x y : Snapshot) → ClearsJournal redo opened answer x y
    → x.told.honest ≡ y.told.honest
cleared_honest _ _ _ _ _ (ClearsJournal.Closes opened live refusal x y are does) = stage_honest (gate_writes closed_gate) live refusal x y does
cleared_honest _ _ _ _ _ (ClearsJournal.Stops redo opened body was stripe fault x y found) = body_honest redo body was stripe (Some fault) x y found
cleared_honest _ _ _ _ _ (ClearsJournal.BodyLost redo opened body was stripe sector x y found lost) = body_honest redo body was stripe None x y found
cleared_honest _ _ _ _ _ (ClearsJournal.Replayed redo opened body was stripe refusal x y z found whole run) =
    body_honest redo body was stripe None x y found ∙ replay_honest redo stripe opened refusal y z run

pub body_ran : (redo : Redo) (body : Body) (was into : Stripe) (refusal : Option FenceFault) (x y : Snapshot) → FindsBody redo body was into refusal x y
    → IsTrue y.told.honest → Ran any_call x.told.history y.told.history
body_ran redo body was into refusal x y found honest =
    let now = honest_then found.mid y.told (left_honest body.gone refusal (snapshot x.member found.mid) y found.leaves) honest in
    ran_join {allowed = any_call} (ran_any {allowed = IsReadOf (HasSlot found.live) (IsBodySector x.member.array.geometry redo)} (found.reads.ran now))
    (out_ran body.gone refusal (snapshot x.member found.mid) y found.leaves honest)

pub does_ran : (what : Writes) (to : Slots) (refusal : Option FenceFault) (x y : Snapshot) → DoesStage what to refusal x y → IsTrue y.told.honest
    → Ran any_call x.told.history y.told.history
does_ran what to refusal x y does honest =
    ran_join {allowed = any_call} (ran_any (phase_ran (does.phase.placed (mid_honest what to refusal x y does honest))))
    (out_ran does.gone refusal (snapshot x.member does.mid) y does.leaves honest)

pub redoes_ran : (g : Geometry) (redo : Redo) (stripe : Stripe) (stage : Stage) (refusal : Option FenceFault) (x z : Snapshot)
    → Redoes g redo stripe stage refusal x z → IsTrue z.told.honest → Ran any_call x.told.history z.told.history
redoes_ran g redo stripe _ _ _ _ (Redoes.Ends x) honest = ran_none {allowed = any_call} x.told.history
redoes_ran g redo stripe _ _ _ _ (Redoes.Goes stage to refusal x y z not_done over does more) honest =
    let now = honest_then y.told z.told (redo_honest g redo stripe (next stage) refusal y z more) honest in
    ran_join {allowed = any_call} (does_ran _ to None x y does now) (redoes_ran g redo stripe (next stage) refusal y z more honest)
redoes_ran g redo stripe _ _ _ _ (Redoes.Stops stage to fault x y not_done over does) honest = does_ran _ to (Some fault) x y does honest

pub replayed_ran : (redo : Redo) (stripe : Stripe) (opened : Slots) (refusal : Option FenceFault) (x z : Snapshot) → Replays redo stripe opened refusal x z
    → IsTrue z.told.honest → Ran any_call x.told.history z.told.history
replayed_ran redo stripe opened _ _ _ (Replays.Goes to refusal x y z are does more) honest =
    let now = honest_then y.told z.told (redo_honest _ redo stripe Placing refusal y z more) honest in
    ran_join {allowed = any_call} (does_ran _ to None x y does now) (redoes_ran _ redo stripe Placing refusal y z more honest)
replayed_ran redo stripe opened _ _ _ (Replays.Stops to fault x y are does) honest = does_ran _ to (Some fault) x y does honest

pub fence_ran : (m last : Membership) (answer : Result Slots FenceFault) (x y : RackState) → Fences no_slots m last answer x y → IsTrue y.honest
    → Ran any_call x.history y.history
fence_ran m last answer x y e honest =
    let issued = e.establishes.issued honest in ran_any {allowed = IsIssuing issued.slots issued.editions} issued.ran

pub cleared_ran : (redo : Option Redo) (opened : Slots) (answer : Result Geometry Refusal) (x y : Snapshot) → ClearsJournal redo opened answer x y
    → IsTrue y.told.honest → Ran any_call x.told.history y.told.history
cleared_ran _ _ _ _ _ (ClearsJournal.Closes opened live refusal x y are does) honest = does_ran (gate_writes closed_gate) live refusal x y does honest
cleared_ran _ _ _ _ _ (ClearsJournal.Stops redo opened body was stripe fault x y found) honest = body_ran redo body was stripe (Some fault) x y found honest
cleared_ran _ _ _ _ _ (ClearsJournal.BodyLost redo opened body was stripe sector x y found lost) honest =
    body_ran redo body was stripe None x y found honest
cleared_ran _ _ _ _ _ (ClearsJournal.Replayed redo opened body was stripe refusal x y z found whole run) honest =
    ran_join {allowed = any_call}
    (body_ran redo body was stripe None x y found (honest_then y.told z.told (replay_honest redo stripe opened refusal y z run) honest))
    (replayed_ran redo stripe opened refusal y z run honest)

-- WHAT IT DECIDES

-- The array was opened: it holds what the state held before or after the change in doubt.
pub record IsOpened (s : State) (m : Membership) (before : List Happening) (y : Snapshot) : Type 0 where
  pub words : Codewords
  pub content : Content
  pub decided : IsDecidedAs s y.member words content
  pub stands : Represents (record { geometry = s.geometry; content = content; in_doubt = None; seats = Some (seats_in y.member.array) }) y.told.history
  pub is_open : IsOpenWith before (opened_with y.member) words y.told.history
  pub opening : IsOpening before y
  pub geometry : s.geometry ≡ y.member.array.geometry
  pub seats : EachMayDrop (seats_in m.array) (seats_in y.member.array)

pub data Outcome (s : State) (m : Membership) (before : List Happening) : Result Geometry Refusal → Snapshot → Type 0 where
  Opens : (g : Geometry) (y : Snapshot) → g ≡ s.geometry → IsOpened s m before y → Outcome s m before (Ok g) y
  Refuses : (fault : FenceFault) (y : Snapshot) → Represents (without_seats s) y.told.history → Outcome s m before (Err (refused fault)) y

module _ (s : State) (before : List Happening) where
  -- within tolerance up to here, and nothing has come back
  abbrev pub Calm : List Happening → Type 0
  Calm h = ToleratedSince s.geometry before h × NothingReturned before h

  pub calm_then : (h k : List Happening) → IsMoment before h k → Calm k → Calm h
  calm_then h k at calm = (λ c c_at. calm.0 c (moment_sooner c_at at), each_before calm.1 at)

  pub calm_now : (h : List Happening) → Ran any_call before h → Calm h → IsTolerated s.geometry before h
  calm_now h ran calm = calm.0 h (moment_last ran.more ran.is)

  -- what is so at a point of the opening, once its first epoch stands
  pub record IsAt (m : Membership) (encodings : Encodings s) (a : Redoing) (stage : Stage) (start : List Happening) (u : Snapshot) : Type 0 where
    pub recovering : IsRecovering a stage encodings.old encodings.new start u.member u.told.history
    pub opening : IsOpening before u
    pub stays : StaysArray m u.member
    pub geometry : s.geometry ≡ u.member.array.geometry
    pub names : NamesContent s u.member.array

  module _ (m : Membership) (encodings : Encodings s) (same : s.geometry ≡ m.array.geometry) (content : NamesContent s m.array) where
    pub names_on : (u : Membership) → StaysArray m u → NamesContent s u.array
    names_on u stays = record {
      frozen = elim content.frozen [ inl is ↦ inl (stays.frozen ∙ is) | inr is ↦ inr (stays.frozen ∙ is) ];
      label = elim content.label [ inl is ↦ inl (stays.label ∙ is) | inr is ↦ inr (stays.label ∙ is) ];
    }

    pub is_at : (a : Redoing) (stage : Stage) (start : List Happening) (u : Snapshot)
        → IsRecovering a stage encodings.old encodings.new start u.member u.told.history → IsOpening before u → StaysArray m u.member
        → IsAt m encodings a stage start u
    is_at a stage start u recovering opening stays = record {
      recovering = recovering;
      opening = opening;
      stays = stays;
      geometry = same ∙ sym stays.geometry;
      names = names_on u.member stays;
    }

    -- the array was opened with these stripes
    opened_so : (y : Snapshot) (words : Codewords) → IsInSession y.member words y.told.history → IsOpening before y → StaysArray m y.member
        → ((words ≡ encodings.old) ⊎ (words ≡ encodings.new)) → Calm y.told.history → IsOpened s m before y
    opened_so y words session opening stays either calm =
        let ran : Ran any_call before y.told.history = opening.amid.ran in
        let tolerated = calm_now y.told.history ran calm in
        let decided = decides s encodings y.member words (names_on y.member stays) either in
        let opens =
        opens_as s before y words decided.0 opening session decided.1 (same ∙ sym stays.geometry) calm.1 tolerated
        (goes_on s before y.told.history tolerated) in
        record {
          words = words;
          content = decided.0;
          decided = decided.1;
          stands = opens.0;
          is_open = opens.1;
          opening = opening;
          geometry = same ∙ sym stays.geometry;
          seats = stays.seats;
        }

    -- FINDING A REDO

    pub record IsFoundAt (a : Redoing) (start : List Happening) (redo : Option Redo) (opened : Slots) (z : Snapshot) : Type 0 where
      pub stage : Stage
      pub at : IsAt m encodings a stage start z
      pub told : IsToldBy redo opened a stage start z.member z.told.history

    pub finding_at : (a : Redoing) (stage : Stage) (start : List Happening) (redo : Option Redo) (opened : Slots) (w z : Snapshot) → FindsRedo redo opened None w z
        → IsAt m encodings a stage start w → IsTrue z.told.honest → Calm z.told.history → IsFoundAt a start redo opened z
    finding_at a stage start redo opened w z found at honest calm =
        let ran : Ran any_call w.told.history z.told.history = found_ran redo opened None w z found honest in
        let all : Ran any_call before z.told.history = ran_join {allowed = any_call} at.opening.amid.ran ran in
        let tolerated = calm_now z.told.history all calm in
        let going = goes_on s before z.told.history tolerated in
        let stays = stays_again m w.member z.member at.stays (found_stays redo opened None w z found at.stays.rules) in
        let tells =
        finds a stage encodings.old encodings.new before start redo opened None w z found refl at.recovering honest
        (each_after calm.1 (moment_between {a = any_call} {b = any_call} at.opening.amid.ran ran)) going
        (subst (λ (g : Geometry). IsTolerated g before z.told.history) (same ∙ sym stays.geometry) tolerated) in
        record {
          stage = tells.stage;
          at =
              is_at a tells.stage start z tells.recovering
              (finding_lasts before redo opened None w z found refl honest calm.1 going at.opening) stays;
          told = tells.told;
        }

    -- ITS BODY

    -- a redo that was found, and its body was read
    pub record IsReadAt (a : Redoing) (start : List Happening) (redo : Redo) (opened : Slots) (stripe : Stripe) (y : Snapshot) : Type 0 where
      pub stage : Stage
      pub at : IsAt m encodings a stage start y
      pub told : IsToldBy (Some redo) opened a stage start y.member y.told.history
      pub same_redo : redo ≡ a.redo
      pub redoing : IsRedoing a
      pub going : (stage ≡ Uncommitted) ⊎ (stage ≡ Placing)
      pub cells : (i c : ℕ) → HasCell a.redo.cells i c → cell stripe i c ≡ cell (a.new a.redo.stripe) i c

    pub body_at : (a : Redoing) (start : List Happening) (redo : Redo) (opened : Slots) (body : Body) (was stripe : Stripe) (x y : Snapshot)
        → FindsBody redo body was stripe None x y → body.unread ≡ None → IsFoundAt a start (Some redo) opened x → IsTrue y.told.honest
        → Calm y.told.history → IsReadAt a start redo opened stripe y
    body_at a start redo opened body was stripe x y found read is honest calm =
        let told = is.told.some redo refl in
        let mine : FindsBody a.redo body was stripe None x y = subst (λ (r : Redo). FindsBody r body was stripe None x y) told.0 found in
        let ran : Ran any_call x.told.history y.told.history = body_ran redo body was stripe None x y found honest in
        let going =
        goes_on s before y.told.history (calm_now y.told.history (ran_join {allowed = any_call} is.at.opening.amid.ran ran) calm) in
        let none = each_after calm.1 (moment_between {a = any_call} {b = any_call} is.at.opening.amid.ran ran) in
        record {
          stage = is.stage;
          at =
              is_at a is.stage start y
              (body_recovering a is.stage encodings.old encodings.new before start body was stripe x y mine is.at.recovering told.1 told.2 honest none going)
              (body_lasts before a.redo body was stripe x y mine honest calm.1 going is.at.opening)
              (stays_again m x.member y.member is.at.stays (body_stays redo body was stripe None x y found is.at.stays.rules));
          told =
              body_told a is.stage encodings.old encodings.new before start body was stripe x y mine is.at.recovering told.1 told.2 honest none going
              (Some redo) opened is.told;
          same_redo = told.0;
          redoing = told.1;
          going = told.2;
          cells =
              body_cells a is.stage encodings.old encodings.new before start body was stripe x y mine is.at.recovering told.1 told.2 honest none going read;
        }

    -- CLEARING THE JOURNAL

    module _ (a : Redoing) (start : List Happening) where
      clearing : (redo : Option Redo) (opened : Slots) (answer : Result Geometry Refusal) (z y : Snapshot) → ClearsJournal redo opened answer z y
          → IsFoundAt a start redo opened z → IsTrue y.told.honest → Calm y.told.history → Outcome s m before answer y
      clearing _ _ _ _ _ (ClearsJournal.Closes opened live None x y are does) is honest calm =
          let rests : is.stage ≡ AtRest = is.told.none refl in
          let ran : Ran any_call x.told.history y.told.history = does_ran (gate_writes closed_gate) live None x y does honest in
          let all : Ran any_call before y.told.history = ran_join {allowed = any_call} is.at.opening.amid.ran ran in
          let going = goes_on s before y.told.history (calm_now y.told.history all calm) in
          let none = each_after calm.1 (moment_between {a = any_call} {b = any_call} is.at.opening.amid.ran ran) in
          let way : IsUnderWay a AtRest start x.member x.told.history =
          subst (λ (now : Stage). IsUnderWay a now start x.member x.told.history) rests is.at.recovering.way in
          let ends : IsUnderWay a AtRest start y.member y.told.history = closes a start live x y are does way honest none going in
          Opens x.member.array.geometry y (sym is.at.geometry)
          (opened_so y a.old (rest_opens a start y.member y.told.history ends)
          (gates_last before closed_gate live x y (λ j has. (are.are j).0 has) does honest calm.1 going is.at.opening)
          (stays_again m x.member y.member is.at.stays (stage_stays (gate_writes closed_gate) live None x y does is.at.stays.rules))
          (first_among is.at.recovering.words) calm)
      clearing _ _ _ _ _ (ClearsJournal.Closes opened live (Some fault) x y are does) is honest calm =
          let ran : Ran any_call x.told.history y.told.history = does_ran (gate_writes closed_gate) live (Some fault) x y does honest in
          let all : Ran any_call before y.told.history = ran_join {allowed = any_call} is.at.opening.amid.ran ran in
          Refuses fault y
          (closing_represents s encodings a is.stage start before x y is.at.recovering is.at.geometry is.at.names honest
          (each_after calm.1 (moment_between {a = any_call} {b = any_call} is.at.opening.amid.ran ran)) (calm_now y.told.history all calm) (is.told.none refl)
          live (Some fault) are does)
      clearing _ _ _ _ _ (ClearsJournal.Stops redo opened body was stripe fault x y found) is honest calm =
          let ran : Ran any_call x.told.history y.told.history = body_ran redo body was stripe (Some fault) x y found honest in
          let all : Ran any_call before y.told.history = ran_join {allowed = any_call} is.at.opening.amid.ran ran in
          Refuses fault y
          (body_represents s encodings a is.stage start before x y is.at.recovering is.at.geometry is.at.names honest
          (each_after calm.1 (moment_between {a = any_call} {b = any_call} is.at.opening.amid.ran ran)) (calm_now y.told.history all calm) redo body was
          stripe (Some fault) found)
      clearing _ _ _ _ _ (ClearsJournal.BodyLost redo opened body was stripe sector x y found lost) is honest calm =
          let told = is.told.some redo refl in
          let ran : Ran any_call x.told.history y.told.history = body_ran redo body was stripe None x y found honest in
          let all : Ran any_call before y.told.history = ran_join {allowed = any_call} is.at.opening.amid.ran ran in
          let tolerated = calm_now y.told.history all calm in
          let stays = stays_again m x.member y.member is.at.stays (body_stays redo body was stripe None x y found is.at.stays.rules) in
          let whole : body.unread ≡ None =
          body_whole a is.stage encodings.old encodings.new before start body was stripe x y
          (subst (λ (r : Redo). FindsBody r body was stripe None x y) told.0 found) is.at.recovering told.1 told.2 honest
          (each_after calm.1 (moment_between {a = any_call} {b = any_call} is.at.opening.amid.ran ran)) (goes_on s before y.told.history tolerated)
          (subst (λ (g : Geometry). IsTolerated g before y.told.history) (same ∙ sym stays.geometry) tolerated) in
          let never : None ≡ Some sector = sym whole ∙ lost in absurd (cc)
      clearing _ _ _ _ _ (ClearsJournal.Replayed redo opened body was stripe refusal x y z found read run) is honest calm =
          by refusal again
        where
          honest_y : IsTrue y.told.honest
          honest_y = honest_then y.told z.told (replay_honest redo stripe opened refusal y z run) honest

          upto : Ran any_call before y.told.history
          upto = ran_join {allowed = any_call} is.at.opening.amid.ran (body_ran redo body was stripe None x y found honest_y)

          second : Ran any_call y.told.history z.told.history
          second = replayed_ran redo stripe opened refusal y z run honest

          to_y : IsMoment before y.told.history z.told.history
          to_y = moment_between {a = any_call} {b = any_call} upto second

          now : IsReadAt a start redo opened stripe y
          now = body_at a start redo opened body was stripe x y found read is honest_y (calm_then y.told.history z.told.history to_y calm)

          again : Replays a.redo stripe opened refusal y z
          again = subst (λ (r : Redo). Replays r stripe opened refusal y z) now.same_redo run

          tolerated : IsTolerated s.geometry before z.told.history
          tolerated = calm_now z.told.history (ran_join {allowed = any_call} upto second) calm

          going : ¬ IsTrue (stopped z.told.history)
          going = goes_on s before z.told.history tolerated

          by : (refusal : Option FenceFault) → Replays a.redo stripe opened refusal y z → Outcome s m before (answer_of x.member.array.geometry refusal) z
          by (Some fault) again =
              Refuses fault z
              (replay_represents s encodings a now.stage start before y z now.at.recovering now.at.geometry now.at.names honest (each_after calm.1 to_y) tolerated
              (Some redo) opened stripe (Some fault) now.told now.redoing now.going now.cells again)
          by None again =
              let ends : IsUnderWay a Done start z.member z.told.history =
              replays a now.stage encodings.old encodings.new start (Some redo) opened stripe None y z now.at.recovering now.told now.redoing now.going now.cells
              again refl honest (each_after calm.1 to_y) going in
              Opens x.member.array.geometry z (sym is.at.geometry)
              (opened_so z a.new (way_opens a start z.member z.told.history ends)
              (replay_lasts before a now.redoing stripe now.cells start opened None y z again refl now.at.recovering.way.geometry honest calm.1 going
              now.at.opening)
              (stays_again m y.member z.member now.at.stays (replay_stays a.redo stripe opened None y z again now.at.stays.rules))
              (last_among is.at.recovering.words) calm)

-- AN OPENING, of an array that a survey found

-- what a survey found at its end, in the session that it began
pub record IsSurveyed (s : State) (before : List Happening) (u : Snapshot) : Type 0 where
  pub rules : IsMembership u.member
  pub ran : Ran any_call before u.told.history
  pub found : Calm s before u.told.history → IsFoundFor s u.member before before u.told.history

pub surveyed : (s : State) (first : RackState) (u : Snapshot) → Surveys (Ok u.member) first u.told → IsMembership u.member → Represents s first.history
    → IsTrue u.told.honest → IsSurveyed s first.history u
surveyed s first u surveys rules stands honest = record {
  rules = rules;
  ran = ran_any {allowed = LeavesSectors} (asked_ran 32 first.history u.told.history (surveys.asked honest));
  found = λ calm.
      found_for s first.history first u.told (Ok u.member) u.member surveys honest (ran_none {allowed = any_call} first.history) stands calm.1 calm.0 rules refl;
}

module _ (s : State) (before : List Happening) where
  -- once its first epoch stands
  pub record IsRecoveredAt (m : Membership) (encodings : Encodings s) (w : Snapshot) : Type 0 where
    pub redoing : Redoing
    pub stage : Stage
    pub at : IsAt s before m encodings redoing stage w.told.history w

  pub fence_at : (u w : Snapshot) (fallen : Slots) → IsSurveyed s before u → (f : IsFoundFor s u.member before before u.told.history)
      → Fences no_slots u.member w.member (Ok fallen) u.told w.told → IsTrue w.told.honest → Calm s before w.told.history
      → IsRecoveredAt u.member f.represents.encodings w
  fence_at u w fallen is f e honest calm =
      let ran : Ran any_call u.told.history w.told.history = fence_ran u.member w.member (Ok fallen) u.told w.told e honest in
      let all : Ran any_call before w.told.history = ran_join {allowed = any_call} is.ran ran in
      let tolerated = calm_now s before w.told.history all calm in
      let going = goes_on s before w.told.history tolerated in
      let stood =
      first_stood u.member w.member fallen u.told w.told e f.begun honest (each_after calm.1 (moment_between {a = any_call} {b = any_call} is.ran ran)) in
      let stays = fence_stays no_slots u w (Ok fallen) e is.rules in
      let recovered =
      recovers s u.member w.member before before u.told.history w.told.history f stood.0 stood.1 going
      (subst (λ (g : Geometry). IsTolerated g before w.told.history) (f.geometry ∙ sym stays.geometry) tolerated) in
      record {
        redoing = recovered.0;
        stage = recovered.1;
        at =
            is_at s before u.member f.represents.encodings f.geometry f.content recovered.0 recovered.1 w.told.history w recovered.2
            (record {
              amid = opened_amid s u.member w.member before before u.told.history w.told.history f stood.0 stood.1 going;
              begun = recovered.2.way.epoch.begun;
            }) stays;
      }

  -- What it comes to.
  pub outcome : (answer : Result Geometry Refusal) (u v : Snapshot) → Recovers answer u v → IsSurveyed s before u → IsTrue v.told.honest
      → Calm s before v.told.history → Outcome s u.member before answer v
  outcome _ _ _ (Recovers.NoEpoch fault x y e) is honest calm =
      let ran : Ran any_call x.told.history y.told.history = fence_ran x.member y.member (Err fault) x.told y.told e honest in
      let all : Ran any_call before y.told.history = ran_join {allowed = any_call} is.ran ran in
      let at = moment_between {a = any_call} {b = any_call} is.ran ran in
      let f = is.found (calm_then s before x.told.history y.told.history at calm) in
      Refuses fault y
      (first_represents s x.member y.member (Err fault) before before x.told y.told f e honest (each_after calm.1 at)
      (calm_now s before y.told.history all calm))
  outcome _ _ _ (Recovers.Stops fallen opened redo fault x y z e found) is honest calm =
      let honest_y = honest_then y.told z.told (found_honest redo opened (Some fault) y z found) honest in
      let first : Ran any_call x.told.history y.told.history = fence_ran x.member y.member (Ok fallen) x.told y.told e honest_y in
      let upto : Ran any_call before y.told.history = ran_join {allowed = any_call} is.ran first in
      let second : Ran any_call y.told.history z.told.history = found_ran redo opened (Some fault) y z found honest in
      let to_y = moment_between {a = any_call} {b = any_call} upto second in
      let calm_y = calm_then s before y.told.history z.told.history to_y calm in
      let calm_x = calm_then s before x.told.history y.told.history (moment_between {a = any_call} {b = any_call} is.ran first) calm_y in
      let f = is.found calm_x in
      let now = fence_at x y fallen is f e honest_y calm_y in
      Refuses fault z
      (finding_represents s f.represents.encodings now.redoing now.stage y.told.history before y z now.at.recovering now.at.geometry now.at.names honest
      (each_after calm.1 to_y) (calm_now s before z.told.history (ran_join {allowed = any_call} upto second) calm) redo opened (Some fault) found)
  outcome _ _ _ (Recovers.Goes fallen opened redo answer x y z w e found clears) is honest calm =
      let honest_z = honest_then z.told w.told (cleared_honest redo opened answer z w clears) honest in
      let honest_y = honest_then y.told z.told (found_honest redo opened None y z found) honest_z in
      let first : Ran any_call x.told.history y.told.history = fence_ran x.member y.member (Ok fallen) x.told y.told e honest_y in
      let upto : Ran any_call before y.told.history = ran_join {allowed = any_call} is.ran first in
      let second : Ran any_call y.told.history z.told.history = found_ran redo opened None y z found honest_z in
      let third : Ran any_call z.told.history w.told.history = cleared_ran redo opened answer z w clears honest in
      let calm_z =
      calm_then s before z.told.history w.told.history
      (moment_between {a = any_call} {b = any_call} (ran_join {allowed = any_call} upto second) third) calm in
      let calm_y = calm_then s before y.told.history z.told.history (moment_between {a = any_call} {b = any_call} upto second) calm_z in
      let calm_x = calm_then s before x.told.history y.told.history (moment_between {a = any_call} {b = any_call} is.ran first) calm_y in
      let f = is.found calm_x in
      let now = fence_at x y fallen is f e honest_y calm_y in
      clearing s before x.member f.represents.encodings f.geometry f.content now.redoing y.told.history redo opened answer z w clears
      (finding_at s before x.member f.represents.encodings f.geometry f.content now.redoing now.stage y.told.history redo opened y z found now.at honest_z
      calm_z) honest calm
