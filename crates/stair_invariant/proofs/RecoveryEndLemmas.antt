-- At the end of a recovery's parts, refused or not, the rack represents the state that it represented, with the change in doubt as
-- it was.
use Rattle.std.proofs.Common.{◌≡◌, ℕ, List, [], ◌∷◌, sym, ◌∙◌, subst, true≢false, Option, Some}
use Rattle.std.specs.Prelude.{◌⊎◌, IsTrue, Result}
use Rattle.stair_model.specs.CellSet.{HasCell}
use Rattle.stair_model.specs.Geometry.{Geometry, IsWithinLimits}
use Rattle.stair_model.specs.Slots.{HasSlot, Slots, no_slots}
use Rattle.stair_model.specs.Stripe.{Stripe, cell}
use Rattle.stair_rack.specs.Answers.{IsHistory, Ran, any_call}
use Rattle.stair_rack.specs.Crash.{EachImage, image_now}
use Rattle.stair_rack.specs.History.{Happening, Made, stopped}
use Rattle.stair_rack.specs.Moments.{AtEveryMoment, IsMoment}
use Rattle.stair_rack.specs.Offline.{RackStopped}
use Rattle.stair_rack.specs.Stretch.{NothingReturned}
use Rattle.stair_rack.proofs.CrashLemmas.{CrashMayLeave-now}
use Rattle.stair_rack.proofs.KeepingLemmas.{phase_ran}
use Rattle.stair_rack.proofs.MomentLemmas.{at_last, moment_last, ran_any, ran_join}
use Rattle.stair_rack.proofs.TidyLemmas.{history_on}
use Rattle.stair_member.specs.declared.fault.FenceFault.{FenceFault}
use Rattle.stair_member.proofs.SuperLemmas.{counts_limits}
use Rattle.stair_journal.specs.Bodies.{IsBodySector}
use Rattle.stair_journal.specs.Gate.{closed_gate}
use Rattle.stair_journal.specs.Journalling.{gate_writes}
use Rattle.stair_journal.specs.declared.body.Body.{Body}
use Rattle.stair_journal.specs.declared.redo.Redo.{Redo}
use Rattle.stair_rack.specs.Reading.{IsReadOf}
use Rattle.stair_model.proofs.SetLaws.{has_slot-none}
use Rattle.stair_rack.specs.RackState.{RackState}
use Rattle.stair_member.specs.Epochs.{IsIssuing}
use Rattle.stair_member.specs.Establishing.{Fences}
use Rattle.stair_member.specs.Membership.{Membership}
use Rattle.stair_state.specs.Redoing.{AtRest, IsRedoing, Placing, Redoing, Stage, Uncommitted}
use Rattle.stair_state.specs.Represents.{AreSteady, Encodings, Represents, RepresentsAlone}
use Rattle.stair_state.specs.State.{State, without_seats}
use Rattle.stair_state.specs.Surveyed.{NamesContent}
use Rattle.stair_state.specs.Tolerance.{IsTolerated, IsToleratedAlone}
use Rattle.stair_state.proofs.AloneLemmas.{encodings_without_seats, image_without_seats}
use Rattle.stair_state.proofs.OutsideLemmas.{tolerated_alone}
use Rattle.stair_invariant.specs.Effects.{AreLive, DoesStage, FindsBody, FindsRedo, Snapshot, Replays, snapshot}
use Rattle.stair_invariant.specs.Opening.{IsFoundFor, IsRecovering, IsToldBy, StandsWithin}
use Rattle.stair_invariant.specs.Session.{seats_in}
use Rattle.stair_invariant.proofs.CameLemmas.{left_by}
use Rattle.stair_invariant.proofs.FirstEpochLemmas.{first_fencing}
use Rattle.stair_invariant.proofs.FirstFenceLemmas.{first_fence}
use Rattle.stair_invariant.proofs.EachAloneLemmas.{each_alone}
use Rattle.stair_invariant.proofs.FindsLemmas.{found_ran, honest_back}
use Rattle.stair_invariant.proofs.HonestLemmas.{left_honest, mid_honest}
use Rattle.stair_invariant.proofs.RedoingLemmas.{out_ran}
use Rattle.stair_invariant.proofs.ReplayLemmas.{replay_ran}
use Rattle.stair_invariant.proofs.StandsWithinLemmas.{body_stands, closing_stands, finding_stands, replay_stands}
use Rattle.stair_invariant.proofs.SteadyEndLemmas.{body_steady, fence_steady, finding_steady, gates_steady, replay_steady}

-- seats aside it represents what it represents with them
pub without : (s : State) (h : List Happening) → Represents s h → Represents (without_seats s) h
without s h is = record {
  encodings = encodings_without_seats s is.encodings;
  each = λ image of. image_without_seats s is.encodings image (is.each image of);
  orderly = is.orderly;
  shrinks = is.shrinks;
  seats = tt;
  steady = is.steady;
}

pub goes_on : (s : State) (before h : List Happening) → IsTolerated s.geometry before h → ¬ IsTrue (stopped h)
goes_on s before h tolerated stops = (tolerated (image_now h) (CrashMayLeave-now h)).journal.serves.online (RackStopped stops)

-- what whatever a crash leaves represents by itself the rack does, where nothing is unsynced in superblock places
pub represents_in_the_end : (s : State) (before h : List Happening) → EachImage (λ image. (tolerated : IsToleratedAlone s.geometry image)
    → RepresentsAlone (record s { seats = Some (seats_in tolerated.current.array) }) image) h
    → IsHistory h → IsTolerated s.geometry before h → AreSteady s.geometry h → Represents (without_seats s) h
represents_in_the_end s before h stands history tolerated steady =
    each_alone (without_seats s) before h limits history tolerated steady
    (λ image left.
    let alone = tolerated_alone s.geometry before h image tolerated left in
    without (record s { seats = Some (seats_in alone.current.array) }) (Made image ∷ []) (stands image left alone))
  where
    limits : IsWithinLimits s.geometry
    limits =
        let now = tolerated (image_now h) (CrashMayLeave-now h) in
        counts_limits s.geometry (image_now h) now.current.slot now.current now.is_current.counts

-- THE FIRST FENCE

-- at each moment of it whatever a crash leaves and is within tolerance represents the state
pub first_stands : (s : State) (m last : Membership) (answer : Result Slots FenceFault) (before old : List Happening) (mid new : RackState)
    (h : List Happening) → IsFoundFor s m before old mid.history → Fences no_slots m last answer mid new → IsTrue new.honest
    → IsMoment mid.history h new.history → NothingReturned mid.history h → ¬ IsTrue (stopped h)
    → EachImage (λ image. (tolerated : IsToleratedAlone s.geometry image)
    → RepresentsAlone (record s { seats = Some (seats_in tolerated.current.array) }) image) h
first_stands s m last answer before old mid new h found e honest at none going image left =
    over_geometry
    (λ within. first_fence found going (left_by (first_fencing m last answer mid new h e found.begun honest at none).1 left) within)
  where
    over_geometry : ((within : IsToleratedAlone m.array.geometry image) → RepresentsAlone (record s { seats = Some (seats_in within.current.array) }) image)
        → (within : IsToleratedAlone s.geometry image) → RepresentsAlone (record s { seats = Some (seats_in within.current.array) }) image
    over_geometry =
        subst
        (λ (g : Geometry). ((within : IsToleratedAlone m.array.geometry image) → RepresentsAlone (record s { seats = Some (seats_in within.current.array) }) image)
        → (within : IsToleratedAlone g image) → RepresentsAlone (record s { seats = Some (seats_in within.current.array) }) image) (sym found.geometry)
        (λ stands. stands)

pub first_represents : (s : State) (m last : Membership) (answer : Result Slots FenceFault) (before old : List Happening) (mid new : RackState)
    → IsFoundFor s m before old mid.history → Fences no_slots m last answer mid new → IsTrue new.honest
    → NothingReturned mid.history new.history → IsTolerated s.geometry before new.history → Represents (without_seats s) new.history
first_represents s m last answer before old mid new found e honest none tolerated =
    let issued = e.establishes.issued honest in
    let going = goes_on s before new.history tolerated in
    represents_in_the_end s before new.history
    (first_stands s m last answer before old mid new new.history found e honest (moment_last issued.ran.more issued.ran.is) none going)
    (history_on {allowed = IsIssuing issued.slots issued.editions} found.begun.history issued.ran) tolerated
    (subst (λ (g : Geometry). AreSteady g new.history) (sym found.geometry)
    (fence_steady no_slots m last answer mid new e found.begun (λ j has. absurd (true≢false (sym has ∙ has_slot-none j))) honest none going))

-- THE OTHER PARTS

module _ (s : State) (encodings : Encodings s) (a : Redoing) (stage : Stage) (start before : List Happening) (x y : Snapshot)
    (is : IsRecovering a stage encodings.old encodings.new start x.member x.told.history) (geometry : s.geometry ≡ x.member.array.geometry)
    (names : NamesContent s x.member.array) (honest : IsTrue y.told.honest) (none : NothingReturned x.told.history y.told.history)
    (tolerated : IsTolerated s.geometry before y.told.history) where
  on : ¬ IsTrue (stopped y.told.history)
  on = goes_on s before y.told.history tolerated

  by_moments : Ran any_call x.told.history y.told.history → AtEveryMoment (StandsWithin s x.member.array x.told.history) x.told.history y.told.history
      → AreSteady a.geometry y.told.history → Represents (without_seats s) y.told.history
  by_moments ran every steady =
      represents_in_the_end s before y.told.history
      (λ image left alone. (at_last {P = StandsWithin s x.member.array x.told.history} every none on image left alone).0) (history_on {allowed = any_call} is.way.epoch.begun.history ran) tolerated
      (subst (λ (g : Geometry). AreSteady g y.told.history) (is.way.geometry ∙ sym geometry) steady)

  pub finding_represents : (redo : Option Redo) (opened : Slots) (refusal : Option FenceFault) → FindsRedo redo opened refusal x y
      → Represents (without_seats s) y.told.history
  finding_represents redo opened refusal found =
      by_moments (found_ran redo opened refusal x y found honest)
      (finding_stands s encodings a stage start x is geometry names redo opened refusal y found honest)
      (finding_steady a encodings.old encodings.new start stage redo opened refusal x y found is honest none on)

  pub body_represents : (redo : Redo) (body : Body) (was into : Stripe) (refusal : Option FenceFault) → FindsBody redo body was into refusal x y
      → Represents (without_seats s) y.told.history
  body_represents redo body was into refusal found =
      let now = honest_back found.mid y.told (left_honest body.gone refusal (snapshot x.member found.mid) y found.leaves) honest in
      by_moments
      (ran_join {allowed = any_call} (ran_any {allowed = IsReadOf (HasSlot found.live) (IsBodySector x.member.array.geometry redo)} (found.reads.ran now))
      (out_ran body.gone refusal (snapshot x.member found.mid) y found.leaves honest))
      (body_stands s encodings a stage start x is geometry names redo body was into refusal y found honest)
      (body_steady a encodings.old encodings.new start stage redo body was into refusal x y found is honest none on)

  pub closing_represents : stage ≡ AtRest → (live : Slots) (refusal : Option FenceFault) → AreLive x.member live
      → DoesStage (gate_writes closed_gate) live refusal x y → Represents (without_seats s) y.told.history
  closing_represents rests live refusal are does =
      by_moments
      (ran_join {allowed = any_call} (ran_any (phase_ran (does.phase.placed (mid_honest (gate_writes closed_gate) live refusal x y does honest))))
      (out_ran does.gone refusal (snapshot x.member does.mid) y does.leaves honest))
      (closing_stands s encodings a stage start x is geometry names rests live refusal y are does honest)
      (gates_steady a encodings.old encodings.new start stage closed_gate live refusal x y (λ j has. (are.are j).0 has) does is.way honest none on)

  pub replay_represents : (redo : Option Redo) (opened : Slots) (stripe : Stripe) (refusal : Option FenceFault)
      → IsToldBy redo opened a stage start x.member x.told.history → IsRedoing a → ((stage ≡ Uncommitted) ⊎ (stage ≡ Placing))
      → ((i c : ℕ) → HasCell a.redo.cells i c → cell stripe i c ≡ cell (a.new a.redo.stripe) i c)
      → Replays a.redo stripe opened refusal x y → Represents (without_seats s) y.told.history
  replay_represents redo opened stripe refusal told redoing at_stage cells run =
      by_moments (replay_ran a redoing stripe cells start opened refusal x y run is.way.geometry honest)
      (replay_stands s encodings a stage start x is geometry names redo opened stripe refusal y told redoing at_stage cells run honest)
      (replay_steady a encodings.old encodings.new start redoing stripe cells stage redo opened refusal x y run is told at_stage honest none on)
