-- What a write of blocks comes to, whether media come back or not.
use Rattle.std.proofs.Common.{◌≡◌, ℕ, List, refl, subst, None, Some, Option, length, sym}
use Rattle.std.specs.Prelude.{IsTrue, Result, Ok, Err}
use Rattle.stair_model.specs.CellSet.{CellSet}
use Rattle.stair_model.specs.Stripe.{Stripe}
use Rattle.stair_rack.specs.Answers.{Ran, any_call}
use Rattle.stair_rack.specs.Crash.{CrashMayLeave}
use Rattle.stair_rack.specs.History.{Happening}
use Rattle.stair_rack.specs.Media.{Image}
use Rattle.stair_rack.specs.Moments.{AtEveryMoment, IsMoment}
use Rattle.stair_rack.proofs.MomentLemmas.{at_every_from, at_every_join, at_every_mapped, at_every_none, moment_last, ran_before, ran_join}
use Rattle.stair_member.specs.Membership.{Membership}
use Rattle.stair_journal.specs.declared.redo.Redo.{Redo}
use Rattle.stair_member.specs.declared.fault.FenceFault.{FenceFault}
use Rattle.stair_state.specs.Blocks.{Codewords}
use Rattle.stair_state.specs.Redoing.{AtRest}
use Rattle.stair_state.specs.State.{Change, Content}
use Rattle.stair_invariant.specs.Effects.{Snapshot, Redoes}
use Rattle.stair_invariant.specs.Opening.{StaysArray}
use Rattle.stair_invariant.specs.Rebuilding.{Rebuild}
use Rattle.stair_invariant.specs.Returning.{Returning}
use Rattle.stair_invariant.proofs.HonestLemmas.{honest_first}
use Rattle.stair_invariant.proofs.Serving.{IsGoing, LeadsReads, StandsAs, StaysWithinToleranceTo, LeadsRedos}
use Rattle.stair_invariant.proofs.Mending.{calm_going}
use Rattle.stair_array.specs.Calls.{AreInPlace, Prepares, WritesBlocks, answer_of, refused}
use Rattle.stair_array.specs.Machine.{IsFinal, Refusal}
use Rattle.stair_array.proofs.LeftServingLemmas.{serving_stands, StandsAt}
use Rattle.stair_array.proofs.LoadingLemmas.{Comes, Serves, ServesOn, refused_stands, same_serves, same_stays}
use Rattle.stair_array.proofs.ReadPartLemmas.{array_with}
use Rattle.stair_array.proofs.RecoveredLemmas.{redoes_ran}
use Rattle.stair_array.proofs.ServingLemmas.{going_sooner}
use Rattle.stair_array.proofs.WriteCourseLemmas.{prepared_part}
use Rattle.stair_array.proofs.WriteDoubtLemmas.{Certain, Doubtful, IsReady, IsWritten, MayDoubt, MayWrite, StandsSo, done, inside, may_write, redo_stands, stops, stripe_in, written}
use Rattle.stair_array.proofs.WritePartLemmas.{IsKnown, prepared, preparing_moments}

module _ (returning : Returning) (before : List Happening) (rebuild : Option Rebuild) (stopped_by : Option FenceFault) (words : Codewords)
    (kept : Content) (first : ℕ)
    (contents : List (List ℕ)) where
  abbrev pub StandsWith : Membership → List Happening → Type 0
  StandsWith m c =
      StaysWithinToleranceTo returning m.array.geometry before c → (image : Image) → CrashMayLeave c image → StandsSo returning kept first contents m image

  -- The array serves the stripes with the blocks set; it serves on as it was, and is refused what isn't an epoch; or an epoch was
  -- refused, and the rack represents the array, with the write in doubt or without.
  pub data Outcome (x : Snapshot) : Result (Unit {0}) Refusal → Snapshot → Type 0 where
    Written : (z : Snapshot) → MayWrite first contents x.member → IsWritten returning before rebuild stopped_by words kept first contents x z
        → Outcome x (Ok tt) z
    Refused : (refusal : Refusal) (z : Snapshot) → ServesOn returning before rebuild stopped_by words kept x z → StaysArray x.member z.member
        → ¬ IsFinal refusal → Outcome x (Err refusal) z
    Stopped : (fault : FenceFault) (z : Snapshot) (doubt : Option Change) → MayWrite first contents x.member
        → MayDoubt first contents x.member doubt → StandsAs returning x.member kept doubt z.told.history → Outcome x (Err (refused fault)) z

module _ (returning : Returning) (laws : LeadsReads returning) (before : List Happening) (rebuild : Option Rebuild) (stopped_by : Option FenceFault)
    (words : Codewords) (kept : Content) (first : ℕ) (contents : List (List ℕ)) where
  abbrev StandsHere : Membership → List Happening → Type 0
  StandsHere = StandsWith returning before rebuild stopped_by words kept first contents

  abbrev OutcomeAt : Snapshot → Result (Unit {0}) Refusal → Snapshot → Type 0
  OutcomeAt = Outcome returning before rebuild stopped_by words kept first contents

  abbrev ServesAt : Snapshot → List Happening → Type 0
  ServesAt x h = Serves returning before rebuild stopped_by words kept x h

  -- what cells are read for leaves no doubt
  reads_stand : (m : Membership) {old new : List Happening} → AtEveryMoment (StandsAt returning before m kept) old new
      → AtEveryMoment (StandsHere m) old new
  reads_stand m every =
      at_every_mapped {P = StandsAt returning before m kept} {Q = StandsHere m}
      (λ c stands calm image left. record { doubt = None; may = Certain; is = stands calm image left }) every

  nothing_done : (x : Snapshot) → ServesAt x x.told.history → AtEveryMoment (StandsHere x.member) x.told.history x.told.history
  nothing_done x is =
      reads_stand x.member
      (at_every_none {P = StandsAt returning before x.member kept} x.told.history
      (serving_stands returning laws before (array_with rebuild stopped_by x) words kept x.told.history (λ calm. is)))

  -- WHAT WAS PREPARED

  module _ (x : Snapshot) (t : ℕ) (cells : CellSet) (loaded : Stripe) where
    abbrev Preparing : Result (Unit {0}) Refusal → Snapshot → Type 0
    Preparing = Comes returning before rebuild stopped_by words kept (IsKnown words t (length contents) cells loaded x) x

    ready_of : (answer : Result (Unit {0}) Refusal) (y : Snapshot) → Preparing answer y → answer ≡ Ok tt
        → IsReady returning before rebuild stopped_by words kept first contents x t cells loaded y
    ready_of _ _ (Comes.Has y serves stays live known) fine = record {
      serves = serves;
      stays = stays;
      live = live;
      known = known;
    }
    ready_of _ _ (Comes.Lacks refusal y serves stays not_final) fine = absurd (cc)
    ready_of _ _ (Comes.Stops fault y at) fine = absurd (cc)

    unready_of : MayWrite first contents x.member → (u : Snapshot) → IsTrue u.told.honest
        → StaysWithinToleranceTo returning x.member.array.geometry before u.told.history
        → (refusal : Refusal) (answer : Result (Unit {0}) Refusal) (y : Snapshot) → Preparing answer y → y ≡ u → answer ≡ Err refusal
        → OutcomeAt x (Err refusal) y
    unready_of writes u honest calm refusal _ _ (Comes.Has y serves stays live known) ends fine = absurd (cc)
    unready_of writes u honest calm refusal _ _ (Comes.Lacks other y serves stays not_final) ends fine =
        Refused refusal y serves stays (λ final. not_final (subst IsFinal (let one : refusal ≡ other = cc in one) final))
    unready_of writes u honest calm refusal _ _ (Comes.Stops fault y at) ends fine =
        let stands =
        refused_stands returning laws before words kept x.member fault y at (subst (λ (p : Snapshot). IsTrue p.told.honest) (sym ends) honest)
        (subst (λ (p : Snapshot). StaysWithinToleranceTo returning x.member.array.geometry before p.told.history) (sym ends) calm) in
        subst (λ (r : Refusal). OutcomeAt x (Err r) y) (let one : refused fault ≡ refusal = cc in one)
        (Stopped fault y None writes Certain stands)

  -- WHAT WAS PREPARED AND DONE

  module _ (redo : Redo) (loaded stripe : Stripe) (refusal : Option FenceFault) (x y z : Snapshot)
      (is : ServesAt x x.told.history) (place : AreInPlace x.member.array first contents redo.stripe redo.cells)
      (prepares : Prepares redo.stripe (length contents) redo.cells loaded (Ok tt) x y)
      (run : Redoes x.member.array.geometry redo stripe AtRest refusal y z) (honest : IsTrue z.told.honest) where
    pub honest_y : IsTrue y.told.honest
    honest_y = honest_first x.member.array.geometry redo stripe AtRest refusal y z run honest

    upto : Ran any_call before y.told.history
    upto =
        ran_join {allowed = any_call} is.is_open.ran
        ((prepared_part redo.stripe (length contents) redo.cells loaded (Ok tt) x y prepares is.is_open.array.member).after.later.ran honest_y)

    pub redo_later : Ran any_call y.told.history z.told.history
    redo_later = redoes_ran x.member.array.geometry redo stripe AtRest refusal y z run honest

    pub all_ran : Ran any_call before z.told.history
    all_ran = ran_join {allowed = any_call} upto redo_later

    pub ran_to : (c : List Happening) → IsMoment y.told.history c z.told.history → Ran any_call before c
    ran_to c at = ran_join {allowed = any_call} upto (ran_before {allowed = any_call} redo_later at)

    -- the cells were known by then, where the rack goes on up to a moment of it
    pub is_ready : (c : List Happening) → IsMoment y.told.history c z.told.history → IsGoing returning x.member.array.geometry before c
        → IsReady returning before rebuild stopped_by words kept first contents x redo.stripe redo.cells loaded y
    is_ready c at on =
        ready_of x redo.stripe redo.cells loaded (Ok tt) y
        (prepared returning laws before rebuild stopped_by words kept redo.stripe (length contents) redo.cells loaded (Ok tt) x y prepares is
        (inside first contents x.member redo.stripe redo.cells place)
        (stripe_in first contents x.member redo.stripe redo.cells place is.is_open.array.member.array.limits) honest_y
        (going_sooner returning x.member.array.geometry before y.told.history c upto (ran_before {allowed = any_call} redo_later at) on)) refl

    pub to_end : IsMoment y.told.history z.told.history z.told.history
    to_end = moment_last redo_later.more redo_later.is

  -- ALL OF IT

  module _ (redos : LeadsRedos returning) where
    pub moments : (answer : Result (Unit {0}) Refusal) (x z : Snapshot) → WritesBlocks first contents answer x z → ServesAt x x.told.history
        → IsTrue z.told.honest
        → AtEveryMoment (StandsHere x.member) x.told.history z.told.history
    moments _ _ _ (WritesBlocks.OutOf x past) is honest = nothing_done x is
    moments _ _ _ (WritesBlocks.IsFrozen x below frozen) is honest = nothing_done x is
    moments _ _ _ (WritesBlocks.Unready t cells loaded refusal x y place prepares) is honest =
        reads_stand x.member
        (preparing_moments returning laws before rebuild stopped_by words kept t (length contents) cells loaded (Err refusal) x y prepares is
        (inside first contents x.member t cells place) honest)
    moments _ _ _ (WritesBlocks.Wrote redo loaded stripe refusal x y z place formed prepares set run) is honest =
        let later = redo_later redo loaded stripe refusal x y z is place prepares run honest in
        at_every_join {P = StandsHere x.member}
        (reads_stand x.member
        (preparing_moments returning laws before rebuild stopped_by words kept redo.stripe (length contents) redo.cells loaded (Ok tt) x y prepares is
        (inside first contents x.member redo.stripe redo.cells place) (honest_y redo loaded stripe refusal x y z is place prepares run honest)))
        (at_every_from {P = StandsHere x.member} later.more later.is
        (λ c at calm image left.
        redo_stands returning before rebuild stopped_by words kept first contents redo loaded stripe x y is place formed set
        (is_ready redo loaded stripe refusal x y z is place prepares run honest c at
        (calm_going returning x.member.array.geometry before c (ran_to redo loaded stripe refusal x y z is place prepares run honest c at) calm))
        redos refusal z run
        honest c at calm image left))

    pub outcome : (answer : Result (Unit {0}) Refusal) (x z : Snapshot) → WritesBlocks first contents answer x z → ServesAt x x.told.history
        → IsTrue z.told.honest
        → StaysWithinToleranceTo returning x.member.array.geometry before z.told.history → OutcomeAt x answer z
    outcome _ _ _ (WritesBlocks.OutOf x past) is honest calm =
        Refused _ x
        (same_serves returning laws before rebuild stopped_by words kept x x refl honest is
        (calm_going returning x.member.array.geometry before x.told.history is.is_open.ran calm))
        (same_stays returning laws before rebuild stopped_by words kept x x refl is) (λ final. absurd final)
    outcome _ _ _ (WritesBlocks.IsFrozen x below frozen) is honest calm =
        Refused _ x
        (same_serves returning laws before rebuild stopped_by words kept x x refl honest is
        (calm_going returning x.member.array.geometry before x.told.history is.is_open.ran calm))
        (same_stays returning laws before rebuild stopped_by words kept x x refl is) (λ final. absurd final)
    outcome _ _ _ (WritesBlocks.Unready t cells loaded refusal x y place prepares) is honest calm =
        let part = prepared_part t (length contents) cells loaded (Err refusal) x y prepares is.is_open.array.member in
        unready_of x t cells loaded (may_write first contents x.member t cells place) y honest calm refusal (Err refusal) y
        (prepared returning laws before rebuild stopped_by words kept t (length contents) cells loaded (Err refusal) x y prepares is
        (inside first contents x.member t cells place) (stripe_in first contents x.member t cells place is.is_open.array.member.array.limits) honest
        (calm_going returning x.member.array.geometry before y.told.history (ran_join {allowed = any_call} is.is_open.ran (part.after.later.ran
        honest)) calm)) refl refl
    outcome _ _ _ (WritesBlocks.Wrote redo loaded stripe refusal x y z place formed prepares set run) is honest calm = by refusal run
      where
        on : IsGoing returning x.member.array.geometry before z.told.history
        on =
            calm_going returning x.member.array.geometry before z.told.history
            (all_ran redo loaded stripe refusal x y z is place prepares run honest) calm

        writes : MayWrite first contents x.member
        writes = may_write first contents x.member redo.stripe redo.cells place

        ready : IsReady returning before rebuild stopped_by words kept first contents x redo.stripe redo.cells loaded y
        ready =
            is_ready redo loaded stripe refusal x y z is place prepares run honest z.told.history
            (to_end redo loaded stripe refusal x y z is place prepares run honest) on

        by : (given : Option FenceFault) → Redoes x.member.array.geometry redo stripe AtRest given y z → OutcomeAt x (answer_of tt given) z
        by (Some fault) run =
            Stopped fault z (written first contents) writes (Doubtful writes)
            (stops returning before rebuild stopped_by words kept first contents redo loaded stripe x y is place formed set ready redos fault z run
            honest calm)
        by None run =
            Written z writes
            (done returning before rebuild stopped_by words kept first contents redo loaded stripe x y is place formed set ready redos z run honest on)
