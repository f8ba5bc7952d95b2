-- An array that serves along a trace is found by its survey, and serves along what is left of the trace until then; where no medium
-- comes back it is enough that it serves throughout.
use Rattle.std.proofs.Common.{◌≡◌, ◌∙◌, List, [], ◌∷◌, ap, subst, sym}
use Rattle.std.specs.Prelude.{IsTrue}
use Rattle.stair_model.specs.Geometry.{Geometry}
use Rattle.stair_rack.specs.Answers.{IsHistory}
use Rattle.stair_rack.specs.History.{Happening}
use Rattle.stair_rack.specs.Stretch.{NothingReturned}
use Rattle.stair_rack.proofs.MomentLemmas.{moment_last, ran_none}
use Rattle.stair_state.specs.State.{State}
use Rattle.stair_state.specs.Tolerance.{ToleratedSince}
use Rattle.stair_invariant.specs.Returning.{StaysWithinTolerance, NoneReturns, Returning, StandsFor}
use Rattle.stair_array.specs.Promise.{Begun, Phase, is_open}
use Rattle.stair_reinsert.proofs.LookedSoFar.{survey_unwritten}
use Rattle.stair_command.specs.Action.{Outcome, Survey}
use Rattle.stair_command.specs.Bounded.{IsBoundedAt}
use Rattle.stair_command.specs.Devices.{DeviceView, Devices, WorksAll, seen_of}
use Rattle.stair_command.specs.Run.{StaysWithinToleranceUpTo, history_of}
use Rattle.stair_command.specs.Trace.{TraceItem, Did, AlongTrace, Stepped}
use Rattle.stair_command.specs.Sure.{EachItem, StaysWithinToleranceAlong, StaysWithinToleranceBetween, StaysWithinToleranceUnreadAt, ServesAlong, ServesThroughout, most_borne}
use Rattle.stair_command.proofs.FoundLaws.{IsArrayFound, calm_between, survey_found}
use Rattle.stair_command.proofs.HeadlineLaws.{calm_trace}
use Rattle.stair_command.proofs.RunLaws.{one_ran, upto_end, works_ran}

module _ {R W : Type 0} (returning : Returning) (view : DeviceView R W) (s : State) (y : Devices R W) where
  -- before anything was done in the session
  abbrev pub Serves : (trace : List TraceItem) (x : Devices R W) → AlongTrace (WorksAll view) trace x y → Type 0
  Serves trace x works = (x.session ≡ Begun) × ServesAlong returning view s trace x y works

  -- an item that leaves the devices is passed
  pub serves_on : (item : TraceItem) (trace : List TraceItem) (x : Devices R W) (works : AlongTrace (WorksAll view) (item ∷ trace) x y) → works.0 ≡ x
      → Serves (item ∷ trace) x works → Serves trace works.0 works.2
  serves_on item trace x works same serves = (
    ap (λ (z : Devices R W). z.session) same ∙ serves.0,
    record {
      honest = serves.1.honest;
      history = subst (λ (z : Devices R W). IsHistory (history_of view z)) (sym same) serves.1.history;
      stands = subst (λ (z : Devices R W). StandsFor returning s (history_of view z)) (sym same) serves.1.stands;
      calm = (
        subst (λ (h : List Happening). StaysWithinToleranceUpTo view returning s.geometry h (history_of view y) trace works.0 y works.2)
            (ap (λ (z : Devices R W). history_of view z) (sym same)) serves.1.calm.0.1,
        subst (λ (h : List Happening). EachItem view (StaysWithinToleranceUnreadAt view returning s.geometry h) trace works.0 y works.2)
            (ap (λ (z : Devices R W). history_of view z) (sym same)) serves.1.calm.1.1,
      );
      drawn = subst (λ (z : Devices R W). IsBoundedAt s.geometry most_borne (history_of view z)) (sym same) serves.1.drawn;
    },
  )

  module _ (came : Outcome Survey) (trace : List TraceItem) (x : Devices R W) (works : AlongTrace (WorksAll view) (Did Survey came ∷ trace) x y)
      (serves : Serves (Did Survey came ∷ trace) x works) where
    -- a survey is calm
    pub survey_calm : StaysWithinToleranceBetween returning s.geometry (history_of view x) (history_of view x) (history_of view works.0)
    survey_calm =
        let ready = serves.1 in
        let ran = one_ran view ready.honest (Did Survey came) x works.0 works.1 in
        let at = moment_last ran.more ran.is in
        calm_between returning s.geometry (history_of view x) (history_of view works.0)
        (survey_unwritten came (seen_of view x).told (seen_of view works.0).told works.1.0 ready.honest)
        (subst (λ (session : Phase). StaysWithinTolerance returning s.geometry (is_open session) (history_of view x) (history_of view works.0)) serves.0
        (ready.calm.0.0 (history_of view works.0) at (upto_end at (works_ran view ready.honest trace works.0 y works.2))))

    -- and finds the array
    pub along_found : IsArrayFound s.geometry came
    along_found =
        survey_found returning s (history_of view x) (seen_of view x).told (seen_of view works.0).told came works.1.0 serves.1.honest
        (ran_none (history_of view x)) serves.1.stands survey_calm

-- where no medium comes back
unread_none : {R W : Type 0} (view : DeviceView R W) (g : Geometry) (before : List Happening) (trace : List TraceItem) (x y : Devices R W)
    (works : AlongTrace (WorksAll view) trace x y) → EachItem view (StaysWithinToleranceUnreadAt view NoneReturns g before) trace x y works
unread_none view g before [] x y works = tt
unread_none view g before (item ∷ trace) x y works = (one item, unread_none view g before trace works.0 y works.2)
  where
    one : (item : TraceItem) → StaysWithinToleranceUnreadAt view NoneReturns g before item x works.0
    one (Stepped step answer events left) = tt
    one _ = tt

pub calm_along : {R W : Type 0} (view : DeviceView R W) (g : Geometry) (trace : List TraceItem) (x y : Devices R W) (works : AlongTrace (WorksAll view) trace x y)
    → IsTrue view.rack.honest → ToleratedSince g (history_of view x) (history_of view y) → NothingReturned (history_of view x) (history_of view y)
    → StaysWithinToleranceAlong view NoneReturns g trace x y works
calm_along view g trace x y works honest tolerated returned = (
  calm_trace view honest g (history_of view x) (history_of view y) trace x y works (ran_none (history_of view x)) tolerated returned,
  unread_none view g (history_of view x) trace x y works,
)

pub along_any : {R W : Type 0} (view : DeviceView R W) (s : State) (trace : List TraceItem) (x y : Devices R W) (works : AlongTrace (WorksAll view) trace x y)
    → ServesThroughout view.rack s x.rack y.rack → ServesAlong NoneReturns view s trace x y works
along_any view s trace x y works serves = record {
  honest = serves.honest;
  history = serves.history;
  stands = serves.represents;
  calm = calm_along view s.geometry trace x y works serves.honest serves.tolerated serves.returned;
  drawn = serves.drawn;
}
