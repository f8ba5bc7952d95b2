-- What a whole call of the program means follows from what it did.
use Rattle.std.proofs.Common.{◌≡◌, ◌∙◌, List, [], ◌∷◌, ◌++◌, None, Ok, Err, inl, inr, refl, sym, ap, subst, append_assoc}
use Rattle.std.specs.Prelude.{IsTrue}
use Rattle.stair_model.specs.Geometry.{Geometry}
use Rattle.stair_rack.specs.Answers.{IsHistory, Ran, any_call}
use Rattle.stair_rack.specs.History.{Happening}
use Rattle.stair_rack.specs.Moments.{IsMoment}
use Rattle.stair_rack.specs.Stretch.{NothingReturned}
use Rattle.stair_rack.proofs.MomentLemmas.{moment_sooner, ran_join, ran_none}
use Rattle.stair_rack.proofs.StretchLemmas.{each_before}
use Rattle.stair_state.specs.State.{State, without_seats}
use Rattle.stair_state.specs.Tolerance.{ToleratedSince}
use Rattle.stair_invariant.specs.Returning.{AnyReturns, StaysWithinTolerance, NoneReturns, Returning, StandsFor}
use Rattle.stair_array.specs.Machine.{Refusal}
use Rattle.stair_array.specs.Promise.{Begun, ServesState, Phase, is_open}
use Rattle.stair_command.specs.Devices.{DeviceView, Devices, ExecutesWith, WorksAll, devices, seen_of}
use Rattle.stair_command.specs.Headline.{AcknowledgedAreTaken, RefinesProgram, IsRunOf, IsRunWherever, PerformedLeads}
use Rattle.stair_command.specs.Outside.{Outside, Views}
use Rattle.stair_command.specs.Program.{Program}
use Rattle.stair_command.specs.Run.{ItemLeads, StaysWithinToleranceUpTo, IsRun, IsSafe, IsUpTo, TraceLeads}
use Rattle.stair_command.specs.Trace.{TraceItem, Stepped, AlongTrace, StepsProgram}
use Rattle.stair_command.proofs.RunLaws.{IsAt, IsStoppedBy, forgets, runs_on, works_ran}
use Rattle.stair_command.proofs.CutLaws.{safe_on}

-- ---- steps

-- a step that was acknowledged was taken
pub acknowledged_taken : AcknowledgedAreTaken
acknowledged_taken returning before step given events left old new (inl takes) = takes
acknowledged_taken returning before step given events left old new (inr again) = absurd (clash again.answered)
  where
    clash : {T : Type 0} {x : T} {refusal : Refusal} → Ok x ≡ Err refusal → ⊥
    clash same = cc

module _ {R W : Type 0} (returning : Returning) (view : DeviceView R W) where
  -- where all that is performed leads on, so does every trace
  pub all_lead : PerformedLeads returning → (trace : List TraceItem) (x y : Devices R W) (works : AlongTrace (WorksAll view) trace x y) → TraceLeads returning view trace x y works
  all_lead lead [] x y works = tt
  all_lead lead (item ∷ trace) x y works = (one item works.0 works.1, all_lead lead trace works.0 y works.2)
    where
      one : (item : TraceItem) (z : Devices R W) → WorksAll view item x z → ItemLeads returning view item x z
      one (Stepped step answer events left) z works = λ performs. lead step answer events (seen_of view x) (seen_of view z) performs works.3
      one _ z works = tt

-- ---- from a session's beginning

module _ {R W : Type 0} (view : DeviceView R W) where
  abbrev h_of : Devices R W → List Happening
  h_of x = view.rack.history x.rack

  begins : (returning : Returning) (s : State) (x : Devices R W) → x.session ≡ Begun → StandsFor returning s (h_of x)
      → IsAt view returning (h_of x) (without_seats s) None x
  begins returning s x begun stands = record {
    is_in = record {
      stands = forgets returning s (h_of x) stands;
      serves = subst (λ (session : Phase). ServesState returning (h_of x) (without_seats s) session (seen_of view x).told) (sym begun) (refl, refl);
    };
    kept = subst (λ (session : Phase). IsStoppedBy session None) (sym begun) refl;
  }

  module _ (honest : IsTrue view.rack.honest) where
    -- a trace is a run
    pub is_run : (returning : Returning) (s : State) (trace : List TraceItem) (x y : Devices R W) (works : AlongTrace (WorksAll view) trace x y)
        → IsHistory (h_of x) → x.session ≡ Begun → StandsFor returning s (h_of x) → TraceLeads returning view trace x y works
        → StaysWithinToleranceUpTo view returning s.geometry (h_of x) (h_of y) trace x y works → IsRun view returning (h_of x) (without_seats s) trace x y
    is_run returning s trace x y works history begun stands led calm =
        let run = runs_on view honest returning (h_of x) (without_seats s) None trace x y works led history (begins returning s x begun stands) calm in
        record { state = run.state; stopped = run.stop; runs = run.runs; is_in = run.is_at.is_in }

    -- a crash cuts it within a step or between two
    pub is_safe : (returning : Returning) (s : State) (program rest : Program) (trace : List TraceItem) (x y : Devices R W) (works : AlongTrace (WorksAll view) trace x y)
        (c : List Happening) → AlongTrace StepsProgram trace program rest → IsHistory (h_of x) → x.session ≡ Begun → StandsFor returning s (h_of x)
        → TraceLeads returning view trace x y works → IsMoment (h_of x) c (h_of y)
        → StaysWithinToleranceUpTo view returning s.geometry (h_of x) c trace x y works → IsSafe view returning (h_of x) (without_seats s) program trace x y c
    is_safe returning s program rest trace x y works c follows history begun stands led at calm =
        let safe =
        safe_on view honest returning (h_of x) (without_seats s) None program rest trace x y works c led follows history (begins returning s x begun stands) at
        calm in
        record {
          done = safe.done;
          later = safe.later;
          part = safe.part;
          rest = safe.rest;
          follows = safe.follows;
          mid = safe.mid;
          ended = safe.ended;
          not_ended = safe.not_ended;
          ends_later = safe.ends_later;
          reached = safe.reached;
          state = safe.state;
          stopped = safe.stop;
          runs = safe.runs;
          images = safe.images;
        }

    -- what is calm up to a moment was so before, along a trace of a session that began before it
    pub calm_trace : (g : Geometry) (before c : List Happening) (trace : List TraceItem) (x y : Devices R W) (works : AlongTrace (WorksAll view) trace x y)
        → Ran any_call before (h_of x) → ToleratedSince g before c → NothingReturned before c → StaysWithinToleranceUpTo view NoneReturns g before c trace x y works
    calm_trace g before c [] x y works since tolerated none = tt
    calm_trace g before c (item ∷ trace) x y works since tolerated none = (
      λ h at upto. sooner h (between at upto),
      calm_trace g before c trace works.0 y works.2 (ran_join since (works_ran view honest (item ∷ []) x works.0 (works.0, works.1, refl))) tolerated none,
    )
      where
        sooner : (h : List Happening) → IsMoment before h c → StaysWithinTolerance NoneReturns g (is_open x.session) before h
        sooner h at = (λ m is. tolerated m (moment_sooner is at), each_before none at)

        between : {h mid : List Happening} → IsMoment (h_of x) h mid → IsUpTo h c → IsMoment before h c
        between at upto = record {
          before = at.before ++ since.more;
          later = upto.later;
          from = at.from ∙ ap (λ z. at.before ++ z) since.is ∙ sym (append_assoc at.before since.more before);
          to = upto.to;
        }

  -- both, where no medium comes back
  pub run_of : (program rest : Program) (trace : List TraceItem) (x y : Devices R W) (works : AlongTrace (WorksAll view) trace x y) → AlongTrace StepsProgram trace program rest
      → x.session ≡ Begun → TraceLeads NoneReturns view trace x y works → IsRunOf view program trace x y
  run_of program rest trace x y works follows begun led = record {
    runs = λ honest s history stands tolerated none.
        is_run honest NoneReturns s trace x y works history begun stands led
        (calm_trace honest s.geometry (h_of x) (h_of y) trace x y works (ran_none (h_of x)) tolerated none);
    cuts = λ honest s c history stands at tolerated none.
        is_safe honest NoneReturns s program rest trace x y works c follows history begun stands led at
        (calm_trace honest s.geometry (h_of x) c trace x y works (ran_none (h_of x)) tolerated none);
  }

  -- and where media come back
  pub run_wherever : (program rest : Program) (trace : List TraceItem) (x y : Devices R W) (works : AlongTrace (WorksAll view) trace x y) → AlongTrace StepsProgram trace program rest
      → x.session ≡ Begun → TraceLeads AnyReturns view trace x y works → IsRunWherever view program trace x y works
  run_wherever program rest trace x y works follows begun led = record {
    runs = λ honest s history stands calm. is_run honest AnyReturns s trace x y works history begun stands led calm;
    cuts = λ honest s c history stands at calm.
        is_safe honest AnyReturns s program rest trace x y works c follows history begun stands led at calm;
  }

-- ---- whole calls

module _ {R W S K : Type 0} (view : DeviceView R W) (streams : Views S K) where
  -- a call whose steps lead on is borne out
  pub borne_with : (program rest : Program) (a b : Outside S K) (x y : R) (watchers left : List W) (session : Phase)
      (with : ExecutesWith view streams program rest a b (devices x Begun watchers) (devices y session left))
      → ((returning : Returning) → TraceLeads returning view with.means.trace (devices x Begun watchers) (devices y session left) with.works)
      → RefinesProgram view streams program rest a b x y watchers left
  borne_with program rest a b x y watchers left session with led =
      let run = run_of view program rest with.means.trace (devices x Begun watchers) (devices y session left) with.works with.means.follows refl (led NoneReturns) in
      record {
        session = session;
        over = with;
        runs = run.runs;
        cuts = run.cuts;
        wherever =
            run_wherever view program rest with.means.trace (devices x Begun watchers) (devices y session left) with.works with.means.follows refl (led AnyReturns);
      }
