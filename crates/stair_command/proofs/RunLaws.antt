-- A trace is a run of the machine, and a crash cuts it within a step or between two.
use Rattle.std.proofs.Common.{◌≡◌, ◌∙◌, ℕ, List, [], ◌∷◌, ◌++◌, Option, None, Some, Result, Ok, Err, inl, inr, refl, sym, ap, subst, append_assoc}
use Rattle.std.specs.Prelude.{IsTrue, Bool, false, ⊤}
use Rattle.stair_model.specs.Geometry.{Geometry}
use Rattle.stair_rack.specs.Answers.{IsHistory, Ran, any_call}
use Rattle.stair_rack.specs.History.{Happening, SlotCall}
use Rattle.stair_rack.specs.Moments.{IsMoment}
use Rattle.stair_rack.specs.declared.watcher.Event.{Event}
use Rattle.stair_rack.proofs.MomentLemmas.{moment_first, moment_last, ran_any, ran_before, ran_join, ran_none}
use Rattle.stair_rack.proofs.TidyLemmas.{history_on}
use Rattle.stair_member.specs.Membership.{Membership}
use Rattle.stair_member.specs.Survey.{Surveys}
use Rattle.stair_member.specs.declared.fault.FenceFault.{FenceFault}
use Rattle.stair_member.specs.declared.fault.SurveyFault.{SurveyFault}
use Rattle.stair_member.proofs.AskedLemmas.{asked_ran}
use Rattle.stair_state.specs.Represents.{no_write}
use Rattle.stair_state.specs.State.{State, without_seats}
use Rattle.stair_state.proofs.AloneLemmas.{encodings_without_seats, image_without_seats}
use Rattle.stair_state.proofs.OutsideLemmas.{looks_stand, unwritten_ran}
use Rattle.stair_state.proofs.ReturnLemmas.{looked_consistent}
use Rattle.stair_invariant.specs.Returning.{AnyReturns, StaysWithinTolerance, NoneReturns, Returning, StandsFor}
use Rattle.stair_array.proofs.KeepLemmas.{no_writes}
use Rattle.stair_array.specs.Calls.{refused}
use Rattle.stair_array.specs.Machine.{Answer, EpochsSpent, Recover, Refusal, Step, TooFew}
use Rattle.stair_array.specs.Promise.{Begun, Closed, EndsIn, Ends, Found, GoesOn, IsInState, Keeps, Opened, Seen, ServesState, Phase, StartsFrom, is_open}
use Rattle.stair_invariant.specs.Session.{ArrayState}
use Rattle.stair_command.specs.Action.{Action, Create, Outcome, Survey}
use Rattle.stair_command.specs.Devices.{DeviceView, Devices, WorksAll, seen_of, session_after}
use Rattle.stair_command.specs.Run.{ItemLeads, Goes, StaysWithinToleranceUpTo, IsUpTo, Runs, TraceLeads, now, stop_of}
use Rattle.stair_command.specs.Trace.{TraceItem, Found as FoundOut, Took, TookLast, TakeFailed, HasPut, PutFailed, Grew, RanOut, Did, Stepped, AlongTrace}
use Rattle.stair_command.proofs.CreateLaws.{unwritten_upto}

-- ---- histories

-- a moment of a stretch comes before what follows the stretch
pub upto_end : {old c mid new : List Happening} → IsMoment old c mid → Ran any_call mid new → IsUpTo c new
upto_end {old} {c} {mid} {new} at ran = record {
  before = [];
  later = ran.more ++ at.later;
  from = refl;
  to = ran.is ∙ ap (λ h. ran.more ++ h) at.to ∙ sym (append_assoc ran.more at.later c);
}

pub upto_same : (h : List Happening) → IsUpTo h h
upto_same h = record { before = []; later = []; from = refl; to = refl }

upto_ran : {old new : List Happening} → Ran any_call old new → IsUpTo old new
upto_ran ran = moment_first ran.more ran.is

-- ---- states

-- what seats are known is forgotten
pub forgets : (returning : Returning) (s : State) (h : List Happening) → StandsFor returning s h → StandsFor returning (without_seats s) h
forgets NoneReturns s h stands = record {
  encodings = encodings_without_seats s stands.encodings;
  each = λ image is. image_without_seats s stands.encodings image (stands.each image is);
  orderly = stands.orderly;
  shrinks = stands.shrinks;
  seats = tt;
  steady = stands.steady;
}
forgets AnyReturns s h stands = looked_consistent s h h stands (ran_none h)

-- where nothing was written a rack goes on to represent a state whose seats aren't known
unwritten_stands : (returning : Returning) (s : State) (old new : List Happening) → s.seats ≡ None → StandsFor returning s old → Ran no_write old new
    → StaysWithinTolerance returning s.geometry false old new → StandsFor returning s new
unwritten_stands returning s old new unknown stands ran calm =
    subst (λ (t : State). StandsFor returning t new) (λ i. record s { seats = sym unknown i }) (still returning stands calm)
  where
    still : (returning : Returning) → StandsFor returning s old → StaysWithinTolerance returning s.geometry false old new → StandsFor returning (without_seats s) new
    still NoneReturns stands calm = looks_stand s old old new stands ran calm.1 (calm.0 new (moment_last ran.more ran.is))
    still AnyReturns stands calm = looked_consistent s old new stands ran

-- ---- refusals for good

-- the refusal that an array keeps
abbrev pub refusal_kept : Option FenceFault → Option Refusal
refusal_kept None = None
refusal_kept (Some fault) = Some (refused fault)

kept_stop : {T : Type 0} (answer : Result T Refusal) (kept : Option FenceFault) → Keeps answer kept → stop_of answer ≡ refusal_kept kept
kept_stop (Err (TooFew whys)) kept keeps = sym (ap refusal_kept keeps.1 ∙ ap Some keeps.2)
kept_stop (Err EpochsSpent) kept keeps = sym (ap refusal_kept keeps.1 ∙ ap Some keeps.2)
kept_stop _ kept keeps = sym (ap refusal_kept keeps)

-- the session's array keeps the refusal by which it was stopped
abbrev pub IsStoppedBy : Phase → Option Refusal → Type 0
IsStoppedBy Begun stopped = stopped ≡ None
IsStoppedBy (Found m) stopped = stopped ≡ None
IsStoppedBy (Opened a) stopped = stopped ≡ refusal_kept a.stopped
IsStoppedBy Closed stopped = ⊤

-- a step begins with an array that wasn't stopped
pub unstopped_from : (step : Step) (was : ArrayState) (session : Phase) (stopped : Option Refusal) → StartsFrom step was session → IsStoppedBy session stopped
    → stopped ≡ None
unstopped_from Recover was (Found m) stopped starts kept = kept
unstopped_from Recover was _ stopped starts kept = absurd starts
unstopped_from _ was (Opened a) stopped starts kept = kept ∙ ap refusal_kept starts.1
unstopped_from _ was _ stopped starts kept = absurd starts

-- and ends with one that keeps its refusal for good
ended_by : (step : Step) (answer : Answer step) (is : ArrayState) (session : Phase) → EndsIn step answer is session → IsStoppedBy session (stop_of answer)
ended_by step answer is session (Ends opens err same) = subst (λ (end : Phase). IsStoppedBy end (stop_of answer)) (sym same) tt
ended_by step answer is session (GoesOn opens keeps same) =
    subst (λ (end : Phase). IsStoppedBy end (stop_of answer)) (sym same) (kept_stop answer is.stopped keeps)

-- ---- items

module _ {R W : Type 0} (view : DeviceView R W) where
  abbrev h_of : Devices R W → List Happening
  h_of x = view.rack.history x.rack

  -- the rack is an array in this state, and the session keeps the refusal by which it was stopped
  pub record IsAt (returning : Returning) (before : List Happening) (s : State) (stopped : Option Refusal) (x : Devices R W) : Type 0 where
    pub is_in : IsInState returning before s (seen_of view x)
    pub kept : IsStoppedBy x.session stopped

  -- what holds after one item
  pub record OneGoes (returning : Returning) (before : List Happening) (s : State) (stopped : Option Refusal) (item : TraceItem) (x y : Devices R W) : Type 0 where
    pub state : State
    pub stop : Option Refusal
    pub goes : Goes returning before item (now s (h_of x) stopped) (now state (h_of y) stop)
    pub is_at : IsAt returning before state stop y
    pub geometry : state.geometry ≡ s.geometry

  same_ran : {allowed : ℕ → SlotCall → Type 0} (x y : Devices R W) → y ≡ x → Ran allowed (h_of x) (h_of y)
  same_ran {allowed} x y same = subst (λ (z : Devices R W). Ran allowed (h_of x) (h_of z)) (sym same) (ran_none (h_of x))

  still : (returning : Returning) (before : List Happening) (s : State) (stopped : Option Refusal) (item : TraceItem) (x y : Devices R W)
      → Goes returning before item (now s (h_of x) stopped) (now s (h_of x) stopped) → IsAt returning before s stopped x → y ≡ x
      → OneGoes returning before s stopped item x y
  still returning before s stopped item x y goes is_at same =
      subst (OneGoes returning before s stopped item x) (sym same)
      (record { state = s; stop = stopped; goes = goes; is_at = is_at; geometry = refl })

  -- what a session is before anything was done in it
  begun_serves : (returning : Returning) (before : List Happening) (s : State) (x : Devices R W) → x.session ≡ Begun
      → IsInState returning before s (seen_of view x) → (before ≡ h_of x) × (s.seats ≡ None)
  begun_serves returning before s x begun is_in =
      subst (λ (session : Phase). ServesState returning before s session (seen_of view x).told) begun is_in.serves

  module _ (honest : IsTrue view.rack.honest) where
    -- a rack goes on
    pub one_ran : (item : TraceItem) (x y : Devices R W) → WorksAll view item x y → Ran any_call (h_of x) (h_of y)
    one_ran (Did (Create g) came) x y works = ran_any (works.0.ran honest)
    one_ran (Did Survey found) x y works = ran_any (asked_ran 32 (h_of x) (h_of y) (works.0.asked honest))
    one_ran (Stepped step answer events left) x y works =
        elim works.0 [
          | inl does ↦ does.later.ran honest
          | inr stopped ↦ subst (λ (z : Seen). Ran any_call (h_of x) z.told.history) (sym stopped.same) (ran_none (h_of x))
        ]
    one_ran (FoundOut question) x y works = same_ran x y works
    one_ran (Took bytes) x y works = same_ran x y works
    one_ran (TookLast bytes) x y works = same_ran x y works
    one_ran (TakeFailed bytes) x y works = same_ran x y works
    one_ran (HasPut bytes) x y works = same_ran x y works
    one_ran (PutFailed bytes) x y works = same_ran x y works
    one_ran Grew x y works = same_ran x y works
    one_ran RanOut x y works = same_ran x y works

    pub works_ran : (trace : List TraceItem) (x y : Devices R W) → AlongTrace (WorksAll view) trace x y → Ran any_call (h_of x) (h_of y)
    works_ran [] x y works = same_ran x y works
    works_ran (item ∷ trace) x y works = ran_join (one_ran item x works.0 works.1) (works_ran trace works.0 y works.2)

    -- WHAT IS DONE TO AN ARRAY WITHOUT A STEP

    -- calm in a session in which nothing was done before
    begun_calm : (returning : Returning) (g : Geometry) (before h : List Happening) (x : Devices R W) → x.session ≡ Begun → before ≡ h_of x
        → StaysWithinTolerance returning g (is_open x.session) before h → StaysWithinTolerance returning g false (h_of x) h
    begun_calm returning g before h x begun begins calm =
        subst (λ (from : List Happening). StaysWithinTolerance returning g false from h) begins
        (subst (λ (session : Phase). StaysWithinTolerance returning g (is_open session) before h) begun calm)

    did_begun : (action : Action) (came : Outcome action) (x y : Devices R W) → WorksAll view (Did action came) x y → x.session ≡ Begun
    did_begun (Create g) came x y works = works.1
    did_begun Survey found x y works = works.1

    -- nothing was written by it up to a moment up to which it was calm
    did_unwritten : (returning : Returning) (array : Geometry) (action : Action) (came : Outcome action) (x y : Devices R W) (c : List Happening)
        → WorksAll view (Did action came) x y → IsMoment (h_of x) c (h_of y)
        → ((h : List Happening) → IsMoment (h_of x) h (h_of y) → IsUpTo h c → StaysWithinTolerance returning array false (h_of x) h) → Ran no_write (h_of x) c
    did_unwritten returning array (Create g) came x y c works at calm =
        no_writes (ran_before (works.0.ran honest) at)
        (unwritten_upto returning g array (seen_of view x).told (seen_of view y).told honest came c works.0 at calm)
    did_unwritten returning array Survey found x y c works at calm =
        unwritten_ran (ran_before (asked_ran 32 (h_of x) (h_of y) (works.0.asked honest)) at)

    -- so the rack represents its state at that moment
    pub did_stands : (returning : Returning) (before : List Happening) (s : State) (action : Action) (came : Outcome action) (x y : Devices R W)
        (c : List Happening) → WorksAll view (Did action came) x y → IsInState returning before s (seen_of view x) → IsMoment (h_of x) c (h_of y)
        → ((h : List Happening) → IsMoment (h_of x) h (h_of y) → IsUpTo h c → StaysWithinTolerance returning s.geometry (is_open x.session) before h)
        → StandsFor returning s c
    did_stands returning before s action came x y c works is_in at calm =
        let begun = did_begun action came x y works in
        let serves = begun_serves returning before s x begun is_in in
        let from = λ (h : List Happening) (is : IsMoment (h_of x) h (h_of y)) (upto : IsUpTo h c).
        begun_calm returning s.geometry before h x begun serves.0 (calm h is upto) in
        unwritten_stands returning s (h_of x) c serves.1 is_in.stands
        (did_unwritten returning s.geometry action came x y c works at from) (from c at (upto_same c))

    -- what the session has then
    found_serves : (returning : Returning) (before : List Happening) (s : State) (found : Result Membership SurveyFault) (x y : Devices R W)
        → Surveys found (seen_of view x).told (seen_of view y).told → before ≡ h_of x → StandsFor returning s before → s.seats ≡ None
        → ServesState returning before s (session_after found) (seen_of view y).told
    found_serves returning before s (Ok m) x y surveys begins stands unknown = ((seen_of view x).told, sym begins, stands, surveys, unknown)
    found_serves returning before s (Err fault) x y surveys begins stands unknown = tt

    found_kept : (found : Result Membership SurveyFault) (stopped : Option Refusal) → stopped ≡ None → IsStoppedBy (session_after found) stopped
    found_kept (Ok m) stopped none = none
    found_kept (Err fault) stopped none = tt

    did_serves : (returning : Returning) (before : List Happening) (s : State) (action : Action) (came : Outcome action) (x y : Devices R W)
        → WorksAll view (Did action came) x y → IsInState returning before s (seen_of view x)
        → ServesState returning before s y.session (seen_of view y).told
    did_serves returning before s (Create g) came x y works is_in =
        subst (λ (session : Phase). ServesState returning before s session (seen_of view y).told) (sym works.2) tt
    did_serves returning before s Survey found x y works is_in =
        let serves = begun_serves returning before s x works.1 is_in in
        subst (λ (session : Phase). ServesState returning before s session (seen_of view y).told) (sym works.2)
        (found_serves returning before s found x y works.0 serves.0
        (subst (λ (h : List Happening). StandsFor returning s h) (sym serves.0) is_in.stands) serves.1)

    did_kept : (action : Action) (came : Outcome action) (stopped : Option Refusal) (x y : Devices R W) → WorksAll view (Did action came) x y
        → IsStoppedBy x.session stopped → IsStoppedBy y.session stopped
    did_kept (Create g) came stopped x y works kept = subst (λ (session : Phase). IsStoppedBy session stopped) (sym works.2) tt
    did_kept Survey found stopped x y works kept =
        subst (λ (session : Phase). IsStoppedBy session stopped) (sym works.2)
        (found_kept found stopped (subst (λ (session : Phase). IsStoppedBy session stopped) works.1 kept))

    did_goes : (returning : Returning) (before : List Happening) (s : State) (stopped : Option Refusal) (action : Action) (came : Outcome action)
        (x y : Devices R W) → WorksAll view (Did action came) x y → IsAt returning before s stopped x
        → ((c : List Happening) → IsMoment (h_of x) c (h_of y) → StaysWithinTolerance returning s.geometry (is_open x.session) before c)
        → OneGoes returning before s stopped (Did action came) x y
    did_goes returning before s stopped action came x y works is_at calm =
        let ran = one_ran (Did action came) x y works in
        record {
          state = s;
          stop = stopped;
          goes = record { state = refl; stopped = refl; later = upto_ran ran };
          is_at = record {
            is_in = record {
              stands = did_stands returning before s action came x y (h_of y) works is_at.is_in (moment_last ran.more ran.is) (λ h at upto. calm h at);
              serves = did_serves returning before s action came x y works is_at.is_in;
            };
            kept = did_kept action came stopped x y works is_at.kept;
          };
          geometry = refl;
        }

    -- STEPS

    stepped_goes : (returning : Returning) (before : List Happening) (s : State) (stopped : Option Refusal) (step : Step) (answer : Answer step)
        (events : List Event) (left : Bool) (x y : Devices R W) → WorksAll view (Stepped step answer events left) x y
        → ItemLeads returning view (Stepped step answer events left) x y → IsHistory (h_of x) → IsAt returning before s stopped x
        → ((c : List Happening) → IsMoment (h_of x) c (h_of y) → StaysWithinTolerance returning s.geometry (is_open x.session) before c)
        → OneGoes returning before s stopped (Stepped step answer events left) x y
    stepped_goes returning before s stopped step answer events left x y works led history is_at calm =
        elim works.0 [
          | inl does ↦
              let ran = does.later.ran honest in
              let leads = (led does).leads honest before s history is_at.is_in (calm (h_of y) (moment_last ran.more ran.is)) in
              record {
                state = leads.state;
                stop = stop_of answer;
                goes = inl (record {
                  unstopped = unstopped_from step does.was x.session stopped does.starts is_at.kept;
                  stops = refl;
                  later = upto_ran ran;
                  member = does.was.member;
                  last = does.is.member;
                  events_are = does.events_are;
                  is_step = leads.is_step;
                });
                is_at = record { is_in = leads.is_in; kept = ended_by step answer does.is y.session does.ends };
                geometry = leads.is_step.row.geometry;
              }
          | inr refused_again ↦
              let same : h_of y ≡ h_of x = ap (λ (z : Seen). z.told.history) refused_again.same in
              let opened = subst (λ (session : Phase). IsStoppedBy session stopped) refused_again.is_open is_at.kept in
              record {
                state = s;
                stop = stopped;
                goes = inr (record {
                  refusal = refused refused_again.fault;
                  stopped = opened ∙ ap refusal_kept refused_again.stopped;
                  answered = refused_again.answered;
                  same = ap (λ (h : List Happening). now s h stopped) same;
                });
                is_at = record {
                  is_in = subst (IsInState returning before s) (sym refused_again.same) is_at.is_in;
                  kept = subst (λ (z : Seen). IsStoppedBy z.session stopped) (sym refused_again.same) is_at.kept;
                };
                geometry = refl;
              }
        ]

    pub one_goes : (returning : Returning) (before : List Happening) (s : State) (stopped : Option Refusal) (item : TraceItem) (x y : Devices R W)
        → WorksAll view item x y → ItemLeads returning view item x y → IsHistory (h_of x) → IsAt returning before s stopped x
        → ((c : List Happening) → IsMoment (h_of x) c (h_of y) → StaysWithinTolerance returning s.geometry (is_open x.session) before c)
        → OneGoes returning before s stopped item x y
    one_goes returning before s stopped (Did action came) x y works led history is_at calm =
        did_goes returning before s stopped action came x y works is_at calm
    one_goes returning before s stopped (Stepped step answer events left) x y works led history is_at calm =
        stepped_goes returning before s stopped step answer events left x y works led history is_at calm
    one_goes returning before s stopped (FoundOut question) x y works led history is_at calm =
        still returning before s stopped (FoundOut question) x y refl is_at works
    one_goes returning before s stopped (Took bytes) x y works led history is_at calm = still returning before s stopped (Took bytes) x y refl is_at works
    one_goes returning before s stopped (TookLast bytes) x y works led history is_at calm =
        still returning before s stopped (TookLast bytes) x y refl is_at works
    one_goes returning before s stopped (TakeFailed bytes) x y works led history is_at calm =
        still returning before s stopped (TakeFailed bytes) x y refl is_at works
    one_goes returning before s stopped (HasPut bytes) x y works led history is_at calm = still returning before s stopped (HasPut bytes) x y refl is_at works
    one_goes returning before s stopped (PutFailed bytes) x y works led history is_at calm =
        still returning before s stopped (PutFailed bytes) x y refl is_at works
    one_goes returning before s stopped Grew x y works led history is_at calm = still returning before s stopped Grew x y refl is_at works
    one_goes returning before s stopped RanOut x y works led history is_at calm = still returning before s stopped RanOut x y refl is_at works

    -- ---- AT THE END

    -- the trace is a run from this state and refusal
    pub record RunsOn (returning : Returning) (before : List Happening) (s : State) (stopped : Option Refusal) (trace : List TraceItem) (x y : Devices R W)
        : Type 0 where
      pub state : State
      pub stop : Option Refusal
      pub runs : Runs returning before trace (now s (h_of x) stopped) (now state (h_of y) stop)
      pub is_at : IsAt returning before state stop y
      pub geometry : state.geometry ≡ s.geometry

    -- a trace over which failures stay within tolerance is a run
    pub runs_on : (returning : Returning) (before : List Happening) (s : State) (stopped : Option Refusal) (trace : List TraceItem) (x y : Devices R W)
        (works : AlongTrace (WorksAll view) trace x y) → TraceLeads returning view trace x y works → IsHistory (h_of x) → IsAt returning before s stopped x
        → StaysWithinToleranceUpTo view returning s.geometry before (h_of y) trace x y works → RunsOn returning before s stopped trace x y
    runs_on returning before s stopped [] x y works led history is_at calm = record {
      state = s;
      stop = stopped;
      runs = ap (λ (z : Devices R W). now s (h_of z) stopped) works;
      is_at = subst (IsAt returning before s stopped) (sym works) is_at;
      geometry = refl;
    }
    runs_on returning before s stopped (item ∷ trace) x y works led history is_at calm =
        let later = works_ran trace works.0 y works.2 in
        let one = one_goes returning before s stopped item x works.0 works.1 led.0 history is_at (λ c at. calm.0 c at (upto_end at later)) in
        let rest =
        runs_on returning before one.state one.stop trace works.0 y works.2 led.1 (history_on history (one_ran item x works.0 works.1)) one.is_at
        (subst (λ (g : Geometry). StaysWithinToleranceUpTo view returning g before (h_of y) trace works.0 y works.2) (sym one.geometry) calm.1) in
        record {
          state = rest.state;
          stop = rest.stop;
          runs = (now one.state (h_of works.0) one.stop, one.goes, rest.runs);
          is_at = rest.is_at;
          geometry = rest.geometry ∙ one.geometry;
        }
