-- Calls over a rack, a session and watchers: one item, one after the other, and over a rack alone.
use Rattle.std.proofs.Common.{◌≡◌, ℕ, List, [], ◌∷◌, ◌++◌, append-nil, Result, Ok, Err, refl, sym, ap, subst}
use Rattle.std.specs.Prelude.{⊤}
use Rattle.stair_rack.specs.declared.watcher.Event.{Event}
use Rattle.std.specs.Result.{IsErrAnd}
use Rattle.stair_array.specs.Promise.{Begun, Closed, Phase}
use Rattle.stair_watch.specs.WatcherList.{AllStay, TellsAll}
use Rattle.stair_command.specs.Laws.{AreTold}
use Rattle.stair_watch.proofs.WatchLemmas.{all_told, stay_throughout, told_then}
use Rattle.stair_command.specs.declared.fault.Fault.{Fault}
use Rattle.stair_status.specs.declared.status.Status.{Status}
use Rattle.stair_status.specs.declared.status.Status.TheVariants.{OutputFault}
use Rattle.stair_command.specs.Fault.{status_after, status_of, status_of_fault}
use Rattle.stair_command.specs.Executes.{Counts, Gives, Holds, Executes}
use Rattle.stair_command.proofs.EndingLaws.{gives_along}
use Rattle.stair_command.proofs.ProgramLaws.{and_then, does, leads_then}
use Rattle.stair_command.proofs.RackLaws.{IsOffDevices, no_call_moves, still_along}
use Rattle.stair_command.specs.Action.{Action, Create, OkOf, Outcome, Survey}
use Rattle.stair_command.specs.Devices.{DeviceView, Devices, ExecutesWhole, ExecutesWith, WorksAll, devices, session_after}
use Rattle.stair_command.specs.Ending.{MakesNoCall, TakesNoStep, TakesNothing}
use Rattle.stair_command.specs.Outside.{Outside, SinkView, SourceView, Views, no_source, outside}
use Rattle.stair_command.specs.Program.{Program, Over, Ask, Take, Put, Allocate, Do, Try, RebuildAll, take_step}
use Rattle.stair_command.specs.Refused.{status_of_refusal}
use Rattle.stair_command.specs.Steps.{Takes}
use Rattle.stair_array.specs.Machine.{GivenBy, Refusal, Step}
use Rattle.stair_command.specs.Question.{IsReply, Reply}
use Rattle.stair_command.specs.Rack.{ExecutesOver, Works}
use Rattle.stair_command.specs.Trace.{TraceItem, Found, Took, TookLast, TakeFailed, HasPut, PutFailed, Grew, RanOut, Did, Stepped, IsPart, AlongTrace, StepsProgram, after, events_of_trace}

after_no_step : (action : Action) (k : OkOf action → Program) (outcome : Outcome action) → ((done : OkOf action) → TakesNoStep (k done))
    → TakesNoStep (after action k outcome)
after_no_step action k (Ok done) none = none done
after_no_step action k (Err refusal) none = tt

-- an answer that isn't refused
pub not_refused : {E : Type 0} (result : Result (Unit {0}) E) → ((fault : E) → result ≡ Err fault → ⊥) → result ≡ Ok tt
not_refused (Ok done) none = refl
not_refused (Err fault) none = absurd (none fault refl)

module _ {R W : Type 0} (view : DeviceView R W) where
  same_rack : {x y : Devices R W} → y ≡ x → y.rack ≡ x.rack
  same_rack same = ap (λ (d : Devices R W). d.rack) same

  pub one_item : (item : TraceItem) (program rest : Program) (x y : Devices R W) → TakesNoStep program → StepsProgram item program rest → WorksAll view item x y
      → Works view.rack item x.rack y.rack × TakesNoStep rest
  one_item (Found asked) (Ask question k) rest x y none moves works = (same_rack works, subst TakesNoStep (sym moves.3) (none moves.0 moves.2))
  one_item (Took bytes) (Take least most k short) rest x y none moves works = (same_rack works, subst TakesNoStep (sym moves.1) (none.0 bytes))
  one_item (TookLast bytes) (Take least most k short) rest x y none moves works = (same_rack works, subst TakesNoStep (sym moves.1) (none.1 bytes))
  one_item (TakeFailed bytes) (Take least most k short) rest x y none moves works = (same_rack works, subst TakesNoStep (sym moves.1) tt)
  one_item (HasPut bytes) (Put all program) rest x y none moves works = (same_rack works, subst TakesNoStep (sym moves.1) none)
  one_item (PutFailed bytes) (Put all program) rest x y none moves works = (same_rack works, subst TakesNoStep (sym moves.1) tt)
  one_item Grew (Allocate program) rest x y none moves works = (same_rack works, subst TakesNoStep (sym moves) none)
  one_item RanOut (Allocate program) rest x y none moves works = (same_rack works, subst TakesNoStep (sym moves) tt)
  one_item (Did (Create g) came) (Do action k) rest x y none moves works =
      (works.0, subst TakesNoStep (sym moves.2) (after_no_step action k moves.0 none))
  one_item (Did Survey came) (Do action k) rest x y none moves works =
      (works.0, subst TakesNoStep (sym moves.2) (after_no_step action k moves.0 none))
  one_item (Stepped did came events left) (Try step k) rest x y none moves works = absurd none
  one_item (Stepped did came events left) (RebuildAll slots done k) rest x y none moves works = absurd none
  one_item _ _ rest x y none moves works = absurd moves

  on_rack : (trace : List TraceItem) (program rest : Program) (x y : Devices R W) → TakesNoStep program → AlongTrace StepsProgram trace program rest
      → AlongTrace (WorksAll view) trace x y → AlongTrace (Works view.rack) trace x.rack y.rack
  on_rack [] program rest x y none follows works = same_rack works
  on_rack (item ∷ trace) program rest x y none follows works =
      let one = one_item item program follows.0 x works.0 none follows.1 works.1 in
      (works.0.rack, one.0, on_rack trace follows.0 rest works.0 y one.1 follows.2 works.2)

  -- So every law over a rack alone holds of a command that takes no step.
  pub over_rack : {S K : Type 0} (outside : Views S K) (program rest : Program) (a b : Outside S K) (x y : Devices R W) → TakesNoStep program
      → ExecutesWith view outside program rest a b x y → ExecutesOver view.rack outside program rest a b x.rack y.rack
  over_rack outside program rest a b x y none with = record {
    means = with.means;
    works = on_rack with.means.trace program rest x y none with.means.follows with.works;
  }

-- ---- a command that does one thing to an array, from over a rack alone

-- before anything is done to an array, and after it; no step is taken
abbrev pub ActsOnce : Program → Type 0
ActsOnce (Over status) = ⊤
ActsOnce (Ask question k) = (reply : Reply question) → IsReply question reply → ActsOnce (k reply)
ActsOnce (Take least most k short) = ((bytes : List ℕ) → ActsOnce (k bytes)) × ((bytes : List ℕ) → ActsOnce (short bytes))
ActsOnce (Put bytes program) = ActsOnce program
ActsOnce (Allocate program) = ActsOnce program
ActsOnce (Do action k) = (done : OkOf action) → MakesNoCall (k done)
ActsOnce (Try step k) = ⊥
ActsOnce (RebuildAll slots done k) = ⊥

-- a program that makes no call takes no step
pub call_no_step : (program : Program) → MakesNoCall program → TakesNoStep program
call_no_step (Over status) none = tt
call_no_step (Ask question k) none = λ reply is. call_no_step (k reply) (none reply is)
call_no_step (Take least most k short) none = (λ bytes. call_no_step (k bytes) (none.0 bytes), λ bytes. call_no_step (short bytes) (none.1 bytes))
call_no_step (Put bytes program) none = call_no_step program none
call_no_step (Allocate program) none = call_no_step program none
call_no_step (Do action k) none = absurd none
call_no_step (Try step k) none = absurd none
call_no_step (RebuildAll slots done k) none = absurd none

-- nor does one that acts once
pub once_no_step : (program : Program) → ActsOnce program → TakesNoStep program
once_no_step (Over status) once = tt
once_no_step (Ask question k) once = λ reply is. once_no_step (k reply) (once reply is)
once_no_step (Take least most k short) once = (λ bytes. once_no_step (k bytes) (once.0 bytes), λ bytes. once_no_step (short bytes) (once.1 bytes))
once_no_step (Put bytes program) once = once_no_step program once
once_no_step (Allocate program) once = once_no_step program once
once_no_step (Do action k) once = λ done. call_no_step (k done) (once done)
once_no_step (Try step k) once = absurd once
once_no_step (RebuildAll slots done k) once = absurd once

pub calls_once : (program : Program) → MakesNoCall program → ActsOnce program
calls_once (Over status) none = tt
calls_once (Ask question k) none = λ reply is. calls_once (k reply) (none reply is)
calls_once (Take least most k short) none = (λ bytes. calls_once (k bytes) (none.0 bytes), λ bytes. calls_once (short bytes) (none.1 bytes))
calls_once (Put bytes program) none = calls_once program none
calls_once (Allocate program) none = calls_once program none
calls_once (Do action k) none = absurd none
calls_once (Try step k) none = absurd none
calls_once (RebuildAll slots done k) none = absurd none

after_none : (action : Action) (k : OkOf action → Program) (outcome : Outcome action) → ((done : OkOf action) → MakesNoCall (k done))
    → MakesNoCall (after action k outcome)
after_none action k (Ok done) none = none done
after_none action k (Err refusal) none = tt

module _ {R W : Type 0} (view : DeviceView R W) (watchers : List W) where
  abbrev beside : Phase → R → Devices R W
  beside session rack = devices rack session watchers

  -- an item that makes no call leaves all
  still_beside : (session : Phase) (item : TraceItem) (x y : R) → IsOffDevices item → Works view.rack item x y
      → WorksAll view item (beside session x) (beside session y)
  still_beside session (Found asked) x y off works = ap (beside session) works
  still_beside session (Took bytes) x y off works = ap (beside session) works
  still_beside session (TookLast bytes) x y off works = ap (beside session) works
  still_beside session (TakeFailed bytes) x y off works = ap (beside session) works
  still_beside session (HasPut bytes) x y off works = ap (beside session) works
  still_beside session (PutFailed part) x y off works = ap (beside session) works
  still_beside session Grew x y off works = ap (beside session) works
  still_beside session RanOut x y off works = ap (beside session) works
  still_beside session (Did action outcome) x y off works = absurd off
  still_beside session (Stepped step answer events left) x y off works = absurd off

  -- a program that makes no call
  all_beside : (session : Phase) (trace : List TraceItem) (program rest : Program) (x y : R) → MakesNoCall program → AlongTrace StepsProgram trace program rest
      → AlongTrace (Works view.rack) trace x y → AlongTrace (WorksAll view) trace (beside session x) (beside session y)
  all_beside session [] program rest x y none follows works = ap (beside session) works
  all_beside session (item ∷ trace) program rest x y none follows works =
      let one = no_call_moves item program follows.0 none follows.1 in (
        beside session works.0,
        still_beside session item x works.0 one.0 works.1,
        all_beside session trace follows.0 rest works.0 y one.1 follows.2 works.2,
      )

  -- what is done to an array where nothing was done before in the session
  done_beside : (action : Action) (outcome : Outcome action) (x y : R) → Works view.rack (Did action outcome) x y
      → (session : Phase) × WorksAll view (Did action outcome) (beside Begun x) (beside session y)
  done_beside (Create g) outcome x y works = (Closed, (works, refl, refl, refl))
  done_beside Survey outcome x y works = (session_after outcome, (works, refl, refl, refl))

  -- what comes after an item that leaves all
  beside_then : (item : TraceItem) (trace : List TraceItem) (x z y : R) → IsOffDevices item → Works view.rack item x z
      → (session : Phase) × AlongTrace (WorksAll view) trace (beside Begun z) (beside session y)
      → (session : Phase) × AlongTrace (WorksAll view) (item ∷ trace) (beside Begun x) (beside session y)
  beside_then item trace x z y off works later = (later.0, (beside Begun z, still_beside Begun item x z off works, later.1))

  once_beside : (trace : List TraceItem) (program rest : Program) (x y : R) → ActsOnce program → AlongTrace StepsProgram trace program rest → AlongTrace (Works view.rack) trace x y
      → (session : Phase) × AlongTrace (WorksAll view) trace (beside Begun x) (beside session y)
  once_beside [] program rest x y once follows works = (Begun, ap (beside Begun) works)
  once_beside (Found asked ∷ trace) (Ask question k) rest x y once follows works =
      beside_then (Found asked) trace x works.0 y tt works.1
      (once_beside trace follows.0 rest works.0 y (subst ActsOnce (sym follows.1.3) (once follows.1.0 follows.1.2)) follows.2 works.2)
  once_beside (Took bytes ∷ trace) (Take least most k short) rest x y once follows works =
      beside_then (Took bytes) trace x works.0 y tt works.1
      (once_beside trace follows.0 rest works.0 y (subst ActsOnce (sym follows.1.1) (once.0 bytes)) follows.2 works.2)
  once_beside (TookLast bytes ∷ trace) (Take least most k short) rest x y once follows works =
      beside_then (TookLast bytes) trace x works.0 y tt works.1
      (once_beside trace follows.0 rest works.0 y (subst ActsOnce (sym follows.1.1) (once.1 bytes)) follows.2 works.2)
  once_beside (TakeFailed bytes ∷ trace) (Take least most k short) rest x y once follows works =
      beside_then (TakeFailed bytes) trace x works.0 y tt works.1
      (once_beside trace follows.0 rest works.0 y (subst ActsOnce (sym follows.1.1) tt) follows.2 works.2)
  once_beside (HasPut bytes ∷ trace) (Put all program) rest x y once follows works =
      beside_then (HasPut bytes) trace x works.0 y tt works.1
      (once_beside trace follows.0 rest works.0 y (subst ActsOnce (sym follows.1.1) once) follows.2 works.2)
  once_beside (PutFailed part ∷ trace) (Put all program) rest x y once follows works =
      beside_then (PutFailed part) trace x works.0 y tt works.1
      (once_beside trace follows.0 rest works.0 y (subst ActsOnce (sym follows.1.1) tt) follows.2 works.2)
  once_beside (Grew ∷ trace) (Allocate program) rest x y once follows works =
      beside_then Grew trace x works.0 y tt works.1
      (once_beside trace follows.0 rest works.0 y (subst ActsOnce (sym follows.1) once) follows.2 works.2)
  once_beside (RanOut ∷ trace) (Allocate program) rest x y once follows works =
      beside_then RanOut trace x works.0 y tt works.1
      (once_beside trace follows.0 rest works.0 y (subst ActsOnce (sym follows.1) tt) follows.2 works.2)
  once_beside (Did action outcome ∷ trace) (Do asked k) rest x y once follows works =
      let done = done_beside action outcome x works.0 works.1 in (
        done.0,
        (
          beside done.0 works.0,
          done.1,
          all_beside done.0 trace follows.0 rest works.0 y (subst MakesNoCall (sym follows.1.2) (after_none asked k follows.1.0 once)) follows.2 works.2,
        ),
      )
  once_beside (Stepped did came events left ∷ trace) (Try step k) rest x y once follows works = absurd once
  once_beside (Stepped did came events left ∷ trace) (RebuildAll slots done k) rest x y once follows works = absurd once
  once_beside (item ∷ trace) program rest x y once follows works = absurd follows.1

-- ---- calls

module _ {R W S K : Type 0} (view : DeviceView R W) (streams : Views S K) where
  pub with_then : {program mid rest : Program} {a b c : Outside S K} {x y z : Devices R W} → ExecutesWith view streams program mid a b x y
      → ExecutesWith view streams mid rest b c y z → ExecutesWith view streams program rest a c x z
  with_then {program} {mid} {rest} {a} {b} {c} {x} {y} {z} first later = record {
    means = and_then streams first.means later.means;
    works = leads_then (WorksAll view) first.means.trace later.means.trace x y z first.works later.works;
  }

  -- one item
  pub with_one : (item : TraceItem) (program rest : Program) (a b : Outside S K) (x y : Devices R W) → StepsProgram item program rest
      → Gives streams.source item a.source b.source → Holds streams.sink item a.sink b.sink → Counts item a.counter b.counter
      → WorksAll view item x y → ExecutesWith view streams program rest a b x y
  with_one item program rest a b x y moves gives holds counts works =
      record { means = does streams item program rest a b moves gives holds counts; works = (y, works, refl) }

  pub with_none : (program : Program) (a : Outside S K) (x : Devices R W) → ExecutesWith view streams program program a a x x
  with_none program a x = record {
    means = record { trace = []; follows = refl; bears = record { gives = refl; holds = refl; counts = refl } };
    works = refl;
  }

  -- a step that was done, and one that was refused
  pub with_step : (slots : ℕ) (step : Step) (given : GivenBy step) (k : GivenBy step → Program) (a : Outside S K) (x y : Devices R W)
      → Takes view step (Ok given) x y → ExecutesWith view streams (take_step slots step k) (k given) a a x y
  with_step slots step given k a x y takes =
      with_one (Stepped step (Ok given) takes.events takes.left) (take_step slots step k) (k given) a a x y (Ok given, refl, refl) refl refl refl takes.works

  pub with_refusal : (slots : ℕ) (step : Step) (refusal : Refusal) (k : GivenBy step → Program) (a : Outside S K) (x y : Devices R W)
      → Takes view step (Err refusal) x y → ExecutesWith view streams (take_step slots step k) (Over (status_of_refusal slots refusal)) a a x y
  with_refusal slots step refusal k a x y takes =
      with_one (Stepped step (Err refusal) takes.events takes.left) (take_step slots step k) (Over (status_of_refusal slots refusal)) a a x y
      (Err refusal, refl, refl) refl refl refl takes.works

  -- all was put out, or a part of it
  pub with_put : (bytes : List ℕ) (program : Program) (source : S) (sink later : K) (n : ℕ) (x : Devices R W) → Holds streams.sink (HasPut bytes) sink later
      → ExecutesWith view streams (Put bytes program) program (outside source sink n) (outside source later n) x x
  with_put bytes program source sink later n x holds =
      with_one (HasPut bytes) (Put bytes program) program (outside source sink n) (outside source later n) x x (refl, refl) refl holds refl refl

  pub with_part : (bytes part : List ℕ) (program : Program) (source : S) (sink later : K) (n : ℕ) (x : Devices R W) → IsPart part bytes
      → Holds streams.sink (PutFailed part) sink later
      → ExecutesWith view streams (Put bytes program) (Over OutputFault) (outside source sink n) (outside source later n) x x
  with_part bytes part program source sink later n x is holds =
      with_one (PutFailed part) (Put bytes program) (Over OutputFault) (outside source sink n) (outside source later n) x x (is, refl) refl holds refl refl

  -- a program that makes no call
  pub with_still : (program rest : Program) (a b : Outside S K) (x : R) (session : Phase) (watchers : List W) → MakesNoCall program
      → Executes streams program rest a b → ExecutesWith view streams program rest a b (devices x session watchers) (devices x session watchers)
  with_still program rest a b x session watchers none means =
      record {
        means = means;
        works = all_beside view watchers session means.trace program rest x x none means.follows
            (still_along view.rack means.trace program rest x none means.follows);
      }

  -- a whole call that does one thing to an array at most, from a session's beginning on
  pub with_once : (program rest : Program) (a b : Outside S K) (x y : R) (watchers : List W) → ActsOnce program → ExecutesOver view.rack streams program rest a b x y
      → ExecutesWhole view streams program rest a b x y watchers watchers
  with_once program rest a b x y watchers once over =
      let led = once_beside view watchers over.means.trace program rest x y once over.means.follows over.works in
      record { session = led.0; with = record { means = over.means; works = led.1 } }

  -- what comes before any call on the devices
  pub whole_behind : (program mid rest : Program) (a b c : Outside S K) (x y : R) (watchers left : List W)
      → ExecutesWith view streams program mid a b (devices x Begun watchers) (devices x Begun watchers)
      → ExecutesWhole view streams mid rest b c x y watchers left → ExecutesWhole view streams program rest a c x y watchers left
  whole_behind program mid rest a b c x y watchers left front whole = record { session = whole.session; with = with_then front whole.with }

  -- a fault that was handed on
  pub with_hands_on : (program : Program) (a b : Outside S K) (x y : Devices R W) (result : Result Status Fault) (fault : Fault)
      → IsErrAnd result (λ f. f ≡ fault) → ExecutesWith view streams program (Over (status_of_fault fault)) a b x y
      → ExecutesWith view streams program (Over (status_of result)) a b x y
  with_hands_on program a b x y (Ok status) fault is means = absurd is
  with_hands_on program a b x y (Err f) fault is means =
      subst (λ (k : Fault). ExecutesWith view streams program (Over (status_of_fault k)) a b x y) (sym is) means

  pub with_passes_on : (program : Program) (a b : Outside S K) (x y : Devices R W) (result : Result (Unit {0}) Fault) (fault : Fault)
      → IsErrAnd result (λ f. f ≡ fault) → ExecutesWith view streams program (Over (status_of_fault fault)) a b x y
      → ExecutesWith view streams program (Over (status_after result)) a b x y
  with_passes_on program a b x y (Ok done) fault is means = absurd is
  with_passes_on program a b x y (Err f) fault is means =
      subst (λ (k : Fault). ExecutesWith view streams program (Over (status_of_fault k)) a b x y) (sym is) means

module _ {R W S K : Type 0} (view : DeviceView R W) (streams : Views S K) where
  -- a fault that a whole call handed on
  pub whole_hands_on : (program : Program) (a b : Outside S K) (x y : R) (watchers left : List W) (result : Result Status Fault) (fault : Fault)
      → IsErrAnd result (λ f. f ≡ fault) → ExecutesWhole view streams program (Over (status_of_fault fault)) a b x y watchers left
      → ExecutesWhole view streams program (Over (status_of result)) a b x y watchers left
  whole_hands_on program a b x y watchers left result fault is whole = record {
    session = whole.session;
    with = with_hands_on view streams program a b _ _ result fault is whole.with;
  }

-- What follows a program that takes nothing does so over each source, and so does a whole call.
module _ {R W S K : Type 0} (view : DeviceView R W) (source : SourceView S) (sink : SinkView K) where
  pub with_source : (program rest : Program) (held later : K) (n n' : ℕ) (x y : Devices R W) → TakesNothing program
      → ExecutesWith view (record { source = no_source; sink = sink }) program rest (outside tt held n) (outside tt later n') x y
      → (s : S) → ExecutesWith view (record { source = source; sink = sink }) program rest (outside s held n) (outside s later n') x y
  with_source program rest held later n n' x y none with s = record {
    means = record {
      trace = with.means.trace;
      follows = with.means.follows;
      bears = record {
        gives = gives_along source with.means.trace program rest s none with.means.follows;
        holds = with.means.bears.holds;
        counts = with.means.bears.counts;
      };
    };
    works = with.works;
  }

  pub any_source : (program rest : Program) (held later : K) (n n' : ℕ) (x y : R) (watchers left : List W) → TakesNothing program
      → ExecutesWhole view (record { source = no_source; sink = sink }) program rest (outside tt held n) (outside tt later n') x y watchers left
      → (s : S) → ExecutesWhole view (record { source = source; sink = sink }) program rest (outside s held n) (outside s later n') x y watchers left
  any_source program rest held later n n' x y watchers left none whole s =
      record { session = whole.session; with = with_source program rest held later n n' _ _ none whole.with s }

-- ---- watchers

module _ {R W : Type 0} (view : DeviceView R W) where
  -- the watchers of an item that isn't a step
  same_watchers : (x y : Devices R W) → y ≡ x → y.watchers ≡ x.watchers
  same_watchers x y same = ap (λ (d : Devices R W). d.watchers) same

  one_told : (item : TraceItem) (x y : Devices R W) → WorksAll view item x y → TellsAll view.watcher (events_of_trace (item ∷ [])) x.watchers y.watchers
  one_told (Found asked) x y works = same_watchers x y works
  one_told (Took bytes) x y works = same_watchers x y works
  one_told (TookLast bytes) x y works = same_watchers x y works
  one_told (TakeFailed bytes) x y works = same_watchers x y works
  one_told (HasPut bytes) x y works = same_watchers x y works
  one_told (PutFailed part) x y works = same_watchers x y works
  one_told Grew x y works = same_watchers x y works
  one_told RanOut x y works = same_watchers x y works
  one_told (Did (Create g) outcome) x y works = works.3
  one_told (Did Survey outcome) x y works = works.3
  one_told (Stepped step answer events left) x y works =
      subst (λ (all : List Event). TellsAll view.watcher all x.watchers y.watchers) (sym (append-nil events)) works.1

  -- the events of a trace are those of its first item, and of the rest
  events_join : (item : TraceItem) (trace : List TraceItem) → events_of_trace (item ∷ trace) ≡ events_of_trace (item ∷ []) ++ events_of_trace trace
  events_join (Stepped step answer events left) trace =
      ap (λ (first : List Event). first ++ events_of_trace trace) (sym (append-nil events))
  events_join (Found asked) trace = refl
  events_join (Took bytes) trace = refl
  events_join (TookLast bytes) trace = refl
  events_join (TakeFailed bytes) trace = refl
  events_join (HasPut bytes) trace = refl
  events_join (PutFailed part) trace = refl
  events_join Grew trace = refl
  events_join RanOut trace = refl
  events_join (Did action outcome) trace = refl

  -- All were told the events of the trace, in order.
  pub trace_told : (trace : List TraceItem) (x y : Devices R W) → AlongTrace (WorksAll view) trace x y
      → TellsAll view.watcher (events_of_trace trace) x.watchers y.watchers
  trace_told [] x y works = same_watchers x y works
  trace_told (item ∷ trace) x y works =
      subst (λ (events : List Event). TellsAll view.watcher events x.watchers y.watchers) (sym (events_join item trace))
      (told_then view.watcher (events_of_trace (item ∷ [])) (events_of_trace trace) x.watchers works.0.watchers y.watchers
      (one_told item x works.0 works.1) (trace_told trace works.0 y works.2))

  pub are_told : (trace : List TraceItem) (x y : Devices R W) → AllStay view.watcher x.watchers → AlongTrace (WorksAll view) trace x y
      → AreTold view.watcher trace x.watchers y.watchers
  are_told trace x y stay works =
      let told = trace_told trace x y works in
      record {
        told = told;
        left = all_told view.watcher (events_of_trace trace) x.watchers y.watchers stay told;
        stay = stay_throughout view.watcher (events_of_trace trace) x.watchers y.watchers stay told;
      }
