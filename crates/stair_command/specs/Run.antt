-- What a call's trace is as a run of the machine, on an honest rack that is an array in a state: at its end, and where a crash
-- cuts it.
use Rattle.std.specs.Prelude.{◌≡◌, ◌⊎◌, List, [], ◌∷◌, ◌++◌, Option, None, Some, Result, Err, ⊤}
use Rattle.stair_model.specs.Geometry.{Geometry}
use Rattle.stair_rack.specs.Crash.{EachImage}
use Rattle.stair_rack.specs.History.{Happening}
use Rattle.stair_rack.specs.Media.{Image}
use Rattle.stair_rack.specs.Moments.{IsMoment}
use Rattle.stair_member.specs.Membership.{Membership}
use Rattle.stair_state.specs.State.{State}
use Rattle.stair_invariant.specs.Returning.{StaysWithinTolerance, Returning, StandsForAlone}
use Rattle.stair_array.specs.Events.{events_of}
use Rattle.stair_array.specs.Machine.{Answer, EpochsSpent, RebuildNext, Refusal, Step, TooFew}
use Rattle.stair_array.specs.Promise.{IsInState, IsLeftBy, IsStep, LeadsStep, Performs, Seen, is_open}
use Rattle.stair_rack.specs.declared.watcher.Event.{Event}
use Rattle.stair_command.specs.Devices.{DeviceView, Devices, KeepsRules, WorksAll, seen_of}
use Rattle.stair_command.specs.Program.{Program, Try, RebuildAll}
use Rattle.stair_command.specs.Trace.{TraceItem, Did, Stepped, AlongTrace, StepsProgram}

-- MOMENTS

-- h is c, or comes before it
abbrev pub IsUpTo : List Happening → List Happening → Type 0
IsUpTo h c = IsMoment h h c

-- c comes before h, and isn't it
pub record IsBefore (c h : List Happening) : Type 0 where
  pub next : Happening
  pub more : List Happening
  pub is : h ≡ next ∷ (more ++ c)

-- what has happened to the rack
abbrev pub history_of : {R W : Type 0} → DeviceView R W → Devices R W → List Happening
history_of view x = view.rack.history x.rack

-- RUNS

-- a state, what has happened to the rack, and the refusal by which the array was stopped earlier in the session, if it was
pub record Now : Type 0 where
  pub state : State
  pub history : List Happening
  pub stopped : Option Refusal

abbrev pub now : State → List Happening → Option Refusal → Now
now state history stopped = record { state = state; history = history; stopped = stopped }

-- the refusal by which this answer stops the array, if it does
abbrev pub stop_of : {T : Type 0} → Result T Refusal → Option Refusal
stop_of (Err (TooFew whys)) = Some (TooFew whys)
stop_of (Err EpochsSpent) = Some EpochsSpent
stop_of _ = None

-- A step of the machine, which a stopped array doesn't take. A refusal for good stops the array. The events that are reported
-- of it are what became of the slots since it began.
pub record TakesStep (returning : Returning) (before : List Happening) (step : Step)
    (answer : Answer step) (events : List Event) (old new : Now) : Type 0 where
  pub unstopped : old.stopped ≡ None
  pub stops : new.stopped ≡ stop_of answer
  pub later : IsUpTo old.history new.history
  -- what was known of the slots when it began, and in the end
  pub member : Membership
  pub last : Membership
  pub is_step : IsStep returning step answer member before new.history old.state new.state
  pub events_are : events ≡ events_of step answer member.array last.array

-- A stopped array answers the refusal by which it was stopped, and nothing happens.
pub record IsRefusedAgain (step : Step) (answer : Answer step) (old new : Now) : Type 0 where
  pub refusal : Refusal
  pub stopped : old.stopped ≡ Some refusal
  pub answered : answer ≡ Err refusal
  pub same : new ≡ old

-- what was done to the array left its state, and stopped nothing
pub record KeepsState (old new : Now) : Type 0 where
  pub state : new.state ≡ old.state
  pub stopped : new.stopped ≡ old.stopped
  pub later : IsUpTo old.history new.history

-- What an item is, in the session that began at `before`: a step of the machine, or the answer of an array that an earlier item
-- had stopped. An array that is looked for, or isn't made, keeps its state; at any other item nothing happens. So no step that
-- was acknowledged is missing.
abbrev pub Goes : Returning → List Happening → TraceItem → Now → Now → Type 0
Goes returning before (Stepped step answer events left) old new =
    TakesStep returning before step answer events old new ⊎ IsRefusedAgain step answer old new
Goes returning before (Did action outcome) old new = KeepsState old new
Goes returning before _ old new = new ≡ old

-- the trace is a run of the machine
abbrev pub Runs : Returning → List Happening → List TraceItem → Now → Now → Type 0
Runs returning before trace old new = AlongTrace (Goes returning before) trace old new

-- WITHIN TOLERANCE

-- Up to c failures stay within tolerance: at every moment of every item, the array being open or not as it was then.
abbrev pub StaysWithinToleranceUpTo : {R W : Type 0} → (view : DeviceView R W) → Returning → Geometry
    → (before c : List Happening) → (trace : List TraceItem) → (x y : Devices R W)
    → AlongTrace (WorksAll view) trace x y → Type 0
StaysWithinToleranceUpTo view returning g before c [] x y works = ⊤
StaysWithinToleranceUpTo view returning g before c (item ∷ trace) x y works =
    ((h : List Happening) → IsMoment (history_of view x) h (history_of view works.0)
    → IsUpTo h c → StaysWithinTolerance returning g (is_open x.session) before h)
    × StaysWithinToleranceUpTo view returning g before c trace works.0 y works.2

-- STEPS

-- what is performed of this step leads on as the machine does
abbrev pub StepLeads : Returning → Step → Type 0
StepLeads returning step = (answer : Answer step) (events : List Event) (x y : Seen)
    (performs : Performs step answer events x y) → KeepsRules x.session
    → LeadsStep returning performs.was.member step answer x y

-- a step that was performed led on as the machine does
abbrev pub ItemLeads : {R W : Type 0} → Returning → DeviceView R W → TraceItem → Devices R W
    → Devices R W → Type 0
ItemLeads returning view (Stepped step answer events left) x y =
    (performs : Performs step answer events (seen_of view x) (seen_of view y))
    → LeadsStep returning performs.was.member step answer (seen_of view x) (seen_of view y)
ItemLeads returning view _ x y = ⊤

-- so did each of the trace
abbrev pub TraceLeads : {R W : Type 0} → Returning → (view : DeviceView R W)
    → (trace : List TraceItem) → (x y : Devices R W) → AlongTrace (WorksAll view) trace x y → Type 0
TraceLeads returning view [] x y works = ⊤
TraceLeads returning view (item ∷ trace) x y works =
    ItemLeads returning view item x works.0 × TraceLeads returning view trace works.0 y works.2

-- AT THE END

-- the trace is a run from this state, and the rack is an array in the run's last state
pub record IsRun {R W : Type 0} (view : DeviceView R W) (returning : Returning)
    (before : List Happening) (s : State) (trace : List TraceItem) (x y : Devices R W) : Type 0 where
  pub state : State
  pub stopped : Option Refusal
  pub runs : Runs returning before trace (now s (history_of view x) None)
      (now state (history_of view y) stopped)
  pub is_in : IsInState returning before state (seen_of view y)

-- WHERE A CRASH CUTS IT

-- the step comes next in the program
abbrev pub IsNext : Program → Step → Type 0
IsNext (Try step k) next = next ≡ step
IsNext (RebuildAll slots done k) next = next ≡ RebuildNext
IsNext _ next = ⊥

-- the first of these items hadn't ended at c
abbrev pub IsOpenAt : {R W : Type 0} → (view : DeviceView R W) → List Happening
    → (trace : List TraceItem) → (x y : Devices R W) → AlongTrace (WorksAll view) trace x y → Type 0
IsOpenAt view c [] x y works = ⊤
IsOpenAt view c (item ∷ trace) x y works = IsBefore c (history_of view works.0)

-- the image represents what a crash at c leaves, within the next step of an array that wasn't stopped
pub record IsLeftByNext (returning : Returning) (before c : List Happening) (rest : Program)
    (from : Now) (image : Image) : Type 0 where
  pub step : Step
  pub next : IsNext rest step
  pub unstopped : from.stopped ≡ None
  pub member : Membership
  pub left : IsLeftBy returning step member before c from.state image

-- A crash at c leaves images of the state after all the items that had ended by then, or of what a crash within the next step
-- leaves.
pub record IsSafe {R W : Type 0} (view : DeviceView R W) (returning : Returning)
    (before : List Happening) (s : State) (program : Program) (trace : List TraceItem)
    (x y : Devices R W) (c : List Happening) : Type 0 where
  pub done : List TraceItem
  pub later : List TraceItem
  pub part : trace ≡ done ++ later
  -- what is left of the program
  pub rest : Program
  pub follows : AlongTrace StepsProgram done program rest
  -- the items that had ended, and those that hadn't
  pub mid : Devices R W
  pub ended : AlongTrace (WorksAll view) done x mid
  pub not_ended : AlongTrace (WorksAll view) later mid y
  pub ends_later : IsOpenAt view c later mid y not_ended
  pub reached : IsUpTo (history_of view mid) c
  -- the run up to there
  pub state : State
  pub stopped : Option Refusal
  pub runs : Runs returning before done (now s (history_of view x) None)
      (now state (history_of view mid) stopped)
  pub images : EachImage (λ image. StandsForAlone returning state image
      ⊎ IsLeftByNext returning before c rest (now state (history_of view mid) stopped) image) c
