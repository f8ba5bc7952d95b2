-- Sessions as parts of a life: a run, and a session that a crash cut, go on with a life; and calls of the program, one after the
-- other, on one array.
use Rattle.std.specs.Prelude.{◌≡◌, ◌⊎◌, ℕ, Bool, List, [], ◌∷◌, None, IsTrue, ⊤}
use Rattle.std.proofs.Common.{inl, inr}
use Rattle.stair_model.specs.Geometry.{Geometry}
use Rattle.stair_rack.specs.Answers.{IsHistory, Ran}
use Rattle.stair_rack.specs.Crash.{CrashMayLeave}
use Rattle.stair_rack.specs.History.{Happening, Made}
use Rattle.stair_rack.specs.Media.{Image}
use Rattle.stair_rack.specs.Moments.{IsMoment}
use Rattle.stair_rack.specs.Stretch.{NothingReturned}
use Rattle.stair_state.specs.Represents.{no_write}
use Rattle.stair_state.specs.State.{State, without_seats}
use Rattle.stair_state.specs.Tolerance.{IsTolerated, ToleratedSince}
use Rattle.stair_invariant.specs.Returning.{AnyReturns, NoneReturns, Returning, StandsFor, StandsForAlone}
use Rattle.stair_array.specs.Machine.{Step}
use Rattle.stair_array.specs.Promise.{Begun}
use Rattle.stair_command.specs.Devices.{DeviceView, Devices, WorksAll, devices}
use Rattle.stair_command.specs.Headline.{RefinesProgram}
use Rattle.stair_command.specs.Ending.{EachStep}
use Rattle.stair_command.specs.Lives.{EachReadsLast, Ended, IsWriteOf, Lives, NoneWrites, Took, Turn, WasCut}
use Rattle.stair_command.specs.Outside.{Outside, Views}
use Rattle.stair_command.specs.Program.{Program}
use Rattle.stair_command.specs.Run.{Goes, StaysWithinToleranceUpTo, IsNext, IsRun, IsSafe, Now, IsRefusedAgain, Runs, TakesStep, history_of, now}
use Rattle.stair_command.specs.Trace.{TraceItem, AlongTrace, Stepped}

-- A RUN AS TURNS

-- an item as a turn of a life: a step is one, and nothing else is, the answer of an array that was stopped neither
abbrev pub with_turn : (returning : Returning) (before : List Happening) (item : TraceItem) (old new : Now) → Goes returning before item old new → List Turn → List Turn
with_turn returning before (Stepped step answer events left) old new goes life = if_taken goes
  where
    if_taken : TakesStep returning before step answer events old new ⊎ IsRefusedAgain step answer old new → List Turn
    if_taken (inl taken) = Took step answer ∷ life
    if_taken (inr again) = life
with_turn returning before _ old new goes life = life

-- the turns of a run, after those of a life
abbrev pub turns_of : (returning : Returning) (before : List Happening) (trace : List TraceItem) (old new : Now) → Runs returning before trace old new → List Turn → List Turn
turns_of returning before [] old new runs life = life
turns_of returning before (item ∷ trace) old new runs life =
    turns_of returning before trace runs.0 new runs.2 (with_turn returning before item old runs.0 runs.1 life)

-- the turns of a session that a crash cut, after those of a life: where it left what the next step leaves, that one was cut
pub data TurnsOfCut {R W : Type 0} (view : DeviceView R W) (returning : Returning)
    (before : List Happening) (s : State) (program : Program) (trace : List TraceItem) (x y : Devices R W)
    (c : List Happening) (safe : IsSafe view returning before s program trace x y c)
    (life : List Turn) : List Turn → Type 0 where
  Between : TurnsOfCut view returning before s program trace x y c safe life
      (turns_of returning before safe.done (now s (history_of view x) None)
      (now safe.state (history_of view safe.mid) safe.stopped) safe.runs life)
  Within : (step : Step) → IsNext safe.rest step
      → TurnsOfCut view returning before s program trace x y c safe life
      (WasCut step ∷ turns_of returning before safe.done (now s (history_of view x) None)
      (now safe.state (history_of view safe.mid) safe.stopped) safe.runs life)

-- CALLS, ONE AFTER THE OTHER

-- Up to c the outside keeps to what is asked of it over a call with this trace: failures stay within tolerance, and no medium that
-- was pulled is put back; or, where media come back, they do in images in which the slots are as they were at moments of their own
-- too, while the array isn't open.
abbrev pub StaysWithinToleranceOver : {R W : Type 0} → (view : DeviceView R W) → Returning → Geometry
    → (c : List Happening) → (trace : List TraceItem) → (x y : Devices R W)
    → AlongTrace (WorksAll view) trace x y → Type 0
StaysWithinToleranceOver view NoneReturns g c trace x y works =
    ToleratedSince g (history_of view x) c × NothingReturned (history_of view x) c
StaysWithinToleranceOver view AnyReturns g c trace x y works = StaysWithinToleranceUpTo view AnyReturns g (history_of view x) c trace x y works

-- And between two calls: no medium is put back, and at the next one's beginning failures are within tolerance. Where media come
-- back nothing is asked.
abbrev pub StaysWithinToleranceMeanwhile : Returning → Geometry → List Happening → List Happening → Type 0
StaysWithinToleranceMeanwhile NoneReturns g old new = NothingReturned old new × IsTolerated g old new
StaysWithinToleranceMeanwhile AnyReturns g old new = ⊤

-- Calls on an array, of which this is what has happened to the rack that the next one begins with. Each call means what it
-- promises, and the outside keeps to what is asked of it.
pub data Calls {R W S K : Type 0} (view : DeviceView R W) (streams : Views S K)
    (returning : Returning) (first : State) : List Happening → Type 0 where
  -- an array is there
  Starts : (h : List Happening) → IsHistory h → StandsFor returning first h
      → Calls view streams returning first h
  -- One more call ended; until the next one begins media may fail, and the rack may be looked at.
  Ends : (later : List Happening) (program rest : Program) (old new : Outside S K) (x y : R)
      (watchers left : List W) → Calls view streams returning first (view.rack.history x)
      → (borne : RefinesProgram view streams program rest old new x y watchers left)
      → StaysWithinToleranceOver view returning first.geometry (view.rack.history y) borne.over.means.trace
      (devices x Begun watchers) (devices y borne.session left) borne.over.works
      → Ran no_write (view.rack.history y) later
      → StaysWithinToleranceMeanwhile returning first.geometry (view.rack.history y) later
      → Calls view streams returning first later
  -- A crash cut it at c, and the rack is made anew over what that left; until the next one begins it is as after one that ended.
  Cut : (c : List Happening) (image : Image) (later : List Happening) (program rest : Program)
      (old new : Outside S K) (x y : R)
      (watchers left : List W) → Calls view streams returning first (view.rack.history x)
      → (borne : RefinesProgram view streams program rest old new x y watchers left)
      → IsMoment (view.rack.history x) c (view.rack.history y)
      → StaysWithinToleranceOver view returning first.geometry c borne.over.means.trace
      (devices x Begun watchers) (devices y borne.session left) borne.over.works
      → CrashMayLeave c image → Ran no_write (Made image ∷ []) later
      → StaysWithinToleranceMeanwhile returning first.geometry (Made image ∷ []) later
      → Calls view streams returning first later

-- The life of these calls, up to a state: each call is a run from the state before, or was cut, and then its session ended.
abbrev pub IsLifeOf : {R W S K : Type 0} (view : DeviceView R W) (streams : Views S K)
    (returning : Returning) (first : State) (h : List Happening)
    → Calls view streams returning first h → List Turn → State → Type 0
IsLifeOf view streams returning first h (Starts h' history stands) life s =
    (life ≡ []) × (s ≡ without_seats first)
IsLifeOf view streams returning first h (Ends later program rest old new x y watchers left calls borne calm acted between) life s =
    (before : List Turn) × (from : State)
    × IsLifeOf view streams returning first (view.rack.history x) calls before from
    × (run : IsRun view returning (view.rack.history x) from borne.over.means.trace
    (devices x Begun watchers) (devices y borne.session left))
    × (life ≡ Ended ∷ turns_of returning (view.rack.history x) borne.over.means.trace
    (now from (view.rack.history x) None)
    (now run.state (view.rack.history y) run.stopped) run.runs before)
    × (s ≡ without_seats run.state)
IsLifeOf view streams returning first h (Cut c image later program rest old new x y watchers left calls borne at calm crash acted between) life s =
    (before : List Turn) × (from : State)
    × IsLifeOf view streams returning first (view.rack.history x) calls before from
    × (safe : IsSafe view returning (view.rack.history x) from program borne.over.means.trace
    (devices x Begun watchers) (devices y borne.session left) c)
    × (turns : List Turn)
    × TurnsOfCut view returning (view.rack.history x) from program borne.over.means.trace
    (devices x Begun watchers) (devices y borne.session left) c safe before turns
    × (life ≡ Ended ∷ turns) × (s.seats ≡ None)

-- LAWS

-- a life that goes on, after these turns, in a new session, whose rack is made over this image
pub record NextSession (returning : Returning) (first : State) (turns : List Turn) (image : Image)
    : Type 0 where
  pub state : State
  pub lives : Lives (Ended ∷ turns) first state
  pub unknown : state.seats ≡ None
  pub stands : StandsForAlone returning state image

-- a run goes on with a life
abbrev pub RunsAreLived : Type 0
RunsAreLived = (returning : Returning) (before : List Happening) (trace : List TraceItem)
    (old new : Now) (life : List Turn) (first : State) (runs : Runs returning before trace old new)
    → Lives life first old.state
    → Lives (turns_of returning before trace old new runs life) first new.state

-- And so does a session that is cut at a moment, by the turns of what the crash leaves; then the next one begins.
abbrev pub CrashesAreLived : (R W : Type 0) → Type 0
CrashesAreLived R W = (view : DeviceView R W) (returning : Returning) (before c : List Happening)
    (s first : State) (program : Program) (trace : List TraceItem) (x y : Devices R W) (life : List Turn)
    (image : Image) → Lives life first s
    → (safe : IsSafe view returning before s program trace x y c) → CrashMayLeave c image
    → (turns : List Turn) × TurnsOfCut view returning before s program trace x y c safe life turns
    × NextSession returning first turns image

-- A step that was cut is one of the plan's. So by a session whose program has no write of a block none is lived, whether it was
-- taken or cut.
abbrev pub CutsAreOfProgram : (R W : Type 0) → Type 0
CutsAreOfProgram R W = (view : DeviceView R W) (returning : Returning) (before c : List Happening)
    (s : State) (program : Program) (trace : List TraceItem) (x y : Devices R W) (life turns : List Turn)
    (safe : IsSafe view returning before s program trace x y c) (b : ℕ)
    → EachStep (λ step. ¬ IsWriteOf b step) program
    → TurnsOfCut view returning before s program trace x y c safe life turns
    → NoneWrites b life → NoneWrites b turns

-- what becomes of an array by some calls on it
pub record IsLived {R W S K : Type 0} (view : DeviceView R W) (streams : Views S K)
    (returning : Returning) (first : State) (h : List Happening)
    (calls : Calls view streams returning first h) : Type 0 where
  pub life : List Turn
  pub state : State
  pub is_of : IsLifeOf view streams returning first h calls life state
  pub lives : Lives life (without_seats first) state
  pub unknown : state.seats ≡ None
  pub stands : StandsFor returning state h
  -- one list of fates, given once for all, explains every read of all these calls
  pub explained : first.in_doubt ≡ None
      → (fates : List Bool) × EachReadsLast life fates first.content

-- Calls one after the other, each whole or cut by a crash, are one life, which explains every read, and the rack is the array
-- that it leads to, whether media come back or not.
abbrev pub CallsAreLived : (R W S K : Type 0) → Type 0
CallsAreLived R W S K = (view : DeviceView R W) (streams : Views S K) (returning : Returning)
    (first : State) (h : List Happening) (calls : Calls view streams returning first h)
    → IsTrue view.rack.honest → IsLived view streams returning first h calls
