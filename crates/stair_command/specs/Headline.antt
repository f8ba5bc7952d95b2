-- What a whole call of the program means: a trace that the outside bears out, and that is a run of the machine on an honest
-- rack that is an array in a state.
use Rattle.std.specs.Prelude.{◌≡◌, Bool, false, IsErr, IsTrue, List, Ok, Result}
use Rattle.stair_model.specs.Geometry.{Geometry}
use Rattle.stair_rack.specs.Answers.{IsHistory}
use Rattle.stair_rack.specs.History.{Happening}
use Rattle.stair_rack.specs.Moments.{IsMoment}
use Rattle.stair_rack.specs.Stretch.{NothingReturned, NothingWritten}
use Rattle.stair_rack.specs.RackState.{RackState}
use Rattle.stair_rack.specs.declared.watcher.Event.{Event}
use Rattle.stair_state.specs.Holding.{IsConsistentUnderReassembly}
use Rattle.stair_state.specs.Represents.{Represents}
use Rattle.stair_state.specs.State.{State, without_seats}
use Rattle.stair_state.specs.Tolerance.{ToleratedSince}
use Rattle.stair_invariant.specs.Returning.{AnyReturns, StaysWithinTolerance, NoneReturns, Returning, StandsFor}
use Rattle.stair_array.specs.Creates.{Creates}
use Rattle.stair_array.specs.declared.fault.CreateFault.{CreateFault}
use Rattle.stair_array.specs.Machine.{GivenBy, Step}
use Rattle.stair_array.specs.Promise.{Begun, Phase}
use Rattle.stair_command.specs.Devices.{DeviceView, Devices, ExecutesWhole, ExecutesWith, WorksAll, devices}
use Rattle.stair_command.specs.Outside.{Outside, Views}
use Rattle.stair_command.specs.Program.{Program}
use Rattle.stair_command.specs.Run.{Goes, StaysWithinToleranceUpTo, IsRun, IsSafe, Now, StepLeads, TraceLeads, TakesStep, history_of}
use Rattle.stair_command.specs.Trace.{TraceItem, Stepped, AlongTrace, StepsProgram}

-- On an honest rack that represents a state, to which no medium comes back, and within tolerance from the beginning to the end,
-- the trace is a run of the machine.
abbrev pub RunsInTolerance : {R W : Type 0} → DeviceView R W → List TraceItem → Devices R W
    → Devices R W → Type 0
RunsInTolerance view trace x y = IsTrue view.rack.honest → (s : State)
    → IsHistory (history_of view x) → Represents s (history_of view x)
    → ToleratedSince s.geometry (history_of view x) (history_of view y)
    → NothingReturned (history_of view x) (history_of view y)
    → IsRun view NoneReturns (history_of view x) (without_seats s) trace x y

-- And where a crash comes, at any moment up to which that was so, it cuts the run within a step or between two.
abbrev pub IsSafeInTolerance : {R W : Type 0} → DeviceView R W → Program → List TraceItem
    → Devices R W → Devices R W → Type 0
IsSafeInTolerance view program trace x y = IsTrue view.rack.honest → (s : State)
    (c : List Happening) → IsHistory (history_of view x) → Represents s (history_of view x)
    → IsMoment (history_of view x) c (history_of view y)
    → ToleratedSince s.geometry (history_of view x) c
    → NothingReturned (history_of view x) c
    → IsSafe view NoneReturns (history_of view x) (without_seats s) program trace x y c

-- both, of a trace from a session's beginning on
pub record IsRunOf {R W : Type 0} (view : DeviceView R W) (program : Program) (trace : List TraceItem)
    (x y : Devices R W) : Type 0 where
  pub runs : RunsInTolerance view trace x y
  pub cuts : IsSafeInTolerance view program trace x y

-- Where media come back both are so of a rack that is consistent under reassembly: at each moment failures stay within tolerance, and
-- while the array isn't open they do in each image in which the slots are as they were at moments of their own.
abbrev pub RunsWherever : {R W : Type 0} → (view : DeviceView R W) → (trace : List TraceItem)
    → (x y : Devices R W) → AlongTrace (WorksAll view) trace x y → Type 0
RunsWherever view trace x y works = IsTrue view.rack.honest → (s : State)
    → IsHistory (history_of view x) → IsConsistentUnderReassembly s (history_of view x)
    → StaysWithinToleranceUpTo view AnyReturns s.geometry (history_of view x) (history_of view y) trace x y works
    → IsRun view AnyReturns (history_of view x) (without_seats s) trace x y

abbrev pub IsSafeWherever : {R W : Type 0} → (view : DeviceView R W) → Program
    → (trace : List TraceItem) → (x y : Devices R W) → AlongTrace (WorksAll view) trace x y → Type 0
IsSafeWherever view program trace x y works = IsTrue view.rack.honest → (s : State)
    (c : List Happening) → IsHistory (history_of view x)
    → IsConsistentUnderReassembly s (history_of view x)
    → IsMoment (history_of view x) c (history_of view y)
    → StaysWithinToleranceUpTo view AnyReturns s.geometry (history_of view x) c trace x y works
    → IsSafe view AnyReturns (history_of view x) (without_seats s) program trace x y c

pub record IsRunWherever {R W : Type 0} (view : DeviceView R W) (program : Program)
    (trace : List TraceItem) (x y : Devices R W) (works : AlongTrace (WorksAll view) trace x y) : Type 0
  where
    pub runs : RunsWherever view trace x y works
    pub cuts : IsSafeWherever view program trace x y works

-- A whole call: a session of its own, from its beginning on. What it has of an array in the end is let go.
pub record RefinesProgram {R W S K : Type 0} (view : DeviceView R W) (streams : Views S K)
    (program rest : Program) (old new : Outside S K) (first last : R) (watchers left : List W) : Type 0
  where
    pub session : Phase
    -- on any rack, source and sink
    pub over : ExecutesWith view streams program rest old new (devices first Begun watchers)
        (devices last session left)
    -- on an honest rack that is an array in a state, within tolerance
    pub runs : RunsInTolerance view over.means.trace (devices first Begun watchers)
        (devices last session left)
    pub cuts : IsSafeInTolerance view program over.means.trace (devices first Begun watchers)
        (devices last session left)
    -- and so it is where media come back
    pub wherever : IsRunWherever view program over.means.trace (devices first Begun watchers)
        (devices last session left) over.works

-- LAWS

-- A step that was acknowledged is one of the machine, so none is missing from a run.
abbrev pub AcknowledgedAreTaken : Type 0
AcknowledgedAreTaken = (returning : Returning) (before : List Happening) (step : Step)
    (given : GivenBy step) (events : List Event) (left : Bool) (old new : Now)
    → Goes returning before (Stepped step (Ok given) events left) old new
    → TakesStep returning before step (Ok given) events old new

-- A trace from the beginning of a session on an honest rack that is an array in a state is a run of the machine, where its
-- steps lead on and all of it was calm.
abbrev pub TracesAreRuns : (R W : Type 0) → Type 0
TracesAreRuns R W = (returning : Returning) (view : DeviceView R W) (s : State)
    (trace : List TraceItem) (x y : Devices R W) (works : AlongTrace (WorksAll view) trace x y)
    → IsTrue view.rack.honest → IsHistory (history_of view x) → x.session ≡ Begun
    → StandsFor returning s (history_of view x) → TraceLeads returning view trace x y works
    → StaysWithinToleranceUpTo view returning s.geometry (history_of view x) (history_of view y) trace x y works
    → IsRun view returning (history_of view x) (without_seats s) trace x y

-- A crash cuts it within a step or between two, at any moment up to which it was calm.
abbrev pub TracesAreCutSafely : (R W : Type 0) → Type 0
TracesAreCutSafely R W = (returning : Returning) (view : DeviceView R W) (s : State)
    (program rest : Program) (trace : List TraceItem) (x y : Devices R W)
    (works : AlongTrace (WorksAll view) trace x y) (c : List Happening) → AlongTrace StepsProgram trace program rest
    → IsTrue view.rack.honest → IsHistory (history_of view x) → x.session ≡ Begun
    → StandsFor returning s (history_of view x) → TraceLeads returning view trace x y works
    → IsMoment (history_of view x) c (history_of view y)
    → StaysWithinToleranceUpTo view returning s.geometry (history_of view x) c trace x y works
    → IsSafe view returning (history_of view x) (without_seats s) program trace x y c

-- While an array is within tolerance none is made on an honest rack, and no device is written, whether media come back or not.
-- The session is that of the call.
abbrev pub CreatesAreRefused : Type 0
CreatesAreRefused = (returning : Returning) (array g : Geometry)
    (came : Result (Unit {0}) CreateFault) (old new : RackState) → IsTrue new.honest
    → Creates g came old new
    → ((h : List Happening) → IsMoment old.history h new.history
    → StaysWithinTolerance returning array false old.history h)
    → IsErr came × NothingWritten old.history new.history

-- Without media that come back, what a call means over the devices of a session gives both.
abbrev pub CallsAreRuns : (R W S K : Type 0) → Type 0
CallsAreRuns R W S K = (view : DeviceView R W) (streams : Views S K) (program rest : Program)
    (old new : Outside S K) (first last : Devices R W)
    (with : ExecutesWith view streams program rest old new first last) → first.session ≡ Begun
    → TraceLeads NoneReturns view with.means.trace first last with.works
    → IsRunOf view program with.means.trace first last

-- With media that come back it does too.
abbrev pub CallsAreRunsWherever : (R W S K : Type 0) → Type 0
CallsAreRunsWherever R W S K = (view : DeviceView R W) (streams : Views S K) (program rest : Program)
    (old new : Outside S K) (first last : Devices R W)
    (with : ExecutesWith view streams program rest old new first last) → first.session ≡ Begun
    → TraceLeads AnyReturns view with.means.trace first last with.works
    → IsRunWherever view program with.means.trace first last with.works

-- all that is performed leads on
abbrev pub PerformedLeads : Returning → Type 0
PerformedLeads returning = (step : Step) → StepLeads returning step

-- Then every trace does.
abbrev pub TracesLead : (R W : Type 0) → Type 0
TracesLead R W = (returning : Returning) → PerformedLeads returning → (view : DeviceView R W)
    (trace : List TraceItem) (x y : Devices R W) (works : AlongTrace (WorksAll view) trace x y)
    → TraceLeads returning view trace x y works

-- And every call is borne out.
abbrev pub AllRefinePrograms : (R W S K : Type 0) → Type 0
AllRefinePrograms R W S K = (view : DeviceView R W) (streams : Views S K) (program rest : Program)
    (old new : Outside S K) (first last : R) (watchers left : List W)
    → ExecutesWhole view streams program rest old new first last watchers left
    → RefinesProgram view streams program rest old new first last watchers left
