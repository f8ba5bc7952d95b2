-- What follows of every call that means its program, by a predicate on the program.
use Rattle.std.specs.Prelude.{◌≡◌, ◌≢◌, List, IsTrue}
use Rattle.stair_rack.specs.Answers.{Ran}
use Rattle.stair_member.specs.Asked.{LeavesSectors}
use Rattle.stair_rack.specs.Watching.{WatcherView}
use Rattle.stair_watch.specs.WatcherList.{AllStay, AreLeft, TellsAll}
use Rattle.stair_status.specs.declared.status.Status.{Status}
use Rattle.stair_status.specs.declared.status.Status.TheVariants.{InputFault, OutOfMemory}
use Rattle.stair_command.specs.Devices.{DeviceView, Devices, ExecutesWith}
use Rattle.stair_command.specs.Ending.{AsksFirst, AsksUnwritten, EndsIn, IfNothingIsPutOut, IsNoFault, MakesNoCall, OnlyLooks, PutsLast, TakesNoStep, TakesNothing, TellsFaults}
use Rattle.stair_command.specs.Executes.{Executes}
use Rattle.stair_command.specs.Outside.{Outside, Views}
use Rattle.stair_command.specs.Program.{Program, Over}
use Rattle.stair_command.specs.Rack.{ExecutesOver, RackView}
use Rattle.stair_command.specs.Trace.{TraceItem, events_of_trace}

-- All watchers were told the events of the trace, in order: those are left that are told on after these, each with all that it
-- heard, and none of them has left.
pub record AreTold {W : Type 0} (view : WatcherView W) (trace : List TraceItem) (old new : List W)
    : Type 0 where
  pub told : TellsAll view (events_of_trace trace) old new
  pub left : AreLeft view (events_of_trace trace) old new
  pub stay : AllStay view new

-- a fault only where its count rose, and no count falls
abbrev pub FaultsAreTold : (S K : Type 0) → Type 0
FaultsAreTold S K = (view : Views S K) (program : Program) (status : Status) (old new : Outside S K)
    → EndsIn IsNoFault program → Executes view program (Over status) old new
    → TellsFaults view status old new

-- of a program that puts out last nothing is put out but at Done and at a fault of the sink
abbrev pub NothingIsPutOut : (S K : Type 0) → Type 0
NothingIsPutOut S K = (view : Views S K) (program : Program) (status : Status) (old new : Outside S K)
    → PutsLast program → Executes view program (Over status) old new
    → IfNothingIsPutOut status (new.sink ≡ old.sink)

-- a status that is no fault, no lack of memory, and none that the program ends with by itself doesn't come
abbrev pub OthersNeverCome : (S K : Type 0) → Type 0
OthersNeverCome S K = (view : Views S K) (program : Program) (status other : Status)
    (old new : Outside S K) → IsNoFault other → other ≢ OutOfMemory
    → EndsIn (λ end. end ≢ other) program → Executes view program (Over status) old new → status ≢ other

-- of a program that takes nothing the source is left, and can't fail it
abbrev pub SourcesAreLeft : (S K : Type 0) → Type 0
SourcesAreLeft S K = (view : Views S K) (program : Program) (status : Status) (old new : Outside S K)
    → TakesNothing program → Executes view program (Over status) old new
    → (new.source ≡ old.source) × (status ≢ InputFault)

-- of a program that makes no call the rack is left, whatever rack it is
abbrev pub RacksAreLeft : (R S K : Type 0) → Type 0
RacksAreLeft R S K = (rack : RackView R) (view : Views S K) (program rest : Program)
    (old new : Outside S K) (first last : R) → MakesNoCall program
    → ExecutesOver rack view program rest old new first last → last ≡ first

-- where memory was short no call was made on the rack, if it is asked for first
abbrev pub MemoryIsAskedFirst : (R S K : Type 0) → Type 0
MemoryIsAskedFirst R S K = (rack : RackView R) (view : Views S K) (program : Program)
    (old new : Outside S K) (first last : R) → AsksFirst program
    → ExecutesOver rack view program (Over OutOfMemory) old new first last → last ≡ first

-- of a program that only looks at the rack no sector of an honest one is changed
abbrev pub RacksAreLookedAt : (R S K : Type 0) → Type 0
RacksAreLookedAt R S K = (rack : RackView R) (view : Views S K) (program rest : Program)
    (old new : Outside S K) (first last : R) → OnlyLooks program
    → ExecutesOver rack view program rest old new first last → IsTrue rack.honest
    → Ran LeavesSectors (rack.history first) (rack.history last)

-- where memory was short nothing was written, if it is asked for before anything is
abbrev pub MemoryIsAskedUnwritten : (R W S K : Type 0) → Type 0
MemoryIsAskedUnwritten R W S K = (devices : DeviceView R W) (view : Views S K) (program : Program)
    (old new : Outside S K) (first last : Devices R W) → AsksUnwritten program
    → ExecutesWith devices view program (Over OutOfMemory) old new first last
    → IsTrue devices.rack.honest
    → Ran LeavesSectors (devices.rack.history first.rack) (devices.rack.history last.rack)

-- of a program that takes no step all holds that holds over a rack alone
abbrev pub RacksSuffice : (R W S K : Type 0) → Type 0
RacksSuffice R W S K = (devices : DeviceView R W) (view : Views S K) (program rest : Program)
    (old new : Outside S K) (first last : Devices R W) → TakesNoStep program
    → ExecutesWith devices view program rest old new first last
    → ExecutesOver devices.rack view program rest old new first.rack last.rack

-- the watchers of a call were told the events of its steps
abbrev pub WatchersAreTold : (R W S K : Type 0) → Type 0
WatchersAreTold R W S K = (devices : DeviceView R W) (view : Views S K) (program rest : Program)
    (old new : Outside S K) (first last : Devices R W)
    (with : ExecutesWith devices view program rest old new first last)
    → AllStay devices.watcher first.watchers
    → AreTold devices.watcher with.means.trace first.watchers last.watchers
