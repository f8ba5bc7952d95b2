-- What an array that serves does with the steps of a call.
use Rattle.std.specs.Prelude.{◌≡◌, Bool, false, true, IsOk, List, [], ◌∷◌, Option, Some, Ok, Err, length, ◌++◌, ◌<◌, ℕ, ⊤}
use Rattle.stair_model.specs.Geometry.{Geometry, block_count}
use Rattle.stair_member.specs.Membership.{Membership}
use Rattle.stair_member.specs.Seats.{Seats}
use Rattle.stair_state.specs.State.{State, without_seats}
use Rattle.stair_invariant.specs.Returning.{Returning}
use Rattle.stair_array.specs.Machine.{Answer, Frozen, PassesTests, RebuildNext, Recover, Refusal, Row, Step, WriteBlocks}
use Rattle.stair_array.specs.Promise.{Begun}
use Rattle.stair_status.specs.declared.status.Status.{Status}
use Rattle.stair_status.specs.declared.status.Status.TheVariants.{Done}
use Rattle.stair_command.specs.Action.{Create, Survey}
use Rattle.stair_command.specs.Devices.{DeviceView, ExecutesWhole, devices}
use Rattle.stair_command.specs.Ending.{AllowsAtMost}
use Rattle.stair_command.specs.Outside.{Outside, Views}
use Rattle.stair_command.specs.Program.{Program, Over, Ask, Take, Put, Allocate, Do, Try, RebuildAll}
use Rattle.stair_command.specs.Question.{IsReply, Reply}
use Rattle.stair_command.specs.Trace.{AreEnough, TraceItem, Did, Stepped}
use Rattle.stair_command.specs.Sure.{BeginsAs, EachCanReplace, IsToldSo, ServesAlong, most_allowed}

-- STORIES

-- What a step is tested for. That blocks which are to be written are of one stripe is not: no call is made with others.
abbrev pub PassesItsTests : Step → State → Seats → Type 0
PassesItsTests (WriteBlocks first contents) s seats =
    (first < block_count s.geometry) × (s.content.frozen ≡ false)
PassesItsTests step s seats = PassesTests step s seats

-- where an array in this state is frozen a write of blocks that are there is refused for that
abbrev pub IsRefusedFrozen : (step : Step) → Answer step → State → Type 0
IsRefusedFrozen (WriteBlocks first contents) answer s =
    first < block_count s.geometry → s.content.frozen ≡ true → answer ≡ Err Frozen
IsRefusedFrozen step answer s = ⊤

-- A step of an array in this state, by a row of the machine: it is done where it passes its tests.
pub record IsDoneIfPassed (step : Step) (answer : Answer step) (s later : State) : Type 0 where
  pub begun : Seats
  pub begins : BeginsAs step s begun
  pub row : Row step answer begun s later
  pub done : PassesItsTests step s begun → IsOk answer
  pub frozen : IsRefusedFrozen step answer s

-- The trace is that of an array in this state, up to where one is to be made: a survey finds it, and each step that passes its tests
-- is done.
abbrev pub IsServed : State → List TraceItem → Type 0
IsServed s [] = ⊤
IsServed s (Did Survey (Ok member) ∷ trace) = (member.array.geometry ≡ s.geometry) × IsServed s trace
IsServed s (Did Survey (Err fault) ∷ trace) = ⊥
IsServed s (Did (Create g) outcome ∷ trace) = ⊤
IsServed s (Stepped step answer events left ∷ trace) =
    (later : State) × IsDoneIfPassed step answer s later × IsServed later trace
IsServed s (item ∷ trace) = IsServed s trace

-- So is the trace of each call of an array that serves along it, whose program draws few numbers, where each slot that is to be replaced
-- can be.
abbrev pub PlannedAreServed : (R W S K : Type 0) → Type 0
PlannedAreServed R W S K = (returning : Returning) (view : DeviceView R W) (streams : Views S K)
    (program : Program) (status : Status) (s : State) (old new : Outside S K) (first last : R)
    (watchers left : List W)
    (whole : ExecutesWhole view streams program (Over status) old new first last watchers left)
    → AllowsAtMost most_allowed program
    → ServesAlong returning view s whole.with.means.trace (devices first Begun watchers)
    (devices last whole.session left) whole.with.works
    → EachCanReplace view s.geometry whole.with.means.trace (devices first Begun watchers)
    (devices last whole.session left) whole.with.works
    → IsServed (without_seats s) whole.with.means.trace

-- PLANS

-- No array is made, and each step that is taken is such a one, where the array has this geometry.
abbrev pub EachStepFor : Geometry → (Step → Type 0) → Program → Type 0
EachStepFor g IsSo (Over status) = ⊤
EachStepFor g IsSo (Ask question k) =
    (reply : Reply question) → IsReply question reply → EachStepFor g IsSo (k reply)
EachStepFor g IsSo (Take least most k short) = ((bytes : List ℕ) → EachStepFor g IsSo (k bytes))
    × ((bytes : List ℕ) → EachStepFor g IsSo (short bytes))
EachStepFor g IsSo (Put bytes program) = EachStepFor g IsSo program
EachStepFor g IsSo (Allocate program) = EachStepFor g IsSo program
EachStepFor g IsSo (Do (Create array) k) = ⊥
EachStepFor g IsSo (Do Survey k) = (member : Membership) → member.array.geometry ≡ g
    → EachStepFor g IsSo (k member)
EachStepFor g IsSo (Try Recover k) = IsSo Recover
    × ((left : Bool) → EachStepFor g IsSo (k (Ok g) left))
    × ((refusal : Refusal) (left : Bool) → EachStepFor g IsSo (k (Err refusal) left))
EachStepFor g IsSo (Try step k) = IsSo step
    × ((answer : Answer step) (left : Bool) → EachStepFor g IsSo (k answer left))
EachStepFor g IsSo (RebuildAll slots done k) = IsSo RebuildNext
    × ((count : ℕ) → EachStepFor g IsSo (k count))

-- The program ends with Done, whatever an open array of this geometry answers, of a source that tells that this is left: the array is
-- found and opened.
abbrev pub EndsDone : Geometry → Program → Option (List ℕ) → Type 0
EndsDone g (Over status) left = status ≡ Done
EndsDone g (Ask question k) left =
    (reply : Reply question) → IsReply question reply → EndsDone g (k reply) left
EndsDone g (Take least most k short) left = IsToldSo left (λ told.
    ((bytes rest : List ℕ) → told ≡ bytes ++ rest → AreEnough least most bytes
    → EndsDone g (k bytes) (Some rest))
    × (length told < least → EndsDone g (short told) (Some [])))
EndsDone g (Put bytes program) left = EndsDone g program left
EndsDone g (Allocate program) left = EndsDone g program left
EndsDone g (Do (Create array) k) left = ⊥
EndsDone g (Do Survey k) left =
    (member : Membership) → member.array.geometry ≡ g → EndsDone g (k member) left
EndsDone g (Try Recover k) left = (gone : Bool) → EndsDone g (k (Ok g) gone) left
EndsDone g (Try step k) left =
    (answer : Answer step) (gone : Bool) → EndsDone g (k answer gone) left
EndsDone g (RebuildAll slots done k) left = ⊥

-- The program ends so, whatever else comes, where each of its steps is one of an array that serves, from this state on: it is found, and a
-- step that passes its tests is done. No array is made, and no device rebuilt.
abbrev pub EndsServed : (Status → Type 0) → Program → State → Type 0
EndsServed IsEnd (Over status) s = IsEnd status
EndsServed IsEnd (Ask question k) s =
    (reply : Reply question) → IsReply question reply → EndsServed IsEnd (k reply) s
EndsServed IsEnd (Take least most k short) s =
    ((bytes : List ℕ) → AreEnough least most bytes → EndsServed IsEnd (k bytes) s)
    × ((bytes : List ℕ) → length bytes < least → EndsServed IsEnd (short bytes) s)
EndsServed IsEnd (Put bytes program) s = EndsServed IsEnd program s
EndsServed IsEnd (Allocate program) s = EndsServed IsEnd program s
EndsServed IsEnd (Do (Create array) k) s = ⊥
EndsServed IsEnd (Do Survey k) s = (member : Membership) → member.array.geometry ≡ s.geometry
    → EndsServed IsEnd (k member) s
EndsServed IsEnd (Try step k) s = (answer : Answer step) (left : Bool) (later : State)
    → IsDoneIfPassed step answer s later → EndsServed IsEnd (k answer left) later
EndsServed IsEnd (RebuildAll slots done k) s = ⊥
