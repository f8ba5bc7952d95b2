-- What a client of an array is answered.
use Rattle.std.specs.Prelude.{ℕ, All, IsOk, List, ⊤}
use Rattle.stair_state.specs.State.{State}
use Rattle.stair_invariant.specs.Returning.{Returning}
use Rattle.stair_array.specs.Machine.{ReadBlock, WriteBlocks}
use Rattle.stair_array.specs.Promise.{Begun}
use Rattle.stair_command.specs.Devices.{DeviceView, ExecutesWhole, devices}
use Rattle.stair_command.specs.Outside.{Outside, Views}
use Rattle.stair_command.specs.Program.{Over}
use Rattle.stair_command.specs.Trace.{TraceItem, Stepped}
use Rattle.stair_command.specs.Sure.{ServesAlong}
use Rattle.stair_status.specs.declared.status.Status.{Status}
use Rattle.stair_engine.specs.Complete.{IsThawed}
use Rattle.stair_engine.specs.Programs.{program_of}

-- A step that reads is done. A step that writes is done if an array in this state is not frozen. A reply has an error
-- of the devices only if a step of its request was not done.
abbrev pub IsAnswered : State → TraceItem → Type 0
IsAnswered s (Stepped (ReadBlock block) answer events left) = IsOk answer
IsAnswered s (Stepped (WriteBlocks first contents) answer events left) =
    IsThawed s → IsOk answer
IsAnswered s _ = ⊤

-- This holds along each trace that a call follows, if the array serves along it.
abbrev pub AnswersClient : {R W S K : Type 0} → Returning → DeviceView R W → Views S K
    → List (List ℕ) → Status → Outside S K → Outside S K → R → R → List W → List W → Type 0
AnswersClient returning view streams words status old new first last watchers left =
    (whole : ExecutesWhole view streams (program_of words) (Over status) old new first last watchers left)
    (s : State)
    → ServesAlong returning view s whole.with.means.trace (devices first Begun watchers)
    (devices last whole.session left) whole.with.works
    → All (IsAnswered s) whole.with.means.trace
