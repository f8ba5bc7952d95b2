-- How far the draws of superblocks rise in a call.
use Rattle.std.specs.Prelude.{◌+◌, ◌*◌, ℕ, List}
use Rattle.stair_state.specs.State.{State}
use Rattle.stair_array.specs.Promise.{Begun}
use Rattle.stair_command.specs.Bounded.{IsBoundedAt, StaysBounded}
use Rattle.stair_command.specs.Devices.{DeviceView, ExecutesWhole, devices}
use Rattle.stair_command.specs.Drawn.{over_steps, replaces}
use Rattle.stair_command.specs.Living.{StandsOver}
use Rattle.stair_command.specs.Outside.{Outside, Views}
use Rattle.stair_command.specs.Program.{Over}
use Rattle.stair_status.specs.declared.status.Status.{Status}
use Rattle.stair_engine.specs.Programs.{program_of}

-- This holds along each trace that the call follows, if the rack represents the array over it. If no superblock of the
-- array had a draw above `most` as the call began, none has one above `most` + 100 + 5 q at any moment of the call, nor
-- after a crash then. Here q is the number of replacements of a slot in the trace, done or refused.
abbrev pub BoundsDraws : {R W S K : Type 0} → DeviceView R W → Views S K → List (List ℕ) → Status
    → Outside S K → Outside S K → R → R → List W → List W → Type 0
BoundsDraws view streams words status old new first last watchers left =
    (whole : ExecutesWhole view streams (program_of words) (Over status) old new first last watchers left)
    (s : State) (most : ℕ)
    → StandsOver view s (devices first Begun watchers) (devices last whole.session left)
    → IsBoundedAt s.geometry most (view.rack.history first)
    → StaysBounded s.geometry (most + 100 + 5 * over_steps replaces whole.with.means.trace)
    (view.rack.history first) (view.rack.history last)
