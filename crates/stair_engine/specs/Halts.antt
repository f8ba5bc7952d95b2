-- When a guarded script is halted.
use Rattle.std.specs.Prelude.{◌≡◌, ◌⊎◌, ◌+◌, ◌↔◌, ℕ, false, true, List, [], ◌∷◌, ◌++◌, All, Option, None, Some, Ok, Err, ⊤}
use Rattle.stair_model.specs.Geometry.{Geometry}
use Rattle.stair_conf.specs.declared.job.Job.{Job}
use Rattle.stair_conf.specs.declared.job.Job.TheVariants as job
use Rattle.stair_rack.specs.Watching.{WatcherView}
use Rattle.stair_watch.specs.WatcherList.{GoesOn}
use Rattle.stair_command.specs.Devices.{DeviceView, ExecutesWhole}
use Rattle.stair_command.specs.Outside.{Outside, Views}
use Rattle.stair_command.specs.Program.{Program, Over, Ask, Allocate}
use Rattle.stair_command.specs.Question.{ScriptLine, Words}
use Rattle.stair_command.specs.Trace.{TraceItem, Found, AlongTrace, StepsProgram, PutFailed, Stepped, events_of_trace}
use Rattle.stair_status.specs.declared.status.Status.{Status}
use Rattle.stair_status.specs.declared.status.Status.TheVariants.{Done, Halted}
use Rattle.stair_engine.specs.Programs.{if_spelled, job_program, program_of}
use Rattle.stair_engine.specs.Scripts.{lines}

-- The first line at a step of which a watcher left, counted from `number` on. The opening of the array is number 0.
abbrev pub halt_line : (number : ℕ) → List TraceItem → Option ℕ
halt_line number [] = None
halt_line number (Found (ScriptLine line) ∷ trace) = halt_line (number + 1) trace
halt_line number (Stepped step answer events true ∷ trace) = Some number
halt_line number (item ∷ trace) = halt_line number trace

-- No step was refused, and all output was written.
abbrev pub AllAreAnswered : List TraceItem → Type 0
AllAreAnswered [] = ⊤
AllAreAnswered (Stepped step (Ok given) events left ∷ trace) = AllAreAnswered trace
AllAreAnswered (Stepped step (Err refusal) events left ∷ trace) = ⊥
AllAreAnswered (PutFailed part ∷ trace) = ⊥
AllAreAnswered (item ∷ trace) = AllAreAnswered trace

-- After this line the script is over, or continues with the next.
abbrev pub IsBehindLine : (number : ℕ) → Program → Type 0
IsBehindLine number rest = (rest ≡ Over Done)
    ⊎ ((g : Geometry) × (room : ℕ) × (rest ≡ lines false g room (number + 1) []))

-- what the words say, where a guarded script is done without being halted
abbrev pub unguarded : Option Job → Program
unguarded (Some (job.Guard events fences)) = job_program job.Run
unguarded reply = if_spelled reply

abbrev pub unguarded_program : List (List ℕ) → Program
unguarded_program words = Allocate (Ask (Words words) unguarded)

-- How a guarded script with these watchers ended. It was halted after a line exactly if that is the first line at which
-- a watcher left, and all steps up to its end were done and all replies put out. Up to there it follows the unguarded
-- program; if it was not halted, it follows it to its end. As long as no watcher left, each that reports its remaining
-- quota still waits for more.
pub record EndsGuarded {W : Type 0} (view : WatcherView W) (words : List (List ℕ))
    (status : Status) (trace : List TraceItem) (watchers : List W) : Type 0 where
  pub exact : (number : ℕ) → (status ≡ Halted number)
      ↔ ((halt_line 0 trace ≡ Some number) × AllAreAnswered trace)
  pub halted : (number : ℕ) → status ≡ Halted number → (rest : Program)
      × AlongTrace StepsProgram trace (unguarded_program words) rest × IsBehindLine number rest
  pub unhalted : ((number : ℕ) → ¬ (status ≡ Halted number))
      → AlongTrace StepsProgram trace (unguarded_program words) (Over status)
  pub patient : (front rest : List TraceItem) → trace ≡ front ++ rest → halt_line 0 front ≡ None
      → All (λ w. GoesOn (events_of_trace front) (view w).remaining_quota) watchers

-- This holds along each trace that the call follows.
abbrev pub IsGuarded : {R W S K : Type 0} → DeviceView R W → Views S K → List (List ℕ) → Status
    → Outside S K → Outside S K → R → R → List W → List W → Type 0
IsGuarded view streams words status old new first last watchers left =
    (whole : ExecutesWhole view streams (program_of words) (Over status) old new first last watchers left)
    → EndsGuarded view.watcher words status whole.with.means.trace watchers
