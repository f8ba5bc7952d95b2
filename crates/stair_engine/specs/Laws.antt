-- The laws of a call that executes the program of the words.
use Rattle.std.specs.Prelude.{◌≡◌, ◌≢◌, ◌⊎◌, ℕ, ◌+◌, ◌*◌, ◌<◌, ◌↔◌, List, [], ◌∷◌, Some, codes, length, drop, take, slice_index, All, IfSome, IsTrue}
use Rattle.std.specs.Fmt.{decimal}
use Rattle.stair_model.specs.Geometry.{Geometry}
use Rattle.stair_model.specs.Stripe.{SECTOR}
use Rattle.stair_rack.specs.Answers.{Ran}
use Rattle.stair_rack.specs.Count.{Rose}
use Rattle.stair_member.specs.Asked.{LeavesSectors}
use Rattle.stair_conf.specs.Words.{IsSpelled, Spells}
use Rattle.stair_conf.specs.declared.job.Job.{Job}
use Rattle.stair_conf.specs.declared.job.Job.TheVariants.{OneStripe, Create, Guard, Replace, Scrub, Serve, Show, Volume, Write}
use Rattle.stair_conf.specs.declared.job.VolumeJob.{VolumeJob}
use Rattle.stair_conf.specs.declared.job.VolumeJob.TheVariants as volume
use Rattle.stair_conf.specs.declared.job.StripeCommand.{StripeCommand}
use Rattle.stair_script.specs.declared.line.Line.{Line}
use Rattle.stair_status.specs.declared.status.Status.{Status}
use Rattle.stair_status.specs.declared.status.Status.TheVariants.{Done, Usage, InputFault, OutputFault, OutOfMemory}
use Rattle.stair_command.specs.Answer.{map_bytes}
use Rattle.stair_engine.specs.Cause.{Answers, IfRefusedAtOnce}
use Rattle.stair_watch.specs.WatcherList.{AllStay}
use Rattle.stair_engine.specs.Answered.{AnswersClient}
use Rattle.stair_engine.specs.Bounds.{BoundsDraws}
use Rattle.stair_engine.specs.Changed.{ChangesVolumes, ReadsAlike}
use Rattle.stair_engine.specs.Complete.{IsComplete, IsCompleteWithReinsertion, IsFinished, IsScriptOf}
use Rattle.stair_engine.specs.Counted.{TellsCount}
use Rattle.stair_engine.specs.Halts.{IsGuarded}
use Rattle.stair_engine.specs.Create.{IsOnceMade, MakesArray, SparesArrays}
use Rattle.stair_engine.specs.Does.{Does}
use Rattle.stair_array.specs.Arrays.{blocks_of}
use Rattle.stair_array.specs.Promise.{Begun}
use Rattle.stair_state.specs.State.{State}
use Rattle.stair_invariant.specs.Returning.{Returning}
use Rattle.stair_engine.specs.Came.{AreWritten, IsUnrefused}
use Rattle.stair_engine.specs.Jobs.{IsScripted, PutsOnTheWay, MakesCalls, MayWrite, NotSpelled, OpensArray, TakesInput}
use Rattle.stair_command.specs.Devices.{DeviceView, ExecutesWhole, devices}
use Rattle.stair_command.specs.Ending.{IfNothingIsPutOut, TellsFaults}
use Rattle.stair_command.specs.Executes.{Executes}
use Rattle.stair_command.specs.Outside.{Outside, Views}
use Rattle.stair_command.specs.Pieces.{whole_of}
use Rattle.stair_command.specs.Program.{Over}
use Rattle.stair_command.specs.Trace.{taken_in}
use Rattle.stair_command.specs.Sure.{EachCanReplace, HasNoFault, IsDone, ServesAlong}
use Rattle.stair_engine.specs.Programs.{program_of}
use Rattle.stair_engine.specs.Mended.{EndsMended, IsMended, Mends}
use Rattle.stair_engine.specs.Stands.{ArrayStands}
use Rattle.stair_engine.specs.Task.{one_stripe}

-- the bytes of cell (i, j) after the map
abbrev pub cell_of_input : Geometry → List ℕ → ℕ → ℕ → List ℕ
cell_of_input g input i j = take SECTOR (drop ((i * g.n + j) * SECTOR) (drop (map_bytes g) input))

-- The inputs have the same map, and the same bytes in each cell that it does not erase.
pub record DifferAtErased (g : Geometry) (a b : List ℕ) : Type 0 where
  pub same_length : length a ≡ length b
  pub same_map : take (map_bytes g) a ≡ take (map_bytes g) b
  pub same_held : (i j : ℕ) → i < g.r → j < g.n →
      slice_index (take (map_bytes g) a) (i * g.n + j) ≡ 46
      → cell_of_input g a i j ≡ cell_of_input g b i j
  pub a_bytes : All (λ x. x < 256) a
  pub b_bytes : All (λ x. x < 256) b

-- THE LAWS OF PROGRAMS, from a call that executes the program of the words

-- The call does the job that the words spell.
abbrev pub WordsAreDone : {S K : Type 0} → Views S K → Type 0
WordsAreDone {S} {K} view =
    (words : List (List ℕ)) (command : StripeCommand) (n m r : ℕ) (e : List ℕ) (status : Status)
    (old new : Outside S K) → Spells words (OneStripe command n m r e) →
    Executes view (program_of words) (Over status) old new →
    Does view command (one_stripe n m r e) status old new

-- The words spell no job exactly if the answer is Usage, if there was memory.
abbrev pub UsageIsExact : (S K : Type 0) → Type 0
UsageIsExact S K = (view : Views S K) (words : List (List ℕ)) (status : Status)
    (old new : Outside S K) → Executes view (program_of words) (Over status) old new
    → status ≢ OutOfMemory
    → ((status ≡ Usage) ↔ (IsSpelled words → ⊥)) × (status ≢ Usage → IsSpelled words)

-- the words `plan 4 1 2 1`
abbrev pub plan_words : List (List ℕ)
plan_words = codes "plan" ∷ decimal 4 ∷ decimal 1 ∷ decimal 2 ∷ decimal 1 ∷ []

-- A call with these words is done, is out of memory, or fails at its output, and then the sink's count of faults rose. The premise is
-- part of clause `refines` of `stair` (`over.means`): this holds for each body that meets the clause, over any rack,
-- source and sink. No such body gives all words that spell a job the same answer, unless it is OutOfMemory:
-- - Done falls by WordsAreDone at `check 2 1 2 1`, which breaks limit 1, and by UsageIsExact at no words.
-- - OutputFault falls here, at each call whose sink counts no fault.
-- - Each other status falls here, at each call.
-- Only tests show that calls are not always out of memory.
abbrev pub PlanIsDone : (S K : Type 0) → Type 0
PlanIsDone S K = (view : Views S K) (status : Status) (old new : Outside S K)
    → Executes view (program_of plan_words) (Over status) old new
    → IsDone status
    ⊎ ((status ≡ OutputFault) × Rose (view.sink.faults old.sink) (view.sink.faults new.sink))

-- With a source that reports its bytes, without faults and with enough memory, status and output are those
-- for these bytes.
abbrev pub BytesAreAnswered : {S K : Type 0} → Views S K → Type 0
BytesAreAnswered {S} {K} view =
    (words : List (List ℕ)) (command : StripeCommand) (n m r : ℕ) (e : List ℕ) (status : Status)
    (old new : Outside S K) → Spells words (OneStripe command n m r e) →
    Executes view (program_of words) (Over status) old new →
    (Rose (view.source.faults old.source) (view.source.faults new.source) → ⊥) →
    (Rose (view.sink.faults old.sink) (view.sink.faults new.sink) → ⊥) → status ≢ OutOfMemory →
    IfSome (view.source.left old.source) (λ bytes. Answers command (one_stripe n m r e) bytes
    (view.sink.held old.sink) (view.sink.held new.sink) status)

-- A fault comes only if its count rose, and no count falls, whatever the words are. Only `read`, `run`, `guard`,
-- `serve`, `vlist` and `vread` put anything out if they are not done.
abbrev pub AllIsKept : (S K : Type 0) → Type 0
AllIsKept S K = (view : Views S K) (words : List (List ℕ)) (status : Status)
    (old new : Outside S K) → Executes view (program_of words) (Over status) old new
    → TellsFaults view status old new
    × (NotSpelled PutsOnTheWay words → IfNothingIsPutOut status (new.sink ≡ old.sink))

-- Only `create`, `show` and what opens an array make calls on the devices; and what another command refuses before the input
-- leaves source, sink and counter.
abbrev pub RackIsLeft : (R W S K : Type 0) → Type 0
RackIsLeft R W S K = (view : DeviceView R W) (streams : Views S K) (words : List (List ℕ))
    (status : Status) (old new : Outside S K) (first last : R) (watchers left : List W)
    → ExecutesWhole view streams (program_of words) (Over status) old new first last watchers left
    → NotSpelled MakesCalls words → (last ≡ first) × IfRefusedAtOnce status (new ≡ old)

-- `show` makes no call on the source and counts no step; on an honest rack it changes no sector
abbrev pub ShowOnlyLooks : (R W S K : Type 0) → Type 0
ShowOnlyLooks R W S K = (view : DeviceView R W) (streams : Views S K) (words : List (List ℕ))
    (status : Status) (old new : Outside S K) (first last : R) (watchers left : List W)
    → ExecutesWhole view streams (program_of words) (Over status) old new first last watchers left
    → Spells words Show
    → (status ≢ InputFault) × (new.source ≡ old.source) × (new.counter ≡ old.counter)
    × (IsTrue view.rack.honest
    → Ran LeavesSectors (view.rack.history first) (view.rack.history last))

-- a command that takes no input makes no call on the source, which can't fail it
abbrev pub SourceIsLeft : (S K : Type 0) → Type 0
SourceIsLeft S K = (view : Views S K) (words : List (List ℕ)) (status : Status)
    (old new : Outside S K) → NotSpelled TakesInput words
    → Executes view (program_of words) (Over status) old new
    → (new.source ≡ old.source) × (status ≢ InputFault)

-- If no step of a `write` was refused, it wrote exactly the whole blocks of the input that came.
abbrev pub WholeBlocksStand : (S K : Type 0) → Type 0
WholeBlocksStand S K = (view : Views S K) (words : List (List ℕ)) (first count : ℕ)
    (status : Status) (old new : Outside S K) → Spells words (Write first count)
    → (means : Executes view (program_of words) (Over status) old new) → IsUnrefused status
    → AreWritten first (blocks_of (whole_of (take (SECTOR * count) (taken_in means.trace))))
    means.trace

-- Every command that neither makes nor opens an array leaves it as it was.
abbrev pub ArrayIsLeft : (R W S K : Type 0) → Type 0
ArrayIsLeft R W S K = (view : DeviceView R W) (streams : Views S K) (words : List (List ℕ))
    (status : Status) (old new : Outside S K) (first last : R) (watchers left : List W)
    → ExecutesWhole view streams (program_of words) (Over status) old new first last watchers left
    → NotSpelled MayWrite words → IsTrue view.rack.honest
    → ArrayStands (view.rack.history first) (view.rack.history last)

-- On an honest rack `create` made an array of the geometry that the input says.
abbrev pub ArrayIsMade : (R W S K : Type 0) → Type 0
ArrayIsMade R W S K = (view : DeviceView R W) (streams : Views S K) (words : List (List ℕ))
    (status : Status) (old new : Outside S K) (first last : R) (watchers left : List W)
    → ExecutesWhole view streams (program_of words) (Over status) old new first last watchers left
    → Spells words Create → IsTrue view.rack.honest → IsOnceMade status
    → MakesArray (streams.source.left old.source) (view.rack.history first)
    (view.rack.history last)

-- On an honest rack `create` overwrites no array that is within tolerance.
abbrev pub ArraysAreSpared : (R W S K : Type 0) → Type 0
ArraysAreSpared R W S K = (view : DeviceView R W) (streams : Views S K) (words : List (List ℕ))
    (status : Status) (old new : Outside S K) (first last : R) (watchers left : List W)
    → ExecutesWhole view streams (program_of words) (Over status) old new first last watchers left
    → Spells words Create → IsTrue view.rack.honest
    → SparesArrays status (view.rack.history first) (view.rack.history last)

-- After OutOfMemory no device was written. No call was made on one, except to look for an array that is to be opened.
abbrev pub MemoryComesFirst : (R W S K : Type 0) → Type 0
MemoryComesFirst R W S K = (view : DeviceView R W) (streams : Views S K) (words : List (List ℕ))
    (old new : Outside S K) (first last : R) (watchers left : List W)
    → ExecutesWhole view streams (program_of words) (Over OutOfMemory) old new first last watchers left
    → (IsTrue view.rack.honest
    → Ran LeavesSectors (view.rack.history first) (view.rack.history last))
    × (NotSpelled OpensArray words → last ≡ first)

-- Each job is done if it can be.
abbrev pub AllIsComplete : (R W S K : Type 0) → Type 0
AllIsComplete R W S K = (view : DeviceView R W) (streams : Views S K) (words : List (List ℕ))
    (job : Job) (status : Status) (old new : Outside S K) (first last : R)
    (watchers left : List W) → Spells words job
    → ExecutesWhole view streams (program_of words) (Over status) old new first last watchers left
    → IsComplete view.rack streams job status old new first last

-- The same along the trace of its call, whether media are reinserted or not.
abbrev pub AllIsCompleteWithReinsertion : (R W S K : Type 0) → Type 0
AllIsCompleteWithReinsertion R W S K = (returning : Returning) (view : DeviceView R W)
    (streams : Views S K) (words : List (List ℕ)) (job : Job) (status : Status)
    (old new : Outside S K) (first last : R) (watchers left : List W) → Spells words job
    → IsCompleteWithReinsertion returning view streams words job status old new first last watchers left

-- On an honest rack, a job that mends an array leaves it mended.
abbrev pub ArrayIsMended : (R W S K : Type 0) → Type 0
ArrayIsMended R W S K = (view : DeviceView R W) (streams : Views S K) (words : List (List ℕ))
    (job : Job) (status : Status) (old new : Outside S K) (first last : R)
    (watchers left : List W) → Spells words job
    → ExecutesWhole view streams (program_of words) (Over status) old new first last watchers left
    → IsTrue view.rack.honest
    → IsMended job status (view.rack.history first) (view.rack.history last)

-- The session's array in the end is mended, whatever the rack was before.
abbrev pub SessionIsMended : (R W S K : Type 0) → Type 0
SessionIsMended R W S K = (view : DeviceView R W) (streams : Views S K) (words : List (List ℕ))
    (job : Job) (status : Status) (old new : Outside S K) (first last : R)
    (watchers left : List W) → Spells words job
    → (whole : ExecutesWhole view streams (program_of words) (Over status) old new first last watchers left)
    → IsTrue view.rack.honest → Mends job → status ≡ Done
    → EndsMended job whole.session (view.rack.history first) (view.rack.history last)

-- On an honest rack that is left alone, `scrub` reports the exact number.
abbrev pub ScrubsAreCounted : (R W S K : Type 0) → Type 0
ScrubsAreCounted R W S K = (view : DeviceView R W) (streams : Views S K) (words : List (List ℕ))
    (status : Status) (old new : Outside S K) (first last : R) (watchers left : List W)
    → Spells words Scrub
    → ExecutesWhole view streams (program_of words) (Over status) old new first last watchers left
    → IsTrue view.rack.honest → TellsCount streams.sink status old.sink new.sink
    (view.rack.history first) (view.rack.history last)

-- A slot is replaced, if there was memory, under three conditions. The array serves along the trace, whether media are
-- reinserted or not; no fault is counted; and as that step begins the slot is Down, and its medium is fit from then on.
abbrev pub ReplacementIsDone : (R W S K : Type 0) → Type 0
ReplacementIsDone R W S K = (returning : Returning) (view : DeviceView R W) (streams : Views S K)
    (words : List (List ℕ)) (slot : ℕ) (status : Status) (s : State) (old new : Outside S K)
    (first last : R) (watchers left : List W) → Spells words (Replace slot)
    → (whole : ExecutesWhole view streams (program_of words) (Over status) old new first last watchers left)
    → HasNoFault streams old new
    → ServesAlong returning view s whole.with.means.trace (devices first Begun watchers)
    (devices last whole.session left) whole.with.works → slot < s.geometry.n
    → EachCanReplace view s.geometry whole.with.means.trace (devices first Begun watchers)
    (devices last whole.session left) whole.with.works → IsDone status

-- A script is done, if there was memory and each of its lines can be done: the array serves along the trace, no fault
-- is counted, and each slot that is to be replaced can be as that step begins. A guarded script may be halted.
abbrev pub ScriptIsDone : (R W S K : Type 0) → Type 0
ScriptIsDone R W S K = (returning : Returning) (view : DeviceView R W) (streams : Views S K)
    (words : List (List ℕ)) (job : Job) (lines : List Line) (input : List ℕ) (status : Status)
    (s : State) (old new : Outside S K) (first last : R) (watchers left : List W)
    → Spells words job → IsScripted job
    → (whole : ExecutesWhole view streams (program_of words) (Over status) old new first last watchers left)
    → HasNoFault streams old new
    → ServesAlong returning view s whole.with.means.trace (devices first Begun watchers)
    (devices last whole.session left) whole.with.works
    → streams.source.left old.source ≡ Some input → IsScriptOf s lines input
    → EachCanReplace view s.geometry whole.with.means.trace (devices first Begun watchers)
    (devices last whole.session left) whole.with.works → IsFinished job status

-- `guard` is halted exactly if a watcher left, if none of the list had left before.
abbrev pub GuardsHalt : (R W S K : Type 0) → Type 0
GuardsHalt R W S K = (view : DeviceView R W) (streams : Views S K) (words : List (List ℕ))
    (events fences : ℕ) (status : Status) (old new : Outside S K) (first last : R)
    (watchers left : List W) → Spells words (Guard events fences)
    → AllStay view.watcher watchers
    → IsGuarded view streams words status old new first last watchers left

-- `serve` answers no READ with an error of the devices, nor a WRITE unless the array is frozen.
abbrev pub ClientsAreAnswered : (R W S K : Type 0) → Type 0
ClientsAreAnswered R W S K = (returning : Returning) (view : DeviceView R W) (streams : Views S K)
    (words : List (List ℕ)) (status : Status) (old new : Outside S K) (first last : R)
    (watchers left : List W) → Spells words Serve
    → AnswersClient returning view streams words status old new first last watchers left

-- The volumes are what the command makes of them, or what they were.
abbrev pub VolumesAreChanged : (R W S K : Type 0) → Type 0
VolumesAreChanged R W S K = (view : DeviceView R W) (streams : Views S K) (words : List (List ℕ))
    (job : VolumeJob) (status : Status) (old new : Outside S K) (first last : R)
    (watchers left : List W) → Spells words (Volume job)
    → ChangesVolumes job view streams words status old new first last watchers left

-- A read of a volume puts out only the bytes of the volume.
abbrev pub VolumesAreReadAlike : (R W S K : Type 0) → Type 0
VolumesAreReadAlike R W S K = (view : DeviceView R W) (streams : Views S K) (words : List (List ℕ))
    (name : List ℕ) (block count : ℕ) (status : Status) (old new : Outside S K) (first last : R)
    (watchers left : List W) → Spells words (Volume (volume.Read name block count))
    → ReadsAlike name block count view streams words status old new first last watchers left

-- No call raises the draws of an array by more than its replacements allow.
abbrev pub DrawsAreBounded : (R W S K : Type 0) → Type 0
DrawsAreBounded R W S K = (view : DeviceView R W) (streams : Views S K) (words : List (List ℕ))
    (status : Status) (old new : Outside S K) (first last : R) (watchers left : List W)
    → BoundsDraws view streams words status old new first last watchers left
