-- When a command is sure to be done.
use Rattle.std.specs.Prelude.{◌≡◌, ◌⊎◌, ◌*◌, ◌<◌, ◌≤◌, ℕ, false, true, IsTrue, List, All, length, drop, take, Option, Some, Ok, ⊤}
use Rattle.stair_model.specs.CellSet.{CellSet}
use Rattle.stair_model.specs.Codeword.{IsCodeword}
use Rattle.stair_model.specs.Coverage.{IsCovered}
use Rattle.stair_model.specs.Geometry.{Geometry, IsWithinLimits, block_count}
use Rattle.stair_model.specs.Stripe.{SECTOR, Stripe}
use Rattle.stair_state.specs.State.{State, changed_if}
use Rattle.stair_invariant.specs.Returning.{NoneReturns, Returning}
use Rattle.stair_array.specs.Creates.{CanBeMade}
use Rattle.stair_array.specs.Promise.{Begun}
use Rattle.stair_conf.specs.Config.{TextReadsAs}
use Rattle.stair_conf.specs.declared.job.Job.{Job}
use Rattle.stair_conf.specs.declared.job.Job.TheVariants as job
use Rattle.stair_conf.specs.declared.job.StripeCommand.{StripeCommand}
use Rattle.stair_conf.specs.declared.job.StripeCommand.TheVariants.{Check, Encode, Restore}
use Rattle.stair_nbd.specs.Civil.{IsCivil}
use Rattle.stair_rack.specs.declared.watcher.Event.{Event}
use Rattle.stair_script.specs.Events.{SpellsEvent}
use Rattle.stair_script.specs.Line.{SpellsLine}
use Rattle.stair_script.specs.declared.line.Line.{Line}
use Rattle.stair_script.specs.declared.line.Line.TheVariants as line
use Rattle.stair_script.specs.declared.line.Line.TheVariants.{Blank}
use Rattle.stair_command.specs.Answer.{HasBytes, bytes_needed, map_bytes}
use Rattle.stair_command.specs.Devices.{DeviceView, Devices, ExecutesWhole, WorksAll, devices}
use Rattle.stair_command.specs.Outside.{Outside, Views}
use Rattle.stair_command.specs.Program.{Over}
use Rattle.stair_engine.specs.Blocks.{IsInRange}
use Rattle.stair_engine.specs.Exercise.{has_write, most_steps}
use Rattle.stair_engine.specs.Programs.{MAX_GEOMETRY_TEXT, program_of}
use Rattle.stair_command.specs.Rack.{RackView}
use Rattle.stair_command.specs.Restore.{HoldsCells, IsErasedBy}
use Rattle.stair_command.specs.Trace.{TraceItem, AlongTrace}
use Rattle.stair_command.specs.Sure.{HasDevice, HasNoFault, IsDone, ServesAlong, ServesThroughout}
use Rattle.stair_command.specs.Texts.{AreLines, SCRIPT_LIMIT}
use Rattle.stair_engine.specs.Stands.{StandsThroughout}
use Rattle.stair_engine.specs.Task.{one_stripe}
use Rattle.stair_status.specs.declared.status.Status.{Status}
use Rattle.stair_status.specs.declared.status.Status.TheVariants.{Halted, OutOfMemory}
use Rattle.stair_volume.specs.Ends.{MayEnd}

-- what is judged Done: the cells of a codeword, any blocks, and cells of which the erased ones are covered and the others are
-- those of some codeword
abbrev pub Fits : StripeCommand → Geometry → List ℕ → Type 0
Fits Check g input = (stripe : Stripe) × HasBytes g stripe input × IsCodeword g stripe
Fits (Encode method) g input = Unit {0}
Fits Restore g input =
    (erased : CellSet) × (stripe : Stripe) × (codeword : Stripe)
    × IsErasedBy g (take (map_bytes g) input) erased
    × HasBytes g stripe (drop (map_bytes g) input) × IsCovered g erased
    × HoldsCells g erased stripe codeword

-- an input of the length that the command needs, which is judged Done
pub record IsValidInput (command : StripeCommand) (g : Geometry) (input : List ℕ) : Type 0 where
  pub limits : IsWithinLimits g
  pub whole : length input ≡ bytes_needed command g
  pub fits : Fits command g input

-- The source reports its input, and this holds for it.
abbrev pub TellsInput : Option (List ℕ) → (List ℕ → Type 0) → Type 0
TellsInput told IsSo = (input : List ℕ) × (told ≡ Some input) × IsSo input

-- An array in this state is not frozen, whether a change in doubt is made or not.
abbrev pub IsThawed : State → Type 0
IsThawed s =
    (s.content.frozen ≡ false) × ((changed_if s.in_doubt s.content).frozen ≡ false)

-- SCRIPTS

-- An array in this state has the block, the stripe or the slot of a line, and is not frozen if the line writes a block.
abbrev pub IsLineOf : State → Line → Type 0
IsLineOf s Blank = ⊤
IsLineOf s (line.Read block) = block < block_count s.geometry
IsLineOf s (line.Write block contents) = (block < block_count s.geometry) × IsThawed s
IsLineOf s (line.Scrub stripe) = stripe < s.geometry.stripes
IsLineOf s (line.Replace slot) = slot < s.geometry.n
IsLineOf s (line.Rebuild steps) = ⊤

-- no device is put in
abbrev pub PutsNoneIn : Line → Type 0
PutsNoneIn (line.Replace slot) = ⊥
PutsNoneIn _ = ⊤

-- an input is a script of such lines, and is not too long
pub record IsScriptOf (s : State) (lines : List Line) (input : List ℕ) : Type 0 where
  pub few : length input ≤ SCRIPT_LIMIT
  pub script : AreLines SpellsLine lines input
  pub each : All (IsLineOf s) lines

-- lines of events alone, and not too many
abbrev pub IsEventText : List ℕ → Type 0
IsEventText input = (events : List Event) × AreLines SpellsEvent events input
    × (length input ≤ SCRIPT_LIMIT)

-- The job is done, if there was memory. A guarded script may be halted, and a command on volumes ends as the volumes
-- and its input allow.
abbrev pub IsFinished : Job → Status → Type 0
IsFinished (job.Guard events fences) status =
    IsDone status ⊎ ((number : ℕ) × (status ≡ Halted number))
IsFinished (job.Volume volume) status = MayEnd volume status ⊎ (status ≡ OutOfMemory)
IsFinished job status = IsDone status

-- The input and the rack are such that the job can be done, if an array in some state serves the call. A replacement
-- can be done if the slot takes no part before anything is written, and has a device that can be admitted. Scripts that
-- put in a device have a law of their own, `ScriptIsDone`.
abbrev pub CanBeDone : {R : Type 0} → Returning → (State → Type 0) → RackView R → Job
    → Option (List ℕ) → R → R → Type 0
CanBeDone returning Serves rack (job.OneStripe command n m r e) told first last =
    TellsInput told (IsValidInput command (one_stripe n m r e))
CanBeDone returning Serves rack job.Create told first last = TellsInput told (λ input.
    (g : Geometry) × TextReadsAs input (Ok g) × (length input ≤ MAX_GEOMETRY_TEXT) × IsTrue rack.honest
    × CanBeMade g (rack.history first) (rack.history last))
CanBeDone returning Serves rack job.Show told first last = IsTrue rack.honest
    × StandsThroughout returning (rack.history first) (rack.history last)
CanBeDone returning Serves rack (job.Read block count) told first last =
    (s : State) × Serves s × IsInRange s.geometry block count
CanBeDone returning Serves rack (job.Write block count) told first last =
    TellsInput told (λ input. (s : State) × Serves s × IsInRange s.geometry block count
    × (length input ≡ SECTOR * count) × (0 < count → IsThawed s))
CanBeDone returning Serves rack (job.Replace slot) told first last = (s : State) × Serves s
    × HasDevice returning s.geometry (rack.history first) (rack.history last) slot
CanBeDone returning Serves rack (job.Exercise number count) told first last =
    (s : State) × Serves s × (count ≤ most_steps) × (has_write number count ≡ true → IsThawed s)
CanBeDone returning Serves rack job.Run told first last = TellsInput told (λ input.
    (s : State) × Serves s × ((lines : List Line) × IsScriptOf s lines input × All PutsNoneIn lines))
CanBeDone returning Serves rack (job.Guard events fences) told first last =
    TellsInput told (λ input. (s : State) × Serves s
    × ((lines : List Line) × IsScriptOf s lines input × All PutsNoneIn lines))
CanBeDone returning Serves rack job.Report told first last = TellsInput told IsEventText
CanBeDone returning Serves rack job.Serve told first last =
    TellsInput told (λ input. (s : State) × Serves s × IsCivil input)
CanBeDone returning Serves rack (job.Plan n m r e) told first last =
    IsWithinLimits (one_stripe n m r e)
CanBeDone returning Serves rack job told first last = (s : State) × Serves s

-- The job is finished if it can be done and neither source nor sink failed. No medium is reinserted.
abbrev pub IsComplete : {R S K : Type 0} → RackView R → Views S K → Job → Status → Outside S K →
    Outside S K → R → R → Type 0
IsComplete rack view job status old new first last = HasNoFault view old new
    → CanBeDone NoneReturns (λ s. ServesThroughout rack s first last) rack job
    (view.source.left old.source) first last → IsFinished job status

-- The same along the trace of its call, whether media are reinserted or not.
abbrev pub IsCompleteAlong : {R W S K : Type 0} → Returning → (view : DeviceView R W)
    → Views S K → Job → Status → Outside S K → Outside S K → (trace : List TraceItem)
    → (first last : Devices R W) → AlongTrace (WorksAll view) trace first last → Type 0
IsCompleteAlong returning view streams job status old new trace first last works =
    HasNoFault streams old new
    → CanBeDone returning (λ s. ServesAlong returning view s trace first last works) view.rack job
    (streams.source.left old.source) first.rack last.rack → IsFinished job status

-- This holds along each trace that this call follows.
abbrev pub IsCompleteWithReinsertion : {R W S K : Type 0} → Returning → DeviceView R W → Views S K
    → List (List ℕ) → Job → Status → Outside S K → Outside S K → R → R → List W → List W → Type 0
IsCompleteWithReinsertion returning view streams words job status old new first last watchers left =
    (whole : ExecutesWhole view streams (program_of words) (Over status) old new first last watchers left)
    → IsCompleteAlong returning view streams job status old new whole.with.means.trace
    (devices first Begun watchers) (devices last whole.session left) whole.with.works
