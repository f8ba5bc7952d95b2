-- Calls of the program on an array, each whole or cut by a crash, as turns of the life of its volumes.
use Rattle.std.specs.Prelude.{◌≡◌, ℕ, List, [], ◌∷◌, ◌++◌, None, IsTrue, ⊤}
use Rattle.stair_model.specs.Geometry.{IsWithinLimits, block_count}
use Rattle.stair_rack.specs.History.{Happening}
use Rattle.stair_state.specs.Blocks.{Blocks}
use Rattle.stair_state.specs.State.{State, without_seats}
use Rattle.stair_invariant.specs.Returning.{Returning, StandsFor}
use Rattle.stair_array.specs.Machine.{Step}
use Rattle.stair_conf.specs.Words.{Spells}
use Rattle.stair_conf.specs.declared.job.Job.TheVariants.{Volume}
use Rattle.stair_conf.specs.declared.job.VolumeJob.{VolumeJob}
use Rattle.stair_command.specs.Devices.{DeviceView}
use Rattle.stair_command.specs.Ending.{EachStep}
use Rattle.stair_command.specs.Lives.{IsWriteOf}
use Rattle.stair_command.specs.Outside.{Views}
use Rattle.stair_command.specs.Program.{Program, Over}
use Rattle.stair_command.specs.Run.{IsNext}
use Rattle.stair_command.specs.Sessions.{Calls, Cut, Ends, Starts}
use Rattle.stair_command.specs.Trace.{TraceItem, AlongTrace, StepsProgram, put_in, taken_in}
use Rattle.stair_status.specs.declared.status.Status.{Status}
use Rattle.stair_status.specs.declared.status.Status.TheVariants.{Done}
use Rattle.stair_volume.specs.Volumes.{IsSettled}
use Rattle.stair_engine.specs.Programs.{program_of}
use Rattle.stair_volume_lives.specs.Lives.{Began, Begins, Did, IsExplained, IsOfVolume, Lives, Other, Turn}

-- WHAT A CALL IS TO VOLUMES

-- No step that the call took, or that came next when it was cut, writes this block.
abbrev pub WritesNone : (b : ℕ) → Program → (trace : List TraceItem) → Type 0
WritesNone b program trace = (done later : List TraceItem) (rest : Program) (step : Step)
    → trace ≡ done ++ later → AlongTrace StepsProgram done program rest → IsNext rest step → ¬ IsWriteOf b step

-- The call writes no block of the table or of the volume that the rack holds.
abbrev pub LeavesBlocks : (name : List ℕ) → Returning → List Happening → Program → (trace : List TraceItem) → Type 0
LeavesBlocks name returning h program trace = (s : State) (held : Blocks) (b : ℕ)
    → StandsFor returning s h → IsSettled s held
    → IsOfVolume name (block_count s.geometry) held b → WritesNone b program trace

-- The words of the call spell a command on volumes, or it writes no block of the table or of the volume.
pub data Kind (name : List ℕ) (returning : Returning) (h : List Happening) (program rest : Program) (trace : List TraceItem)
    : Type 0 where
  OnVolumes : (words : List (List ℕ)) → (job : VolumeJob) → (status : Status)
      → Spells words (Volume job) → program ≡ program_of words → rest ≡ Over status
      → Kind name returning h program rest trace
  Leaves : LeavesBlocks name returning h program trace → Kind name returning h program rest trace

-- Each of these calls is of a kind.
abbrev pub Kinds : (name : List ℕ) → {R W S K : Type 0} (view : DeviceView R W) (streams : Views S K)
    (returning : Returning) (first : State) (h : List Happening)
    → Calls view streams returning first h → Type 0
Kinds name view streams returning first h (Starts h' history stands) = ⊤
Kinds name view streams returning first h (Ends later program rest old new x y watchers left calls borne calm acted between) =
    Kinds name view streams returning first (view.rack.history x) calls
    × Kind name returning (view.rack.history x) program rest borne.over.means.trace
Kinds name view streams returning first h (Cut c image later program rest old new x y watchers left calls borne at calm crash acted between) =
    Kinds name view streams returning first (view.rack.history x) calls
    × Kind name returning (view.rack.history x) program rest borne.over.means.trace

-- ITS TURN

-- a command that ended with this status, and with these bytes taken and put out
abbrev pub turn_of : VolumeJob → Status → (taken put : List ℕ) → Turn
turn_of job Done taken put = Did job taken put
turn_of job _ taken put = Began job taken

-- the turn of a call that ended
abbrev pub IsTurnOf : {name : List ℕ} {returning : Returning} {h : List Happening} {program rest : Program} {trace : List TraceItem}
    → Kind name returning h program rest trace → Turn → Type 0
IsTurnOf {name} {returning} {h} {program} {rest} {trace} (OnVolumes words job status spells is ends) turn =
    turn ≡ turn_of job status (taken_in trace) (put_in trace)
IsTurnOf (Leaves leaves) turn = turn ≡ Other

-- The turn of a call that a crash cut: by then it had done the first of its items.
abbrev pub IsCutTurnOf : {name : List ℕ} {returning : Returning} {h : List Happening} {program rest : Program}
    {trace : List TraceItem} → Kind name returning h program rest trace → Turn → Type 0
IsCutTurnOf {name} {returning} {h} {program} {rest} {trace} (OnVolumes words job status spells is ends) turn =
    (done : List TraceItem) × (later : List TraceItem) × (trace ≡ done ++ later)
    × (turn ≡ Began job (taken_in done))
IsCutTurnOf (Leaves leaves) turn = turn ≡ Other

-- one turn for each call
abbrev pub AreTurnsOf : (name : List ℕ) → {R W S K : Type 0} (view : DeviceView R W) (streams : Views S K)
    (returning : Returning) (first : State) (h : List Happening)
    (calls : Calls view streams returning first h)
    → Kinds name view streams returning first h calls → List Turn → Type 0
AreTurnsOf name view streams returning first h (Starts h' history stands) kinds life = life ≡ []
AreTurnsOf name view streams returning first h (Ends later program rest old new x y watchers left calls borne calm acted between) kinds life =
    (turn : Turn) × (before : List Turn)
    × AreTurnsOf name view streams returning first (view.rack.history x) calls kinds.0 before
    × IsTurnOf kinds.1 turn × (life ≡ turn ∷ before)
AreTurnsOf name view streams returning first h (Cut c image later program rest old new x y watchers left calls borne at calm crash acted between) kinds life =
    (turn : Turn) × (before : List Turn)
    × AreTurnsOf name view streams returning first (view.rack.history x) calls kinds.0 before
    × IsCutTurnOf kinds.1 turn × (life ≡ turn ∷ before)

-- THE LAWS

-- These calls are a life of the volume of this name.
pub record IsVolumeLife (name : List ℕ) {R W S K : Type 0} (view : DeviceView R W) (streams : Views S K)
    (returning : Returning) (first : State) (h : List Happening)
    (calls : Calls view streams returning first h)
    (kinds : Kinds name view streams returning first h calls) : Type 0 where
  pub life : List Turn
  pub state : State
  pub turns : AreTurnsOf name view streams returning first h calls kinds life
  pub lives : Lives name life (without_seats first) state
  pub unknown : state.seats ≡ None
  pub stands : StandsFor returning state h
  -- one list of fates, given once for all, explains each `vread` of it that was done, and what the array then holds of it
  pub explained : Begins first → (held : Blocks) → IsSettled state held
      → IsExplained name life (without_seats first) held

-- Calls in order, each whole or cut by a crash, are one life of a volume, and the rack is the array that it leads to.
-- This holds whether media are reinserted or not. Each call is a command on volumes, or writes no block of this volume
-- or of the table.
abbrev pub CallsAreLived : (R W S K : Type 0) → Type 0
CallsAreLived R W S K = (name : List ℕ) (view : DeviceView R W) (streams : Views S K) (returning : Returning)
    (first : State) (h : List Happening) (calls : Calls view streams returning first h)
    (kinds : Kinds name view streams returning first h calls) → IsTrue view.rack.honest
    → IsWithinLimits first.geometry → IsVolumeLife name view streams returning first h calls kinds

-- A call leaves a block if its program has no write of it.
abbrev pub ProgramsWriteNone : Type 0
ProgramsWriteNone = (b : ℕ) (program : Program) (trace : List TraceItem)
    → EachStep (λ step. ¬ IsWriteOf b step) program → WritesNone b program trace
