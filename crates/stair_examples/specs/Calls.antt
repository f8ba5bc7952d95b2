-- Programs, traces and runs over the new array of five devices.
use Rattle.std.specs.Prelude.{ℕ, true, false, List, [], ◌∷◌, None, Some, Ok, length}
use Rattle.stair_rack.specs.History.{Attach, Called, Happening, Read, Write}
use Rattle.stair_rack.specs.Watching.{Heard}
use Rattle.stair_rack.specs.declared.rack.Got.TheVariants.{Good as was_good}
use Rattle.stair_rack.specs.declared.rack.Reply.TheVariants.{Done as was_done}
use Rattle.stair_state.specs.Blocks.{zero_block}
use Rattle.stair_state.specs.State.{State, changed_if, created_state}
use Rattle.stair_invariant.specs.Returning.{NoneReturns}
use Rattle.stair_array.specs.Machine.{GivenBy, ReadBlock, Step, change_of, write_block}
use Rattle.stair_array.specs.Promise.{Closed}
use Rattle.stair_status.specs.declared.status.Status.TheVariants.{Done, Input}
use Rattle.stair_command.specs.Devices.{DeviceView, Devices, devices}
use Rattle.stair_command.specs.Headline.{RefinesProgram}
use Rattle.stair_command.specs.Executes.{Executes}
use Rattle.stair_command.specs.Outside.{Views, outside}
use Rattle.stair_command.specs.Program.{Over, Program, Put, take_exactly, take_step}
use Rattle.stair_command.specs.Run.{Goes, IsRun, IsSafe, now}
use Rattle.stair_command.specs.Trace.{TraceItem, Stepped}
use Rattle.stair_reinsert.specs.Misled.{five}
use Rattle.stair_examples.specs.Arrays.{chunk_sector, made_new, other_bytes}

-- WHAT A CALL HAS

-- the source is the bytes that are left, and the sink the bytes that it holds; neither fails
abbrev pub streams : Views (List ℕ) (List ℕ)
streams = record {
  source = record { left = λ bytes. Some bytes; ended = λ bytes. false; faults = λ bytes. 0 };
  sink = record { held = λ bytes. Some bytes; faults = λ bytes. 0 };
}

abbrev pub none_heard : Heard
none_heard = record { told = None; count = λ kind. 0; left = false; remaining_quota = None }

-- an honest rack, which is its history, and no watchers
abbrev pub over_history : DeviceView (List Happening) (Unit {0})
over_history = record {
  rack = record { honest = true; history = λ h. h; bads = λ h. 0; gones = λ h j. 0 };
  watcher = λ none. none_heard;
}

-- such a rack, in a session that has no array
abbrev pub closed_session : List Happening → Devices (List Happening) (Unit {0})
closed_session h = devices h Closed []

-- PROGRAMS

-- two bytes are taken and put out
abbrev pub copies_two : Program
copies_two = take_exactly 2 (λ bytes. Put bytes (Over Done)) (λ bytes. Over (Input 2 (length bytes)))

-- What is put out is what was taken.
pub record ExamplesOfExecutes : Type 0 where
  pub holds : Executes streams copies_two (Over Done) (outside (7 ∷ 8 ∷ 9 ∷ []) [] 0)
      (outside (9 ∷ []) (7 ∷ 8 ∷ []) 0)
  pub fails : ¬ Executes streams copies_two (Over Done) (outside (7 ∷ 8 ∷ 9 ∷ []) [] 0)
      (outside (9 ∷ []) (7 ∷ 9 ∷ []) 0)

-- the sector of the chunk of slot 0's device is read
abbrev pub looked : List Happening
looked = Called 0 (Read chunk_sector was_good) ∷ Called 0 (Attach was_done) ∷ made_new

-- or written
abbrev pub written : List Happening
written = Called 0 (Write chunk_sector other_bytes was_done) ∷ Called 0 (Attach was_done) ∷ made_new

-- a whole call of the program that copies two bytes, after which the rack has this history
abbrev pub RefinesProgramBy : List Happening → Type 0
RefinesProgramBy last = RefinesProgram over_history streams copies_two (Over Done)
    (outside (7 ∷ 8 ∷ 9 ∷ []) [] 0) (outside (9 ∷ []) (7 ∷ 8 ∷ []) 0) made_new last [] []

-- No item of the program calls a device, so a call leaves all devices as they were.
pub record ExamplesOfRefinesProgram : Type 0 where
  pub holds : RefinesProgramBy made_new
  pub fails : ¬ RefinesProgramBy written

-- RUNS

abbrev pub holding_zeros : State
holding_zeros = created_state five

-- block 0 has other bytes
abbrev pub holding_others : State
holding_others = record holding_zeros {
  content = changed_if (change_of (write_block 0 other_bytes)) holding_zeros.content;
}

-- A write that was acknowledged changed the block.
pub record ExamplesOfGoes : Type 0 where
  pub holds : Goes NoneReturns made_new (Stepped (write_block 0 other_bytes) (Ok tt) [] false)
      (now holding_zeros made_new None) (now holding_others made_new None)
  pub fails : ¬ Goes NoneReturns made_new (Stepped (write_block 0 other_bytes) (Ok tt) [] false)
      (now holding_zeros made_new None) (now holding_zeros made_new None)

-- the trace of this step, which was done
abbrev pub did : (step : Step) → GivenBy step → List TraceItem
did step given = Stepped step (Ok given) [] false ∷ []

-- The trace is a run over the new rack, and leaves it as it was.
abbrev pub IsRunHere : List TraceItem → Type 0
IsRunHere trace = IsRun over_history NoneReturns made_new holding_zeros trace
    (closed_session made_new) (closed_session made_new)

-- A read gives what the block holds. What was written is on the devices in the end.
pub record ExamplesOfIsRun : Type 0 where
  pub holds : IsRunHere (did (ReadBlock 0) zero_block)
  pub fails : ¬ IsRunHere (did (ReadBlock 0) other_bytes)
  pub lost : ¬ IsRunHere (did (write_block 0 other_bytes) tt)

-- the program of one read
abbrev pub reads_block : Program
reads_block = take_step 5 (ReadBlock 0) (λ bytes. Over Done)

-- a crash comes within that read, after these calls
abbrev pub IsSafeAt : List Happening → Type 0
IsSafeAt c = IsSafe over_history NoneReturns made_new holding_zeros reads_block []
    (closed_session made_new) (closed_session made_new) c

-- A crash within a read leaves the array as it was, unless the read wrote a sector.
pub record ExamplesOfIsSafe : Type 0 where
  pub holds : IsSafeAt looked
  pub fails : ¬ IsSafeAt written
