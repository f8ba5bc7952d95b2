-- What `report` has counted of the lines of a text, and what it has taken from its source.
use Rattle.std.specs.Prelude.{◌≡◌, ◌⊎◌, ◌<◌, ◌^◌, ℕ, List, [], ◌∷◌, All, Result, Ok, Err, length, slice_index, ⊤}
use Rattle.stair_monitor.specs.declared.reporting.ReportFault.{ReportFault}
use Rattle.stair_monitor.specs.declared.reporting.ReportFault.TheVariants as fault
use Rattle.stair_monitor.specs.declared.reporting.Seen.{Seen}
use Rattle.stair_monitor.specs.Reports.{fences_of, report_over, report_program, status_of_report}
use Rattle.stair_rack.specs.Watching.{count_of}
use Rattle.stair_rack.specs.declared.watcher.Counts.{Counts}
use Rattle.stair_rack.specs.declared.watcher.Event.{Event}
use Rattle.stair_rack.specs.declared.watcher.EventKind.{EventKind}
use Rattle.stair_script.specs.Events.{SpellsEvent}
use Rattle.stair_command.specs.Executes.{Gives}
use Rattle.stair_command.specs.Outside.{SourceView}
use Rattle.stair_command.specs.Program.{Program, Over}
use Rattle.stair_command.specs.Question.{EventLine}
use Rattle.stair_command.specs.Trace.{TraceItem, Found, Took, TookLast, TakeFailed, AlongTrace, StepsProgram}
use Rattle.stair_watch.specs.Watchers.{count_in}

-- the counts are those of these events
abbrev pub CountsOf : List Event → Counts → Type 0
CountsOf events counts = (kind : EventKind) → count_in counts kind ≡ count_of kind events

-- `seen` holds the number of events of each kind, and how often each slot was fenced.
pub record Tells (events : List Event) (seen : Seen) : Type 0 where
  pub counts : CountsOf events seen.counts
  pub fences : (slot : ℕ) → slot < 32 → slice_index seen.fences slot ≡ fences_of slot events
  pub slots : length seen.fences ≡ 32

-- It counted fewer than 2^31 events, which leaves room for one more.
pub record IsFew (seen : Seen) : Type 0 where
  pub events : List Event
  pub tells : Tells events seen
  pub few : length events < 2 ^ 31

-- WHAT A LINE SPELLS

-- The line spells this event; or it spells none, and the fault has its number.
abbrev pub IsEventOf : (number : ℕ) → List ℕ → Result Event ReportFault → Type 0
IsEventOf number line (Ok said) = SpellsEvent line said
IsEventOf number line (Err why) =
    (why ≡ fault.BadLine number) × ((said : Event) → ¬ SpellsEvent line said)

-- The text after the last end of a line is empty, or spells one more event; or it is not empty and spells none.
abbrev pub SeesLast : (number : ℕ) → List ℕ → List Event → Result Seen ReportFault → Type 0
SeesLast number line events (Ok seen) = ((line ≡ []) × Tells events seen)
    ⊎ ((said : Event) × (0 < length line) × SpellsEvent line said × Tells (said ∷ events) seen)
SeesLast number line events (Err why) = (0 < length line) × IsEventOf number line (Err why)

-- WHAT WAS TAKEN

-- the source failed
pub record FailsByte {S : Type 0} (view : SourceView S) (why : ReportFault) (old new : S) : Type 0 where
  pub is : why ≡ fault.InputFault
  pub gives : Gives view (TakeFailed []) old new

-- The item takes from a source, or finds which event a line spells.
abbrev pub IsReading : TraceItem → Type 0
IsReading (Found (EventLine line)) = ⊤
IsReading (Took bytes) = ⊤
IsReading (TookLast bytes) = ⊤
IsReading (TakeFailed bytes) = ⊤
IsReading _ = ⊥

-- The trace leads from `program` to `rest` by reading only. This holds with any sink.
pub record Reads {S : Type 0} (view : SourceView S) (program rest : Program) (old new : S) : Type 0 where
  pub trace : List TraceItem
  pub reading : All IsReading trace
  pub follows : AlongTrace StepsProgram trace program rest
  pub gives : AlongTrace (Gives view) trace old new

-- The whole text was taken, and its lines spell these events.
pub record SawAll {S : Type 0} (view : SourceView S) (seen : Seen) (old new : S) : Type 0 where
  pub events : List Event
  pub tells : Tells events seen
  pub reads : Reads view report_program (report_over events) old new

-- The text was read, or refused with its status.
abbrev pub ReadsText : {S : Type 0} → SourceView S → Result Seen ReportFault → S → S → Type 0
ReadsText view (Ok seen) old new = SawAll view seen old new
ReadsText view (Err why) old new = Reads view report_program (Over (status_of_report why)) old new
