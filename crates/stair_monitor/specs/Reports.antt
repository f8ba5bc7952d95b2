-- What `report` does: it counts the events that the lines of a text spell, and writes the counts.
use Rattle.std.specs.Prelude.{◌==◌, ◌+◌, ℕ, zero, suc, List, [], ◌∷◌, ◌++◌, Option, None, Some, Result, Ok, Err, codes, if◌then◌else◌}
use Rattle.std.specs.Fmt.{decimal}
use Rattle.stair_monitor.specs.declared.reporting.ReportFault.{ReportFault}
use Rattle.stair_monitor.specs.declared.reporting.ReportFault.TheVariants as fault
use Rattle.stair_rack.specs.Watching.{count_of}
use Rattle.stair_rack.specs.declared.watcher.Event.{Event}
use Rattle.stair_rack.specs.declared.watcher.Event.TheVariants as event
use Rattle.stair_rack.specs.declared.watcher.EventKind.TheVariants.{Fenced, Repaired, Admitted, Promoted}
use Rattle.stair_command.specs.Program.{Program, Over, Ask, Put}
use Rattle.stair_command.specs.Question.{EventLine}
use Rattle.stair_command.specs.Texts.{LineDoes, SCRIPT_LIMIT, by_lines}
use Rattle.stair_status.specs.declared.status.Status.{Status}
use Rattle.stair_status.specs.declared.status.Status.TheVariants.{BadLine, Done, Input, InputFault, OutputFault}
use Rattle.stair_watch.specs.Lines.{newline}

-- how often a slot was fenced
abbrev pub fences_of : (slot : ℕ) → List Event → ℕ
fences_of slot [] = 0
fences_of slot (event.Fenced other ∷ events) =
    if other == slot then fences_of slot events + 1 else fences_of slot events
fences_of slot (other ∷ events) = fences_of slot events

-- THE REPORT

abbrev pub counts_line : List Event → List ℕ
counts_line events = codes "events: fenced " ++ (decimal (count_of Fenced events)
    ++ (codes " repaired " ++ (decimal (count_of Repaired events)
    ++ (codes " admitted " ++ (decimal (count_of Admitted events)
    ++ (codes " promoted " ++ (decimal (count_of Promoted events) ++ newline)))))))

-- the line of a slot with its number of fences; a slot that was never fenced has none
abbrev pub slot_line : (slot fences : ℕ) → List ℕ
slot_line slot zero = []
slot_line slot (suc fences) = codes "slot " ++ (decimal slot ++ (codes " fenced "
    ++ (decimal (suc fences) ++ newline)))

-- the lines of the first `slots` slots, in ascending order
abbrev pub slot_lines : List Event → (slots : ℕ) → List ℕ
slot_lines events zero = []
slot_lines events (suc slots) =
    slot_lines events slots ++ slot_line slots (fences_of slots events)

abbrev pub report_text : List Event → List ℕ
report_text events = counts_line events ++ slot_lines events 32

-- THE PROGRAM

-- the most bytes of the line of an event, without its end
abbrev pub EVENT_LIMIT : ℕ
EVENT_LIMIT = 64

-- `rest` takes the events so far, the last of them first. The report ends at a line that spells none.
abbrev pub if_event : (number : ℕ) → List Event → (List Event → Program) → Option Event → Program
if_event number events rest None = Over (BadLine number)
if_event number events rest (Some said) = rest (said ∷ events)

abbrev pub event_taken : LineDoes (List Event)
event_taken number line events rest = Ask (EventLine line) (if_event number events rest)

abbrev pub report_over : List Event → Program
report_over events = Put (report_text events) (Over Done)

-- The rest of a text: at most `room` more bytes, after these events and these bytes of line `number`.
abbrev pub reports : (room number : ℕ) → List ℕ → List Event → Program
reports room number line events =
    by_lines EVENT_LIMIT event_taken report_over room number line events

abbrev pub report_program : Program
report_program = reports SCRIPT_LIMIT 1 [] []

-- the status of a fault of a report, and of its result
abbrev pub status_of_report : ReportFault → Status
status_of_report (fault.Input needed took) = Input needed took
status_of_report fault.InputFault = InputFault
status_of_report fault.OutputFault = OutputFault
status_of_report (fault.BadLine number) = BadLine number

abbrev pub status_of : Result (Unit {0}) ReportFault → Status
status_of (Ok done) = Done
status_of (Err fault) = status_of_report fault
