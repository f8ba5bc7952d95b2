-- The lines of the first slots follow the line of the counts.
use Rattle.std.proofs.Common.{◌≡◌, ◌+◌, ◌*◌, ◌≤◌, ◌++◌, List, length}
use Rattle.stair_rack.specs.declared.watcher.Event.{Event}
use Rattle.stair_monitor.specs.Reports.{counts_line, slot_lines}
use Rattle.stair_monitor.specs.Seen.{Tells}
use Rattle.stair_monitor.proofs.reporting.Seen.text.Given as goal

abbrev pub invariant-loop-slot : goal.invariant-loop-slot
invariant-loop-slot l = record {
  short : length l.text ≤ 126 + 26 * l.slot;
  text : (events : List Event) → Tells events l.self → l.text ≡ counts_line events ++ slot_lines events l.slot;
}
