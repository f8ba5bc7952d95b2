-- So many bytes were taken.
use Rattle.stair_command.specs.Outside.{source_view}
use Rattle.stair_monitor.proofs.ReportLemmas.{SawSoFar}
use Rattle.stair_monitor.proofs.reporting.take_events.Given as goal

abbrev pub invariant-loop : goal.invariant-loop
invariant-loop g l =
    SawSoFar (source_view g.S.Source) l.fn.input l.counter l.number l.line l.seen l.input
