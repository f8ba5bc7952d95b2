-- So many lines were put out.
use Rattle.std.proofs.Common.{drop}
use Rattle.stair_command.specs.Outside.{sink_view}
use Rattle.stair_command.specs.Talks.{PutsTo}
use Rattle.stair_volume.specs.Commands.{lists}
use Rattle.stair_volume.proofs.commands.list.Given as goal

abbrev pub invariant-loop-entry : goal.invariant-loop-entry
invariant-loop-entry g l =
    PutsTo (sink_view g.K.Sink) (lists l.table.entries) (lists (drop l.entry-index l.table.entries)) l.fn.output l.output
