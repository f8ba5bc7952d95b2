-- The lines of the array and of the slots so far were put into the sink.
use Rattle.std.proofs.Common.{◌++◌}
use Rattle.stair_command.specs.Executes.{Holds}
use Rattle.stair_command.specs.Outside.{sink_view}
use Rattle.stair_engine.specs.Show.{array_text, slot_lines}
use Rattle.stair_command.specs.Trace.{HasPut}
use Rattle.stair_engine.proofs.show.put_member.Given as goal

abbrev pub invariant-loop-slot : goal.invariant-loop-slot
invariant-loop-slot g l =
    Holds (sink_view g.K.Sink) (HasPut (array_text l.member ++ slot_lines l.member l.slot)) l.fn.output l.output
