-- So many blocks were put out.
use Rattle.stair_command.specs.Devices.{device_view}
use Rattle.stair_command.specs.Outside.{sink_alone}
use Rattle.stair_command.specs.Rack.{rack_view}
use Rattle.stair_engine.proofs.ReadLaws.{ReadSoFar}
use Rattle.stair_engine.proofs.read.put_blocks.Given as goal

abbrev pub invariant-loop-done : goal.invariant-loop-done
invariant-loop-done g l =
    ReadSoFar
    (device_view (rack_view g.R.Rack) (λ b. (goal.Watcher-dyn g (b.vtable, b.value)).hears b.value))
    (sink_alone g.K.Sink)
    l.fn.array.member.array.geometry l.fn.first l.fn.blocks l.done l.fn.rack l.fn.array l.fn.watchers.items l.fn.output l.rack l.array l.watchers.items l.output
