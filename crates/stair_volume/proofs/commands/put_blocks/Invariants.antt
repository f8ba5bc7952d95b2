-- So many blocks were put out.
use Rattle.stair_array.specs.Promise.{Opened}
use Rattle.stair_command.specs.Devices.{device_view, devices}
use Rattle.stair_command.specs.Outside.{sink_alone}
use Rattle.stair_command.specs.Rack.{rack_view}
use Rattle.stair_volume.proofs.TransferLaws.{PutSoFar}
use Rattle.stair_volume.proofs.commands.put_blocks.Given as goal

abbrev pub invariant-loop-done : goal.invariant-loop-done
invariant-loop-done g l =
    PutSoFar
    (device_view (rack_view g.R.Rack) (λ b. (goal.Watcher-dyn g (b.vtable, b.value)).hears b.value))
    (sink_alone g.K.Sink)
    l.fn.array.member.array.geometry l.fn.first l.fn.blocks tt l.fn.output (devices l.fn.rack (Opened l.fn.array) l.fn.watchers.items)
    l.done l.output (devices l.rack (Opened l.array) l.watchers.items)
