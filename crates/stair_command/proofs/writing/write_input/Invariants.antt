-- So many blocks were written.
use Rattle.std.proofs.Common.{◌-◌}
use Rattle.stair_command.specs.Devices.{device_view}
use Rattle.stair_command.specs.Outside.{views}
use Rattle.stair_command.specs.Rack.{rack_view}
use Rattle.stair_command.proofs.WriteLaws.{WroteSoFar}
use Rattle.stair_command.proofs.writing.write_input.Given as goal

abbrev pub decreases-loop-done : goal.decreases-loop-done
decreases-loop-done g l = l.blocks - l.done

abbrev pub invariant-loop-done : goal.invariant-loop-done
invariant-loop-done g l =
    WroteSoFar
    (device_view (rack_view g.R.Rack) (λ b. (goal.Watcher-dyn g (b.vtable, b.value)).hears b.value))
    (views g.S.Source g.K.Sink)
    l.fn.array.member.array.geometry l.fn.first l.fn.blocks l.fn.rack l.fn.array l.fn.watchers.items l.fn.input l.fn.output
    l.done l.rack l.array l.watchers.items l.input l.piece l.intake
