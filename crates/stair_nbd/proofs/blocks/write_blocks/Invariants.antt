-- So many bytes were written.
use Rattle.std.proofs.Common.{◌-◌, length}
use Rattle.stair_array.specs.Promise.{Opened}
use Rattle.stair_command.specs.Devices.{device_view, devices}
use Rattle.stair_command.specs.Rack.{rack_view}
use Rattle.stair_nbd.proofs.WriteOnLaws.{WroteSoFar}
use Rattle.stair_nbd.proofs.blocks.write_blocks.Given as goal

abbrev pub decreases-loop-done : goal.decreases-loop-done
decreases-loop-done g l = length l.blocks - l.done

abbrev pub invariant-loop-done : goal.invariant-loop-done
invariant-loop-done g l =
    WroteSoFar
    (device_view (rack_view g.R.Rack) (λ b. (goal.Watcher-dyn g (b.vtable, b.value)).hears b.value))
    l.fn.array.member.array.geometry l.fn.first l.fn.blocks (devices l.fn.rack (Opened l.fn.array) l.fn.watchers.items)
    l.done (devices l.rack (Opened l.array) l.watchers.items)
