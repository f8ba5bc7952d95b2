-- All blocks before this one are zeros.
use Rattle.std.proofs.Common.{◌-◌}
use Rattle.stair_array.specs.Promise.{Opened}
use Rattle.stair_command.specs.Devices.{device_view, devices}
use Rattle.stair_command.specs.Rack.{rack_view}
use Rattle.stair_volume.proofs.ClearLaws.{ClearedSoFar}
use Rattle.stair_volume.proofs.changing.clear.Given as goal

abbrev pub decreases-loop-block : goal.decreases-loop-block
decreases-loop-block g l = l.end - l.block

abbrev pub invariant-loop-block : goal.invariant-loop-block
invariant-loop-block g l =
    ClearedSoFar
    (device_view (rack_view g.R.Rack) (λ b. (goal.Watcher-dyn g (b.vtable, b.value)).hears b.value))
    l.fn.array.member.array.geometry l.fn.extent.first l.fn.extent.blocks (devices l.fn.rack (Opened l.fn.array) l.fn.watchers.items)
    l.block (devices l.rack (Opened l.array) l.watchers.items)
