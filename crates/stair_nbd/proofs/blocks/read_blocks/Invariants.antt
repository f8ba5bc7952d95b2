-- So many blocks were read.
use Rattle.std.proofs.Common.{◌/◌, length}
use Rattle.stair_array.specs.Promise.{Opened}
use Rattle.stair_command.specs.Devices.{device_view, devices}
use Rattle.stair_command.specs.Rack.{rack_view}
use Rattle.stair_nbd.proofs.ReadOnLaws.{ReadSoFar}
use Rattle.stair_nbd.proofs.blocks.read_blocks.Given as goal

abbrev pub invariant-loop-i : goal.invariant-loop-i
invariant-loop-i g l =
    ReadSoFar
    (device_view (rack_view g.R.Rack) (λ b. (goal.Watcher-dyn g (b.vtable, b.value)).hears b.value))
    l.fn.first (length l.fn.into / 512) (devices l.fn.rack (Opened l.fn.array) l.fn.watchers.items)
    l.i l.into (devices l.rack (Opened l.array) l.watchers.items)
