-- So many steps were made.
use Rattle.stair_array.specs.Promise.{Opened}
use Rattle.stair_command.specs.Devices.{device_view, devices}
use Rattle.stair_command.specs.Rack.{rack_view}
use Rattle.stair_engine.proofs.LineStepLaws.{RebuiltSome}
use Rattle.stair_engine.proofs.lines.rebuild_some.Given as goal

abbrev pub invariant-loop-done : goal.invariant-loop-done
invariant-loop-done g l =
    RebuiltSome
    (device_view (rack_view g.R.Rack) (λ b. (goal.Watcher-dyn g (b.vtable, b.value)).hears b.value))
    l.fn.array.member.array.geometry l.fn.steps (devices l.fn.rack (Opened l.fn.array) l.fn.watchers.items)
    l.done l.rack l.array l.watchers.items
