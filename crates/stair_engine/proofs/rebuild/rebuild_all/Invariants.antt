-- So many steps were made.
use Rattle.stair_array.specs.Promise.{Opened}
use Rattle.stair_command.specs.Devices.{device_view, devices}
use Rattle.stair_command.specs.Rack.{rack_view}
use Rattle.stair_command.specs.Rebuilt.{steps_left}
use Rattle.stair_engine.proofs.RebuildLaws.{RebuiltSoFar}
use Rattle.stair_engine.proofs.rebuild.rebuild_all.Given as goal

abbrev pub decreases-loop-came : goal.decreases-loop-came
decreases-loop-came g l = steps_left l.array

abbrev pub invariant-loop-came : goal.invariant-loop-came
invariant-loop-came g l =
    RebuiltSoFar
    (device_view (rack_view g.R.Rack) (λ b. (goal.Watcher-dyn g (b.vtable, b.value)).hears b.value))
    l.fn.array.member.array.geometry l.steps (devices l.fn.rack (Opened l.fn.array) l.fn.watchers.items)
    (devices l.rack (Opened l.array) l.watchers.items) l.fn.array l.array
