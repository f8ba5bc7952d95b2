-- So many steps were taken.
use Rattle.stair_array.specs.Promise.{Opened}
use Rattle.stair_command.specs.Devices.{device_view, devices}
use Rattle.stair_command.specs.Rack.{rack_view}
use Rattle.stair_engine.proofs.ExercisedLaws.{ExercisedSoFar}
use Rattle.stair_engine.proofs.exercise.take_steps.Given as goal

abbrev pub invariant-loop : goal.invariant-loop
invariant-loop g l =
    ExercisedSoFar
    (device_view (rack_view g.R.Rack) (λ b. (goal.Watcher-dyn g (b.vtable, b.value)).hears b.value))
    l.fn.array.member.array.geometry l.fn.first l.fn.steps l.counter l.number l.came (devices l.fn.rack (Opened l.fn.array) l.fn.watchers.items)
    (devices l.rack (Opened l.array) l.watchers.items) l.array
