-- So many stripes were scrubbed.
use Rattle.stair_array.specs.Promise.{Opened}
use Rattle.stair_command.specs.Devices.{device_view, devices}
use Rattle.stair_command.specs.Rack.{rack_view}
use Rattle.stair_engine.proofs.ScrubLaws.{ScrubbedSoFar}
use Rattle.stair_engine.proofs.scrub.scrub_all.Given as goal

abbrev pub invariant-loop-stripe : goal.invariant-loop-stripe
invariant-loop-stripe g l =
    ScrubbedSoFar
    (device_view (rack_view g.R.Rack) (λ b. (goal.Watcher-dyn g (b.vtable, b.value)).hears b.value))
    l.fn.array.member.array.geometry l.stripe l.cells (devices l.fn.rack (Opened l.fn.array) l.fn.watchers.items)
    (devices l.rack (Opened l.array) l.watchers.items) l.array
