-- The requests so far were answered.
use Rattle.std.proofs.Common.{◌-◌}
use Rattle.stair_command.specs.Devices.{device_view}
use Rattle.stair_command.specs.Outside.{views}
use Rattle.stair_command.specs.Rack.{rack_view}
use Rattle.stair_nbd.specs.Client.{SESSION_LIMIT}
use Rattle.stair_nbd.proofs.RequestLaws.{Answered}
use Rattle.stair_nbd.proofs.serving.answer_requests.Given as goal

abbrev pub invariant-loop-header : goal.invariant-loop-header
invariant-loop-header g l =
    Answered
    (device_view (rack_view g.R.Rack) (λ b. (goal.Watcher-dyn g (b.vtable, b.value)).hears b.value))
    (views g.S.Source g.K.Sink)
    l.fn.array.member.array.geometry l.fn.place l.fn.rack l.fn.array l.fn.watchers.items l.fn.input l.fn.output l.place l.rack l.array l.watchers.items l.input l.output

abbrev pub decreases-loop-header : goal.decreases-loop-header
decreases-loop-header g l = SESSION_LIMIT - l.place.taken
