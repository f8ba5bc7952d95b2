-- The handshake came to an end, with or without a fault; or requests come after it.
use Rattle.stair_array.specs.Promise.{Opened}
use Rattle.stair_command.specs.Devices.{device_view, devices}
use Rattle.stair_command.specs.Outside.{views}
use Rattle.stair_command.specs.Rack.{rack_view}
use Rattle.stair_command.proofs.DeviceLaws.{with_then}
use Rattle.stair_nbd.proofs.RequestLaws.{did_fail, none_comes, requests_come, shaken_off}
use Rattle.stair_nbd.proofs.serving.session.Goals as goal

pub returns-in_err-place-clause-means : goal.returns-in_err-place-clause-means
returns-in_err-place-clause-means g c =
    let view =
    device_view (rack_view g.R.Rack) (λ b. (goal.Watcher-dyn g (b.vtable, b.value)).hears b.value) in
    let streams = views g.S.Source g.K.Sink in
    did_fail view streams _ _ _ _ c.shake_hands.new.input c.shake_hands.new.output (devices c.args.rack.now (Opened c.args.array.now) c.args.watchers.now.items) c.from_residual.result
    c.in_err-place.field-0.0 c.from_residual.ensures.1
    (shaken_off view streams c.args.array.now.member.array.geometry c.args.input.now c.args.output.now
    (devices c.args.rack.now (Opened c.args.array.now) c.args.watchers.now.items) c.array_size-size.result c.array_size-size.ensures
    c.shake_hands.new.input c.shake_hands.new.output c.in_err-place.field-0.0 c.in_err-place.ensures.talks)

pub returns-in-Some-clause-means : goal.returns-in-Some-clause-means
returns-in-Some-clause-means g c counter =
    let view =
    device_view (rack_view g.R.Rack) (λ b. (goal.Watcher-dyn g (b.vtable, b.value)).hears b.value) in
    let streams = views g.S.Source g.K.Sink in
    with_then view streams
    (requests_come view streams c.args.array.now.member.array.geometry c.args.input.now c.args.output.now
    (devices c.args.rack.now (Opened c.args.array.now) c.args.watchers.now.items) c.array_size-size.result c.array_size-size.ensures
    c.shake_hands.new.input c.shake_hands.new.output c.in_ok-place.field-0 c.in_ok-place.ensures.talks c.in-Some.place c.in-Some.is counter)
    (c.answer_requests.ensures.means counter)

pub returns-in-None-clause-means : goal.returns-in-None-clause-means
returns-in-None-clause-means g c counter =
    let view =
    device_view (rack_view g.R.Rack) (λ b. (goal.Watcher-dyn g (b.vtable, b.value)).hears b.value) in
    let streams = views g.S.Source g.K.Sink in
    none_comes view streams c.args.array.now.member.array.geometry c.args.input.now c.args.output.now
    (devices c.args.rack.now (Opened c.args.array.now) c.args.watchers.now.items) c.array_size-size.result c.array_size-size.ensures
    c.shake_hands.new.input c.shake_hands.new.output c.in_ok-place.field-0 c.in_ok-place.ensures.talks c.in-None.is counter
