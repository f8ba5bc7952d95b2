-- The text after the last end of a line.
use Rattle.std.proofs.Common.{arith, rules}
use Rattle.stair_array.specs.Promise.{Opened}
use Rattle.stair_command.proofs.DeviceLaws.{with_hands_on}
use Rattle.stair_command.specs.Devices.{device_view, devices}
use Rattle.stair_command.specs.Outside.{sink_alone}
use Rattle.stair_command.specs.Rack.{rack_view}
use Rattle.stair_engine.proofs.LineAnswerLaws.{fewer_left, last_cut, last_done, last_halted, last_refused, none_left, nothing_last}
use Rattle.stair_engine.proofs.script.do_last.Goals as goal

pub returns-in_err-reply-clause-means : goal.returns-in_err-reply-clause-means
returns-in_err-reply-clause-means g c counter =
    let view = device_view (rack_view g.R.Rack) (λ b. (goal.Watcher-dyn g (b.vtable, b.value)).hears b.value) in
    let of = c.args.array.now.member.array.geometry in
    let first = devices c.args.rack.now (Opened c.args.array.now) c.args.watchers.now.items in
    let streams = sink_alone g.K.Sink in
    let next = devices c.take_line.new.rack (Opened c.take_line.new.array) c.take_line.new.watchers.items in
    with_hands_on view streams _ _ _ _ _ c.from_residual.result c.in_err-reply.field-0.0 c.from_residual.ensures.1
    (last_refused view streams c.args.guarded of c.args.number c.args.output.now first c.args.line.now (search rules) next c.in_err-reply.field-0.0 c.in_err-reply.ensures.refused counter)

pub returns-in_err-put_reply-clause-means : goal.returns-in_err-put_reply-clause-means
returns-in_err-put_reply-clause-means g c counter =
    let view = device_view (rack_view g.R.Rack) (λ b. (goal.Watcher-dyn g (b.vtable, b.value)).hears b.value) in
    let of = c.args.array.now.member.array.geometry in
    let first = devices c.args.rack.now (Opened c.args.array.now) c.args.watchers.now.items in
    let streams = sink_alone g.K.Sink in
    let next = devices c.take_line.new.rack (Opened c.take_line.new.array) c.take_line.new.watchers.items in
    with_hands_on view streams _ _ _ _ _ c.from_residual-in_err-put_reply.result c.in_err-put_reply.field-0.0 c.from_residual-in_err-put_reply.ensures.1
    (last_cut view streams c.args.guarded of c.args.number c.args.output.now first c.args.line.now (search rules) next c.in_ok-reply.reply c.in_ok-reply.ensures.done c.put_reply.new.output c.in_err-put_reply.field-0.0
    c.in_err-put_reply.ensures.cut counter)

pub returns-then-is_halted-clause-means : goal.returns-then-is_halted-clause-means
returns-then-is_halted-clause-means g c counter =
    let view = device_view (rack_view g.R.Rack) (λ b. (goal.Watcher-dyn g (b.vtable, b.value)).hears b.value) in
    let of = c.args.array.now.member.array.geometry in
    let first = devices c.args.rack.now (Opened c.args.array.now) c.args.watchers.now.items in
    let streams = sink_alone g.K.Sink in
    let next = devices c.take_line.new.rack (Opened c.take_line.new.array) c.take_line.new.watchers.items in
    last_halted view streams c.args.guarded of c.args.number c.args.output.now first c.args.line.now (search rules) next c.in_ok-reply.reply c.in_ok-reply.ensures.done
    c.put_reply.new.output (c.is_halted.ensures.halted c.if-is_halted.true).0 (fewer_left first.watchers next.watchers (search rules)) c.in_ok-put_reply.ensures.put
    counter

pub returns-clause-means : goal.returns-clause-means
returns-clause-means g c counter =
    let view = device_view (rack_view g.R.Rack) (λ b. (goal.Watcher-dyn g (b.vtable, b.value)).hears b.value) in
    let of = c.args.array.now.member.array.geometry in
    let first = devices c.args.rack.now (Opened c.args.array.now) c.args.watchers.now.items in
    let streams = sink_alone g.K.Sink in
    let next = devices c.take_line.new.rack (Opened c.take_line.new.array) c.take_line.new.watchers.items in
    last_done view streams c.args.guarded of c.args.number c.args.output.now first c.args.line.now (search rules) next c.in_ok-reply.reply c.in_ok-reply.ensures.done
    c.put_reply.new.output (λ guards. none_left first.watchers next.watchers (omega (
      arith,
      c.is_halted.ensures.goes_on c.if-is_halted.false guards,
      c.len-before.ensures,
      c.len.ensures,
    )))
    c.in_ok-put_reply.ensures.put counter

pub returns-then-is_empty-clause-means : goal.returns-then-is_empty-clause-means
returns-then-is_empty-clause-means g c counter =
    let view = device_view (rack_view g.R.Rack) (λ b. (goal.Watcher-dyn g (b.vtable, b.value)).hears b.value) in
    let of = c.args.array.now.member.array.geometry in
    let first = devices c.args.rack.now (Opened c.args.array.now) c.args.watchers.now.items in
    let streams = sink_alone g.K.Sink in
    nothing_last view streams c.args.guarded of c.args.number c.args.output.now first c.args.line.now (search rules) counter
