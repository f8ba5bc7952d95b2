-- Byte after byte.
use Rattle.std.proofs.Common.{Option, ap, arith, refl, rules, subst, ◌+◌, ℕ}
use Rattle.stair_array.specs.Promise.{Opened}
use Rattle.stair_command.proofs.DeviceLaws.{with_hands_on}
use Rattle.stair_command.specs.Devices.{device_view, devices}
use Rattle.stair_command.specs.Fault.{status_of}
use Rattle.stair_command.specs.Outside.{sink_view, source_view, views}
use Rattle.stair_command.specs.Rack.{rack_view}
use Rattle.stair_engine.proofs.LineAnswerLaws.{byte_failed, fewer_left, line_halted, none_left, ends_last, line_cut, line_did, line_long, line_refused, none_did, one_more, same_did, too_long}
use Rattle.stair_command.specs.Texts.{TakesByte}
use Rattle.stair_engine.proofs.script.do_lines.Goals as goal
use Rattle.stair_engine.proofs.script.do_lines.Goals.{then-byte-eq10+in_ok-reply+in_ok-put_reply+else-is_halted, else-byte-eq10+then-bytes-lt-MAX_SCRIPT_LINE}

pub loop-init : goal.loop-init
loop-init g c =
    let view = device_view (rack_view g.R.Rack) (λ b. (goal.Watcher-dyn g (b.vtable, b.value)).hears b.value) in
    let of = c.args.array.now.member.array.geometry in
    let first = devices c.args.rack.now (Opened c.args.array.now) c.args.watchers.now.items in
    let source = source_view g.S.Source in
    let sink = sink_view g.K.Sink in
    none_did view source sink c.args.guarded of first c.args.input.now c.args.output.now c.args.rack.now c.args.array.now c.args.watchers.now.items
    c.new-line.result c.new-line.ensures.text refl refl c.requires.stay

pub returns-in_err-byte-clause-means : goal.returns-in_err-byte-clause-means
returns-in_err-byte-clause-means g c counter =
    let view = device_view (rack_view g.R.Rack) (λ b. (goal.Watcher-dyn g (b.vtable, b.value)).hears b.value) in
    let of = c.args.array.now.member.array.geometry in
    let first = devices c.args.rack.now (Opened c.args.array.now) c.args.watchers.now.items in
    let source = source_view g.S.Source in
    let sink = sink_view g.K.Sink in
    let streams = views g.S.Source g.K.Sink in
    with_hands_on view streams _ _ _ _ _ c.from_residual.result c.in_err-byte.field-0.0 c.from_residual.ensures.1
    (byte_failed view source sink c.args.guarded of first c.args.input.now c.args.output.now c.loop.counter c.loop.number c.loop.line
    c.loop.rack c.loop.array c.loop.watchers.items c.loop.input c.next_byte.new.input c.loop.output c.loop.invariant c.in_err-byte.field-0.0 c.in_err-byte.ensures.failed counter)

pub returns-in_default-clause-means : goal.returns-in_default-clause-means
returns-in_default-clause-means g c =
    let view = device_view (rack_view g.R.Rack) (λ b. (goal.Watcher-dyn g (b.vtable, b.value)).hears b.value) in
    let of = c.args.array.now.member.array.geometry in
    let first = devices c.args.rack.now (Opened c.args.array.now) c.args.watchers.now.items in
    let source = source_view g.S.Source in
    let sink = sink_view g.K.Sink in
    ends_last view source sink c.args.guarded of first c.args.input.now c.args.output.now c.loop.counter c.loop.number c.loop.line
    c.loop.rack c.loop.array c.loop.watchers.items c.loop.input c.next_byte.new.input c.loop.output c.loop.invariant c.in_ok-byte.field-0 c.in_default.not-Some
    c.in_ok-byte.ensures.taken c.bytes.result.now c.bytes.ensures (devices c.do_last.new.rack (Opened c.do_last.new.array) c.do_last.new.watchers.items) c.do_last.new.output
    (status_of c.do_last.result) c.do_last.ensures.means

pub returns-in_err-reply-clause-means : goal.returns-in_err-reply-clause-means
returns-in_err-reply-clause-means g c counter =
    let view = device_view (rack_view g.R.Rack) (λ b. (goal.Watcher-dyn g (b.vtable, b.value)).hears b.value) in
    let of = c.args.array.now.member.array.geometry in
    let first = devices c.args.rack.now (Opened c.args.array.now) c.args.watchers.now.items in
    let source = source_view g.S.Source in
    let sink = sink_view g.K.Sink in
    let streams = views g.S.Source g.K.Sink in
    with_hands_on view streams _ _ _ _ _ c.from_residual-in_err-reply.result c.in_err-reply.field-0.0 c.from_residual-in_err-reply.ensures.1
    (line_refused view source sink c.args.guarded of first c.args.input.now c.args.output.now c.loop.counter c.loop.number c.loop.line
    c.loop.rack c.loop.array c.loop.watchers.items c.loop.input c.next_byte.new.input c.loop.output c.loop.invariant c.loop-test.true c.in-Some.byte
    (subst (λ (byte : Option ℕ). TakesByte source byte c.loop.input c.next_byte.new.input) c.in-Some.is c.in_ok-byte.ensures.taken)
    (search rules) c.take_line.new.rack c.take_line.new.array c.take_line.new.watchers.items c.bytes-then-byte-eq10.result.now c.bytes-then-byte-eq10.ensures c.in_err-reply.field-0.0 c.in_err-reply.ensures.refused counter)

pub returns-in_err-put_reply-clause-means : goal.returns-in_err-put_reply-clause-means
returns-in_err-put_reply-clause-means g c counter =
    let view = device_view (rack_view g.R.Rack) (λ b. (goal.Watcher-dyn g (b.vtable, b.value)).hears b.value) in
    let of = c.args.array.now.member.array.geometry in
    let first = devices c.args.rack.now (Opened c.args.array.now) c.args.watchers.now.items in
    let source = source_view g.S.Source in
    let sink = sink_view g.K.Sink in
    let streams = views g.S.Source g.K.Sink in
    with_hands_on view streams _ _ _ _ _ c.from_residual-in_err-put_reply.result c.in_err-put_reply.field-0.0 c.from_residual-in_err-put_reply.ensures.1
    (line_cut view source sink c.args.guarded of first c.args.input.now c.args.output.now c.loop.counter c.loop.number c.loop.line
    c.loop.rack c.loop.array c.loop.watchers.items c.loop.input c.next_byte.new.input c.loop.output c.loop.invariant c.loop-test.true c.in-Some.byte
    (subst (λ (byte : Option ℕ). TakesByte source byte c.loop.input c.next_byte.new.input) c.in-Some.is c.in_ok-byte.ensures.taken)
    (search rules) c.take_line.new.rack c.take_line.new.array c.take_line.new.watchers.items c.bytes-then-byte-eq10.result.now c.bytes-then-byte-eq10.ensures c.in_ok-reply.reply c.in_ok-reply.ensures.done c.put_reply.new.output
    c.in_err-put_reply.field-0.0 c.in_err-put_reply.ensures.cut counter)

pub returns-then-is_halted-clause-means : goal.returns-then-is_halted-clause-means
returns-then-is_halted-clause-means g c counter =
    let view = device_view (rack_view g.R.Rack) (λ b. (goal.Watcher-dyn g (b.vtable, b.value)).hears b.value) in
    let of = c.args.array.now.member.array.geometry in
    let first = devices c.args.rack.now (Opened c.args.array.now) c.args.watchers.now.items in
    let source = source_view g.S.Source in
    let sink = sink_view g.K.Sink in
    let streams = views g.S.Source g.K.Sink in
    line_halted view source sink c.args.guarded of first c.args.input.now c.args.output.now c.loop.counter c.loop.number c.loop.line
    c.loop.rack c.loop.array c.loop.watchers.items c.loop.input c.next_byte.new.input c.loop.output c.loop.invariant c.loop-test.true c.in-Some.byte
    (subst (λ (byte : Option ℕ). TakesByte source byte c.loop.input c.next_byte.new.input) c.in-Some.is c.in_ok-byte.ensures.taken)
    (search rules) c.take_line.new.rack c.take_line.new.array c.take_line.new.watchers.items c.bytes-then-byte-eq10.result.now c.bytes-then-byte-eq10.ensures c.in_ok-reply.reply c.in_ok-reply.ensures.done c.put_reply.new.output
    (c.is_halted.ensures.halted c.if-is_halted.true).0 (fewer_left c.loop.watchers.items c.take_line.new.watchers.items (search rules))
    c.in_ok-put_reply.ensures.put counter

pub returns-else-bytes-lt-MAX_SCRIPT_LINE-clause-means : goal.returns-else-bytes-lt-MAX_SCRIPT_LINE-clause-means
returns-else-bytes-lt-MAX_SCRIPT_LINE-clause-means g c =
    let view = device_view (rack_view g.R.Rack) (λ b. (goal.Watcher-dyn g (b.vtable, b.value)).hears b.value) in
    let of = c.args.array.now.member.array.geometry in
    let first = devices c.args.rack.now (Opened c.args.array.now) c.args.watchers.now.items in
    let source = source_view g.S.Source in
    let sink = sink_view g.K.Sink in
    line_long view source sink c.args.guarded of first c.args.input.now c.args.output.now c.loop.counter c.loop.number c.loop.line
    c.loop.rack c.loop.array c.loop.watchers.items c.loop.input c.next_byte.new.input c.loop.output c.loop.invariant c.loop-test.true c.in-Some.byte
    (subst (λ (byte : Option ℕ). TakesByte source byte c.loop.input c.next_byte.new.input) c.in-Some.is c.in_ok-byte.ensures.taken)
    (search rules) (search rules)

pub loop-preserved : goal.loop-preserved
loop-preserved g c =
    let view = device_view (rack_view g.R.Rack) (λ b. (goal.Watcher-dyn g (b.vtable, b.value)).hears b.value) in
    let of = c.args.array.now.member.array.geometry in
    let first = devices c.args.rack.now (Opened c.args.array.now) c.args.watchers.now.items in
    let source = source_view g.S.Source in
    let sink = sink_view g.K.Sink in
    elim c.if-byte-eq10.branch [
      | then-byte-eq10+in_ok-reply+in_ok-put_reply+else-is_halted w ↦
          same_did view source sink c.args.guarded of first c.args.input.now c.args.output.now (c.loop.counter + 1) c.next_byte.new.input w.number-is w.line-is w.rack-is w.array-is (ap (λ all. all.items) w.watchers-is) w.output-is
          (line_did view source sink c.args.guarded of first c.args.input.now c.args.output.now c.loop.counter c.loop.number c.loop.line
          c.loop.rack c.loop.array c.loop.watchers.items c.loop.input c.next_byte.new.input c.loop.output c.loop.invariant c.loop-test.true c.in-Some.byte
          (subst (λ (byte : Option ℕ). TakesByte source byte c.loop.input c.next_byte.new.input) c.in-Some.is c.in_ok-byte.ensures.taken) (search rules)
          w.take_line.new.rack w.take_line.new.array w.take_line.new.watchers.items w.bytes-then-byte-eq10.result.now w.bytes-then-byte-eq10.ensures w.in_ok-reply.reply
          w.in_ok-reply.ensures.done w.put_reply.new.output
          (λ guards. none_left c.loop.watchers.items w.take_line.new.watchers.items
          (omega (arith, w.is_halted.ensures.goes_on w.if-is_halted.false guards, w.len-before.ensures, w.len.ensures)))
          w.clear.new.self w.clear.ensures.text w.in_ok-put_reply.ensures.put
          w.take_line.ensures.geometry w.take_line.ensures.stay)
      | else-byte-eq10+then-bytes-lt-MAX_SCRIPT_LINE w ↦
          same_did view source sink c.args.guarded of first c.args.input.now c.args.output.now (c.loop.counter + 1) c.next_byte.new.input w.number-is w.line-is w.rack-is w.array-is (ap (λ all. all.items) w.watchers-is) w.output-is
          (one_more view source sink c.args.guarded of first c.args.input.now c.args.output.now c.loop.counter c.loop.number c.loop.line
          c.loop.rack c.loop.array c.loop.watchers.items c.loop.input c.next_byte.new.input c.loop.output c.loop.invariant c.loop-test.true c.in-Some.byte
          (subst (λ (byte : Option ℕ). TakesByte source byte c.loop.input c.next_byte.new.input) c.in-Some.is c.in_ok-byte.ensures.taken) (search rules) w.push.new.self w.push.ensures.text (search rules))
    ]

pub returns-in_err-next_byte-clause-means : goal.returns-in_err-next_byte-clause-means
returns-in_err-next_byte-clause-means g c counter =
    let view = device_view (rack_view g.R.Rack) (λ b. (goal.Watcher-dyn g (b.vtable, b.value)).hears b.value) in
    let of = c.args.array.now.member.array.geometry in
    let first = devices c.args.rack.now (Opened c.args.array.now) c.args.watchers.now.items in
    let source = source_view g.S.Source in
    let sink = sink_view g.K.Sink in
    let streams = views g.S.Source g.K.Sink in
    with_hands_on view streams _ _ _ _ _ c.from_residual-in_err-next_byte.result c.in_err-next_byte.field-0.0 c.from_residual-in_err-next_byte.ensures.1
    (byte_failed view source sink c.args.guarded of first c.args.input.now c.args.output.now c.loop.counter c.loop.number c.loop.line
    c.loop.rack c.loop.array c.loop.watchers.items c.loop.input c.next_byte-2.new.input c.loop.output c.loop.invariant c.in_err-next_byte.field-0.0 c.in_err-next_byte.ensures.failed counter)

pub returns-in-Some-2-clause-means : goal.returns-in-Some-2-clause-means
returns-in-Some-2-clause-means g c =
    let view = device_view (rack_view g.R.Rack) (λ b. (goal.Watcher-dyn g (b.vtable, b.value)).hears b.value) in
    let of = c.args.array.now.member.array.geometry in
    let first = devices c.args.rack.now (Opened c.args.array.now) c.args.watchers.now.items in
    let source = source_view g.S.Source in
    let sink = sink_view g.K.Sink in
    too_long view source sink c.args.guarded of first c.args.input.now c.args.output.now c.loop.counter c.loop.number c.loop.line
    c.loop.rack c.loop.array c.loop.watchers.items c.loop.input c.next_byte-2.new.input c.loop.output c.loop.invariant (search rules)
    c.in-Some-2.field-0 (subst (λ (byte : Option ℕ). TakesByte source byte c.loop.input c.next_byte-2.new.input) c.in-Some-2.is c.in_ok-next_byte.ensures.taken)

pub returns-clause-means : goal.returns-clause-means
returns-clause-means g c =
    let view = device_view (rack_view g.R.Rack) (λ b. (goal.Watcher-dyn g (b.vtable, b.value)).hears b.value) in
    let of = c.args.array.now.member.array.geometry in
    let first = devices c.args.rack.now (Opened c.args.array.now) c.args.watchers.now.items in
    let source = source_view g.S.Source in
    let sink = sink_view g.K.Sink in
    ends_last view source sink c.args.guarded of first c.args.input.now c.args.output.now c.loop.counter c.loop.number c.loop.line
    c.loop.rack c.loop.array c.loop.watchers.items c.loop.input c.next_byte-2.new.input c.loop.output c.loop.invariant c.in_ok-next_byte.field-0
    c.in_default-2.not-Some c.in_ok-next_byte.ensures.taken c.bytes-2.result.now c.bytes-2.ensures
    (devices c.do_last-2.new.rack (Opened c.do_last-2.new.array) c.do_last-2.new.watchers.items) c.do_last-2.new.output (status_of c.do_last-2.result)
    c.do_last-2.ensures.means
