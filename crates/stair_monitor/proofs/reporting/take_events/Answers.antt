-- Byte after byte.
use Rattle.std.proofs.Common.{Option, ℕ, rules, subst, ◌+◌}
use Rattle.stair_monitor.proofs.ReportLemmas.{byte_failed, ends_last, line_long, line_refused, line_seen, one_more, same_saw, saw_none, text_refused, too_long}
use Rattle.stair_command.specs.Outside.{source_view}
use Rattle.stair_command.specs.Texts.{TakesByte}
use Rattle.stair_monitor.proofs.reporting.take_events.Goals as goal
use Rattle.stair_monitor.proofs.reporting.take_events.Goals.{then-byte-eq10+in_ok-event_of, else-byte-eq10+then-bytes-lt-MAX_EVENT_LINE}

pub loop-init : goal.loop-init
loop-init g c =
    let view = source_view g.S.Source in
    saw_none view c.args.input.now c.new-line.result c.none-seen.result c.new-line.ensures.text c.none-seen.ensures

pub returns-in_err-byte : goal.returns-in_err-byte
returns-in_err-byte g c =
    let view = source_view g.S.Source in
    let why = c.in_err-byte.field-0.0 in
    text_refused view c.from_residual.result why c.from_residual.ensures.1 c.args.input.now c.next_byte.new.input
    (byte_failed view c.args.input.now c.loop.counter c.loop.number c.loop.line c.loop.seen c.loop.input c.next_byte.new.input c.loop.invariant why
    c.in_err-byte.ensures.failed)

pub returns-in_default : goal.returns-in_default
returns-in_default g c =
    let view = source_view g.S.Source in
    ends_last view c.args.input.now c.loop.counter c.loop.number c.loop.line c.loop.seen c.loop.input c.next_byte.new.input c.loop.invariant
    c.in_ok-byte.field-0 c.in_default.not-Some c.in_ok-byte.ensures.taken c.bytes.result.now c.bytes.ensures c.take_last.result
    (c.take_last.ensures c.loop.invariant.events c.loop.invariant.tells)

pub returns-in_err-event_of : goal.returns-in_err-event_of
returns-in_err-event_of g c =
    let view = source_view g.S.Source in
    let why = c.in_err-event_of.field-0.0 in
    text_refused view c.from_residual-in_err-event_of.result why c.from_residual-in_err-event_of.ensures.1 c.args.input.now c.next_byte.new.input
    (line_refused view c.args.input.now c.loop.counter c.loop.number c.loop.line c.loop.seen c.loop.input c.next_byte.new.input c.loop.invariant
    c.loop-test.true c.in-Some.byte
    (subst (λ (byte : Option ℕ). TakesByte view byte c.loop.input c.next_byte.new.input) c.in-Some.is c.in_ok-byte.ensures.taken) (search rules)
    c.bytes-then-byte-eq10.result.now c.bytes-then-byte-eq10.ensures why c.in_err-event_of.ensures)

pub returns-else-bytes-lt-MAX_EVENT_LINE : goal.returns-else-bytes-lt-MAX_EVENT_LINE
returns-else-bytes-lt-MAX_EVENT_LINE g c =
    let view = source_view g.S.Source in
    line_long view c.args.input.now c.loop.counter c.loop.number c.loop.line c.loop.seen c.loop.input c.next_byte.new.input c.loop.invariant
    c.loop-test.true c.in-Some.byte
    (subst (λ (byte : Option ℕ). TakesByte view byte c.loop.input c.next_byte.new.input) c.in-Some.is c.in_ok-byte.ensures.taken) (search rules)
    (search rules)

pub loop-preserved : goal.loop-preserved
loop-preserved g c =
    let view = source_view g.S.Source in
    elim c.if-byte-eq10.branch [
      | then-byte-eq10+in_ok-event_of w ↦
          same_saw view c.args.input.now (c.loop.counter + 1) c.next_byte.new.input w.number-is w.line-is w.seen-is
          (line_seen view c.args.input.now c.loop.counter c.loop.number c.loop.line c.loop.seen c.loop.input c.next_byte.new.input c.loop.invariant
          c.loop-test.true c.in-Some.byte
          (subst (λ (byte : Option ℕ). TakesByte view byte c.loop.input c.next_byte.new.input) c.in-Some.is c.in_ok-byte.ensures.taken) (search rules)
          w.bytes-then-byte-eq10.result.now w.bytes-then-byte-eq10.ensures w.in_ok-event_of.field-0 w.in_ok-event_of.ensures w.add.new.self w.add.ensures
          w.clear.new.self w.clear.ensures.text)
      | else-byte-eq10+then-bytes-lt-MAX_EVENT_LINE w ↦
          same_saw view c.args.input.now (c.loop.counter + 1) c.next_byte.new.input w.number-is w.line-is w.seen-is
          (one_more view c.args.input.now c.loop.counter c.loop.number c.loop.line c.loop.seen c.loop.input c.next_byte.new.input c.loop.invariant
          c.loop-test.true c.in-Some.byte
          (subst (λ (byte : Option ℕ). TakesByte view byte c.loop.input c.next_byte.new.input) c.in-Some.is c.in_ok-byte.ensures.taken) (search rules)
          w.push.new.self w.push.ensures.text (search rules))
    ]

pub returns-in_err-next_byte : goal.returns-in_err-next_byte
returns-in_err-next_byte g c =
    let view = source_view g.S.Source in
    let why = c.in_err-next_byte.field-0.0 in
    text_refused view c.from_residual-in_err-next_byte.result why c.from_residual-in_err-next_byte.ensures.1 c.args.input.now c.next_byte-2.new.input
    (byte_failed view c.args.input.now c.loop.counter c.loop.number c.loop.line c.loop.seen c.loop.input c.next_byte-2.new.input c.loop.invariant why
    c.in_err-next_byte.ensures.failed)

pub returns-in-Some-2 : goal.returns-in-Some-2
returns-in-Some-2 g c =
    let view = source_view g.S.Source in
    too_long view c.args.input.now c.loop.counter c.loop.number c.loop.line c.loop.seen c.loop.input c.next_byte-2.new.input c.loop.invariant
    (search rules) c.in-Some-2.field-0
    (subst (λ (byte : Option ℕ). TakesByte view byte c.loop.input c.next_byte-2.new.input) c.in-Some-2.is c.in_ok-next_byte.ensures.taken)

pub returns : goal.returns
returns g c =
    let view = source_view g.S.Source in
    ends_last view c.args.input.now c.loop.counter c.loop.number c.loop.line c.loop.seen c.loop.input c.next_byte-2.new.input c.loop.invariant
    c.in_ok-next_byte.field-0 c.in_default-2.not-Some c.in_ok-next_byte.ensures.taken c.bytes-2.result.now c.bytes-2.ensures c.take_last-2.result
    (c.take_last-2.ensures c.loop.invariant.events c.loop.invariant.tells)
