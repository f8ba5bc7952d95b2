-- The text was refused; or a report was put out, or a part of one.
use Rattle.std.proofs.Common.{◌≡◌, ◌∙◌, ap, arith, length, sym}
use Rattle.stair_command.specs.Outside.{views}
use Rattle.stair_monitor.proofs.ReportLemmas.{report_cut, report_done, report_refused}
use Rattle.stair_monitor.proofs.reporting.report.Goals as goal

pub returns-in_err-seen : goal.returns-in_err-seen
returns-in_err-seen g c =
    let streams = views g.S.Source g.K.Sink in
    report_refused streams c.from_residual.result c.in_err-seen.field-0.0 c.from_residual.ensures.1 c.args.input.now c.take_events.new.input
    c.in_err-seen.ensures c.args.output.now

pub returns-then-put_until_fault-bytes : goal.returns-then-put_until_fault-bytes
returns-then-put_until_fault-bytes g c counter =
    let streams = views g.S.Source g.K.Sink in
    let same : c.bytes.result.now ≡ c.bytes-2.result.now = c.bytes.ensures ∙ sym c.bytes-2.ensures in
    report_cut streams c.in_ok-seen.seen c.args.input.now c.take_events.new.input c.in_ok-seen.ensures c.bytes.result.now
    (λ events tells. c.bytes.ensures ∙ c.text-text.ensures events tells) c.put_until_fault.result c.args.output.now c.put_until_fault.new.sink
    c.put_until_fault.ensures counter (omega (arith, c.if-put_until_fault-bytes.true, ap length same))

pub returns : goal.returns
returns g c counter =
    let streams = views g.S.Source g.K.Sink in
    let same : c.bytes.result.now ≡ c.bytes-2.result.now = c.bytes.ensures ∙ sym c.bytes-2.ensures in
    report_done streams c.in_ok-seen.seen c.args.input.now c.take_events.new.input c.in_ok-seen.ensures c.bytes.result.now
    (λ events tells. c.bytes.ensures ∙ c.text-text.ensures events tells) c.put_until_fault.result c.args.output.now c.put_until_fault.new.sink
    c.put_until_fault.ensures counter (omega (arith, c.if-put_until_fault-bytes.false, ap length same))
