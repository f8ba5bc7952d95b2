-- One line after the other.
use Rattle.std.proofs.Common.{arith}
use Rattle.stair_command.specs.Outside.{sink_view}
use Rattle.stair_command.specs.Program.{Over, Program}
use Rattle.stair_volume.specs.Commands.{lists, status_of_volume}
use Rattle.stair_volume.proofs.ListLaws.{line_bytes, list_all, list_next, puts_fail, puts_none}
use Rattle.stair_volume.proofs.commands.list.Goals as goal

pub loop-entry-init : goal.loop-entry-init
loop-entry-init g c = puts_none (sink_view g.K.Sink) (lists c.args.table.now.entries) c.args.output.now

pub returns-in_err-put : goal.returns-in_err-put
returns-in_err-put g c slots =
    let why = c.in_err-put.field-0.0 in
    puts_fail (sink_view g.K.Sink) slots c.from_residual.result why c.from_residual.ensures.1
    (list_next (sink_view g.K.Sink) c.args.table.now.entries c.entries-entry-items.result.now c.loop-entry.entry-index c.entry-item.result
    c.bytes.result.now (λ (later : Program). Over (status_of_volume slots why)) c.entries-entry-items.ensures.value c.loop-entry-test.true c.entry-item.is
    (line_bytes _ _ _ _ c.bytes.ensures c.push_volume.ensures c.new-line.ensures.text) c.loop-entry.invariant (c.in_err-put.ensures slots))

pub loop-entry-preserved : goal.loop-entry-preserved
loop-entry-preserved g c =
    list_next (sink_view g.K.Sink) c.args.table.now.entries c.entries-entry-items.result.now c.loop-entry.entry-index c.entry-item.result
    c.bytes.result.now (λ (later : Program). later) c.entries-entry-items.ensures.value c.loop-entry-test.true c.entry-item.is
    (line_bytes _ _ _ _ c.bytes.ensures c.push_volume.ensures c.new-line.ensures.text) c.loop-entry.invariant (c.in_ok-put.ensures 0)

pub returns : goal.returns
returns g c slots =
    list_all (sink_view g.K.Sink) c.args.table.now.entries c.entries-entry-items.result.now c.loop-entry.entry-index
    c.entries-entry-items.ensures.value (omega (arith, c.loop-entry-test.false)) c.loop-entry.invariant
