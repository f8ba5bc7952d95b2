-- The bytes that are to be written are in the buffer.
use Rattle.std.proofs.Common.{◌∙◌, sym}
use Rattle.stair_command.specs.Outside.{source_view}
use Rattle.stair_nbd.proofs.TakeLaws.{data_fits, request_kept}
use Rattle.stair_nbd.proofs.taking.take_request_data.Goals as goal

pub returns : goal.returns
returns g c =
    request_kept (source_view g.S.Source) c.args.size c.args.request.now c.take_data.result c.skipped-start.result
    c.data_length-length.result c.args.buffer.now c.take_data.new.into c.args.input.now c.take_data.new.input c.skipped-start.ensures.value
    c.data_length-length.ensures
    (data_fits c.args.request.now c.skipped-start.result c.data_length-length.result _ (sym c.is_too_long.ensures ∙ c.if-is_too_long.false)
    c.skipped-start.ensures.within c.data_length-length.ensures c.requires)
    c.take_data.auto.into c.take_data.ensures
