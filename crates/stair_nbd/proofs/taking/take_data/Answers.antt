-- All of the bytes came; the input ended within them; or it failed.
use Rattle.std.proofs.Common.{◌<◌, length, rules}
use Rattle.stair_command.specs.Outside.{source_view}
use Rattle.stair_nbd.proofs.TakeLaws.{data_all, data_failed, data_short}
use Rattle.stair_nbd.proofs.taking.take_data.Goals as goal

pub returns-in-Enough : goal.returns-in-Enough
returns-in-Enough g c k =
    let some : 0 < length c.args.into.now = search rules in
    data_all (source_view g.S.Source) c.args.header _ k c.args.input.now c.take_at_least.new.input some
    c.take_at_least.new.into c.in-Enough.field-0 c.take_at_least.auto.into c.in-Enough.ensures

pub returns-in-Short : goal.returns-in-Short
returns-in-Short g c k =
    let some : 0 < length c.args.into.now = search rules in
    data_short (source_view g.S.Source) c.args.header _ k c.args.input.now c.take_at_least.new.input some
    c.take_at_least.new.into c.in-Short.count c.take_at_least.auto.into c.in-Short.ensures

pub returns-in-Failed : goal.returns-in-Failed
returns-in-Failed g c k =
    let some : 0 < length c.args.into.now = search rules in
    data_failed (source_view g.S.Source) c.args.header _ k c.args.input.now c.take_at_least.new.input some
    c.take_at_least.new.into c.in-Failed.ensures
