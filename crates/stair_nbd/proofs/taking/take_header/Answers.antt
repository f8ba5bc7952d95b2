-- The header came whole; the input ended before it, or within it; or it failed.
use Rattle.stair_command.specs.Outside.{source_view}
use Rattle.stair_nbd.specs.Client.{ends_in_header}
use Rattle.stair_nbd.proofs.TakeLaws.{header_none, header_short, took_all, took_none}
use Rattle.stair_nbd.proofs.taking.take_header.Goals as goal

pub returns-in-Enough : goal.returns-in-Enough
returns-in-Enough g c k =
    took_all (source_view g.S.Source) _ k (ends_in_header _) c.args.input.now c.take_at_least.new.input
    c.take_at_least.new.into c.in-Enough.field-0 c.take_at_least.auto.into c.in-Enough.ensures

pub returns-in-Short-eq0 : goal.returns-in-Short-eq0
returns-in-Short-eq0 g c k =
    header_none (source_view g.S.Source) _ k c.args.input.now c.take_at_least.new.input
    c.take_at_least.new.into c.in-Short-eq0.field-0 c.in-Short-eq0.field-0-test c.in-Short-eq0.ensures

pub returns-in-Short : goal.returns-in-Short
returns-in-Short g c k =
    header_short (source_view g.S.Source) _ k c.args.input.now c.take_at_least.new.input
    c.take_at_least.new.into c.in-Short.count c.take_at_least.auto.into c.in-Short.count-test.1 c.in-Short.ensures

pub returns-in-Failed : goal.returns-in-Failed
returns-in-Failed g c k =
    took_none (source_view g.S.Source) _ k (ends_in_header _) c.args.input.now c.take_at_least.new.input
    c.take_at_least.new.into c.in-Failed.ensures
