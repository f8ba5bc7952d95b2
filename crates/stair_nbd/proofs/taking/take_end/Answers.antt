-- One more byte came; the input ended; or it failed.
use Rattle.std.proofs.Common.{List, ℕ}
use Rattle.stair_command.specs.Outside.{source_view}
use Rattle.stair_command.specs.Program.{Over}
use Rattle.stair_status.specs.declared.status.Status.TheVariants.{BadMessage, Done}
use Rattle.stair_nbd.proofs.TakeLaws.{took_all, took_none, took_part}
use Rattle.stair_nbd.proofs.taking.take_end.Goals as goal

pub returns-in-Enough : goal.returns-in-Enough
returns-in-Enough g c =
    took_all (source_view g.S.Source) 1 (λ (byte : List ℕ). Over (BadMessage c.args.place.number)) (λ (none : List ℕ). Over Done)
    c.args.input.now c.take_at_least.new.input c.take_at_least.new.into c.in-Enough.field-0 c.take_at_least.auto.into c.in-Enough.ensures

pub returns-in-Short : goal.returns-in-Short
returns-in-Short g c =
    took_part (source_view g.S.Source) 1 (λ (byte : List ℕ). Over (BadMessage c.args.place.number)) (λ (none : List ℕ). Over Done)
    c.args.input.now c.take_at_least.new.input c.take_at_least.new.into c.in-Short.field-0 c.in-Short.ensures

pub returns-in-Failed : goal.returns-in-Failed
returns-in-Failed g c =
    took_none (source_view g.S.Source) 1 (λ (byte : List ℕ). Over (BadMessage c.args.place.number)) (λ (none : List ℕ). Over Done)
    c.args.input.now c.take_at_least.new.input c.take_at_least.new.into c.in-Failed.ensures
