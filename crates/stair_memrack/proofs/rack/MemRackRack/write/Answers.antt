use Rattle.std.proofs.Common.{sym, ap, ◌∙◌}
use Rattle.stair_memrack.specs.declared.record.Call.TheVariants.{Write}
use Rattle.stair_memrack.proofs.ClauseLemmas.{told_as}
use Rattle.stair_memrack.proofs.rack.MemRackRack.write.Goals as goal

pub returns-clause-does : goal.returns-clause-does
returns-clause-does c = told_as (Write c.args.sector c.args.from.now c.reply.result) c.call.ensures.one (c.call.ensures.asked ∙ ap (Write c.args.sector c.args.from.now) (sym c.reply.ensures))
