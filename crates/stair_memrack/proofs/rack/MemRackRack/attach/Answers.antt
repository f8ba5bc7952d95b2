use Rattle.std.proofs.Common.{sym, ap, ◌∙◌}
use Rattle.stair_memrack.specs.declared.record.Call.TheVariants.{Attach}
use Rattle.stair_memrack.proofs.ClauseLemmas.{told_as}
use Rattle.stair_memrack.proofs.rack.MemRackRack.attach.Goals as goal

pub returns-clause-does : goal.returns-clause-does
returns-clause-does c = told_as (Attach c.reply.result) c.call.ensures.one (c.call.ensures.asked ∙ ap Attach (sym c.reply.ensures))
