use Rattle.std.proofs.Common.{sym, ap, ◌∙◌}
use Rattle.stair_memrack.specs.declared.record.Call.TheVariants.{Sync}
use Rattle.stair_memrack.proofs.ClauseLemmas.{told_as}
use Rattle.stair_memrack.proofs.rack.MemRackRack.sync.Goals as goal

pub returns-clause-does : goal.returns-clause-does
returns-clause-does c = told_as (Sync c.reply.result) c.call.ensures.one (c.call.ensures.asked ∙ ap Sync (sym c.reply.ensures))
