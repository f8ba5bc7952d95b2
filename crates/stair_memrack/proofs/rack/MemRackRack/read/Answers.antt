use Rattle.std.proofs.Common.{sym, ap, ◌∙◌}
use Rattle.stair_memrack.specs.declared.record.Call.TheVariants.{Read}
use Rattle.stair_memrack.proofs.ClauseLemmas.{told_as}
use Rattle.stair_memrack.proofs.rack.MemRackRack.read.Goals as goal

pub returns-clause-does : goal.returns-clause-does
returns-clause-does c = told_as (Read c.args.sector c.got.result) c.call.ensures.one (c.call.ensures.asked ∙ ap (Read c.args.sector) (sym c.got.ensures))
