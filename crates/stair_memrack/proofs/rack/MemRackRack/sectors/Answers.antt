use Rattle.std.proofs.Common.{sym, ap, ◌∙◌}
use Rattle.stair_memrack.specs.declared.record.Call.TheVariants.{Sectors}
use Rattle.stair_memrack.proofs.ClauseLemmas.{told_as}
use Rattle.stair_memrack.proofs.rack.MemRackRack.sectors.Goals as goal

pub returns-clause-does : goal.returns-clause-does
returns-clause-does c = told_as (Sectors c.number.result) c.call.ensures.one (c.call.ensures.asked ∙ ap Sectors (sym c.number.ensures))
