-- The laws are lemmas.
use Rattle.stair_memrack.proofs.LawLemmas.{unwritten, spared, parts, survives, undamaged, stays, drawers}
use Rattle.stair_memrack.proofs.laws.stretch_laws.Goals as goal

pub returns-clause-unwritten : goal.returns-clause-unwritten
returns-clause-unwritten c = unwritten

pub returns-clause-spared : goal.returns-clause-spared
returns-clause-spared c = spared

pub returns-clause-parts : goal.returns-clause-parts
returns-clause-parts c = parts

pub returns-clause-survives : goal.returns-clause-survives
returns-clause-survives c = survives

pub returns-clause-undamaged : goal.returns-clause-undamaged
returns-clause-undamaged c = undamaged

pub returns-clause-stays : goal.returns-clause-stays
returns-clause-stays c = stays

pub returns-clause-drawers : goal.returns-clause-drawers
returns-clause-drawers c = drawers
