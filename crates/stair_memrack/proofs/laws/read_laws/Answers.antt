-- The laws are lemmas.
use Rattle.stair_memrack.proofs.LawLemmas.{read_good, read_bad, read_gone, one_medium}
use Rattle.stair_memrack.proofs.laws.read_laws.Goals as goal

pub returns-clause-good : goal.returns-clause-good
returns-clause-good c = read_good

pub returns-clause-bad : goal.returns-clause-bad
returns-clause-bad c = read_bad

pub returns-clause-gone : goal.returns-clause-gone
returns-clause-gone c = read_gone

pub returns-clause-one_medium : goal.returns-clause-one_medium
returns-clause-one_medium c = one_medium
