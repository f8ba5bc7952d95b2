-- The laws are lemmas.
use Rattle.stair_memrack.proofs.LawLemmas.{nowhere, made_again, unsynced}
use Rattle.stair_memrack.proofs.laws.medium_laws.Goals as goal

pub returns-clause-nowhere : goal.returns-clause-nowhere
returns-clause-nowhere c = nowhere

pub returns-clause-made_again : goal.returns-clause-made_again
returns-clause-made_again c = made_again

pub returns-clause-unsynced : goal.returns-clause-unsynced
returns-clause-unsynced c = unsynced
