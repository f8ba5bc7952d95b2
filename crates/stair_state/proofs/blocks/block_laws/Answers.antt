-- The laws are lemmas.
use Rattle.stair_state.proofs.BlockLemmas as blocks
use Rattle.stair_state.proofs.blocks.block_laws.Goals as goal

pub returns-clause-exist : goal.returns-clause-exist
returns-clause-exist c = blocks.exist

pub returns-clause-unique : goal.returns-clause-unique
returns-clause-unique c = blocks.unique

pub returns-clause-at : goal.returns-clause-at
returns-clause-at c = blocks.at

pub returns-clause-set : goal.returns-clause-set
returns-clause-set c = blocks.set

pub returns-clause-set_all : goal.returns-clause-set_all
returns-clause-set_all c = blocks.set_all
