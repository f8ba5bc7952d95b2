use Rattle.stair_model.proofs.DataLaws.{block_has_place, place_once, place_has_block, block_once}
use Rattle.stair_model.proofs.layout.block_laws.Goals as goal

pub returns-clause-has_place : goal.returns-clause-has_place
returns-clause-has_place c = block_has_place

pub returns-clause-one_place : goal.returns-clause-one_place
returns-clause-one_place c g b stripe row chunk stripe' row' chunk' limits = place_once g b stripe row chunk stripe' row' chunk'

pub returns-clause-has_block : goal.returns-clause-has_block
returns-clause-has_block c = place_has_block

pub returns-clause-one_block : goal.returns-clause-one_block
returns-clause-one_block c g b d stripe row chunk limits = block_once g b d stripe row chunk
