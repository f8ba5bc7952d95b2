-- The laws are lemmas.
use Rattle.stair_reinsert.proofs.GivenLemmas.{given_wherever}
use Rattle.stair_reinsert.proofs.MediaInStage.{stage_wherever, stands_together}
use Rattle.stair_reinsert.proofs.SuperKept.{superblock_kept}
use Rattle.stair_reinsert.proofs.following.wherever_laws.Goals as goal

pub returns-clause-stage : goal.returns-clause-stage
returns-clause-stage c = stage_wherever

pub returns-clause-stands : goal.returns-clause-stands
returns-clause-stands c = stands_together

pub returns-clause-given : goal.returns-clause-given
returns-clause-given c = given_wherever

pub returns-clause-superblock : goal.returns-clause-superblock
returns-clause-superblock c = superblock_kept
