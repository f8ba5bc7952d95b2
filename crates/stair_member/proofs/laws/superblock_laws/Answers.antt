use Rattle.stair_member.proofs.SuperLemmas.{one_super, one_identity, one_current}
use Rattle.stair_member.proofs.DecisionLemmas.{super_decided}
use Rattle.stair_member.proofs.StandingLemmas.{has_current}
use Rattle.stair_member.proofs.laws.superblock_laws.Goals as goal

pub returns-clause-one_super : goal.returns-clause-one_super
returns-clause-one_super c = one_super

pub returns-clause-decided : goal.returns-clause-decided
returns-clause-decided c = super_decided

pub returns-clause-one_identity : goal.returns-clause-one_identity
returns-clause-one_identity c = one_identity

pub returns-clause-one_current : goal.returns-clause-one_current
returns-clause-one_current c = one_current

pub returns-clause-has_current : goal.returns-clause-has_current
returns-clause-has_current c = has_current
