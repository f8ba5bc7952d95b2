use Rattle.stair_conf.proofs.ConfigLaws.{identity_digits, one_answer}
use Rattle.stair_conf.proofs.laws.config_laws.Goals as goal

pub returns-clause-one_answer : goal.returns-clause-one_answer
returns-clause-one_answer c = one_answer

pub returns-clause-identity : goal.returns-clause-identity
returns-clause-identity c = identity_digits
