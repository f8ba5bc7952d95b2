use Rattle.stair_member.proofs.CountingLemmas.{apart, common}
use Rattle.stair_member.proofs.laws.counting_laws.Goals as goal

pub returns-clause-apart : goal.returns-clause-apart
returns-clause-apart c m test = apart

pub returns-clause-common : goal.returns-clause-common
returns-clause-common c n m a b = common
