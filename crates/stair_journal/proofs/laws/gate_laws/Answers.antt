use Rattle.stair_journal.proofs.GateLemmas.{closed_sector, open_sector, closed, once}
use Rattle.stair_journal.proofs.laws.gate_laws.Goals as goal

pub returns-clause-closed_sector : goal.returns-clause-closed_sector
returns-clause-closed_sector c = closed_sector

pub returns-clause-open_sector : goal.returns-clause-open_sector
returns-clause-open_sector c = open_sector

pub returns-clause-closed : goal.returns-clause-closed
returns-clause-closed c = closed

pub returns-clause-once : goal.returns-clause-once
returns-clause-once c = once
