-- The laws are lemmas.
use Rattle.stair_reinsert.proofs.EpochLaws.{begins, closes}
use Rattle.stair_reinsert.proofs.SessionLooks.{looked_knows}
use Rattle.stair_reinsert.proofs.SessionBegins.{own_known}
use Rattle.stair_reinsert.proofs.LeavingBegins.{leaves_begins, leaves_closed}
use Rattle.stair_reinsert.proofs.epochs.begin_laws.Goals as goal

pub returns-clause-own : goal.returns-clause-own
returns-clause-own c = own_known

pub returns-clause-begins : goal.returns-clause-begins
returns-clause-begins c = begins

pub returns-clause-closes : goal.returns-clause-closes
returns-clause-closes c = closes

pub returns-clause-leaves : goal.returns-clause-leaves
returns-clause-leaves c = leaves_begins

pub returns-clause-leaves_closed : goal.returns-clause-leaves_closed
returns-clause-leaves_closed c = leaves_closed

pub returns-clause-looked : goal.returns-clause-looked
returns-clause-looked c = looked_knows
