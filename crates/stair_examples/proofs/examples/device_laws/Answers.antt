-- The laws are lemmas.
use Rattle.stair_examples.proofs.CoveredLemmas as covered
use Rattle.stair_examples.proofs.CrashLemmas as crash
use Rattle.stair_examples.proofs.JournalLemmas as journal
use Rattle.stair_examples.proofs.examples.device_laws.Goals as goal

pub returns-clause-is_covered : goal.returns-clause-is_covered
returns-clause-is_covered c = covered.examples

pub returns-clause-crash_may_leave : goal.returns-clause-crash_may_leave
returns-clause-crash_may_leave c = crash.examples

pub returns-clause-redo : goal.returns-clause-redo
returns-clause-redo c = journal.redos

pub returns-clause-gate : goal.returns-clause-gate
returns-clause-gate c = journal.gates

pub returns-clause-membership : goal.returns-clause-membership
returns-clause-membership c = journal.memberships
