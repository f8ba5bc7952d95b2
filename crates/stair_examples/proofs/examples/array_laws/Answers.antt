-- The laws are lemmas.
use Rattle.stair_examples.proofs.EncodesLemmas as encodes
use Rattle.stair_examples.proofs.ToleranceLemmas as tolerance
use Rattle.stair_examples.proofs.RepresentsLemmas as represents
use Rattle.stair_examples.proofs.CopyLemmas as copy
use Rattle.stair_examples.proofs.examples.array_laws.Goals as goal

pub returns-clause-encodes : goal.returns-clause-encodes
returns-clause-encodes c = encodes.examples

pub returns-clause-is_within_tolerance : goal.returns-clause-is_within_tolerance
returns-clause-is_within_tolerance c = tolerance.away

pub returns-clause-stays_within_tolerance : goal.returns-clause-stays_within_tolerance
returns-clause-stays_within_tolerance c = tolerance.calms

pub returns-clause-represents : goal.returns-clause-represents
returns-clause-represents c = represents.examples

pub returns-clause-is_consistent_under_reassembly : goal.returns-clause-is_consistent_under_reassembly
returns-clause-is_consistent_under_reassembly c = represents.reassembled

pub returns-clause-is_older_copy : goal.returns-clause-is_older_copy
returns-clause-is_older_copy c = copy.examples
