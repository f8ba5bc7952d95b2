-- The laws are lemmas.
use Rattle.stair_examples.proofs.CallLemmas as call
use Rattle.stair_examples.proofs.LifeLemmas as life
use Rattle.stair_examples.proofs.examples.call_laws.Goals as goal

pub returns-clause-means : goal.returns-clause-means
returns-clause-means c = call.meanings

pub returns-clause-refines_program : goal.returns-clause-refines_program
returns-clause-refines_program c = call.calls

pub returns-clause-goes : goal.returns-clause-goes
returns-clause-goes c = call.steps

pub returns-clause-is_run : goal.returns-clause-is_run
returns-clause-is_run c = call.runs

pub returns-clause-is_safe : goal.returns-clause-is_safe
returns-clause-is_safe c = call.crashes

pub returns-clause-lives : goal.returns-clause-lives
returns-clause-lives c = life.examples
