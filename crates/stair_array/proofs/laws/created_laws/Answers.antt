-- The laws are lemmas.
use Rattle.stair_array.proofs.CreatedLemmas as created
use Rattle.stair_array.proofs.ExampleLemmas as examples
use Rattle.stair_array.proofs.NewArrayLemmas as new_array
use Rattle.stair_array.proofs.laws.created_laws.Goals as goal

pub returns-clause-zero : goal.returns-clause-zero
returns-clause-zero c = created.zero

pub returns-clause-represents : goal.returns-clause-represents
returns-clause-represents c = new_array.new_represents

pub returns-clause-consistent : goal.returns-clause-consistent
returns-clause-consistent c = new_array.new_consistent

pub returns-clause-media : goal.returns-clause-media
returns-clause-media c = new_array.media_of_array

pub returns-clause-example : goal.returns-clause-example
returns-clause-example c = examples.example
