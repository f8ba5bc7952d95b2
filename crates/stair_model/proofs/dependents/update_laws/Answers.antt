use Rattle.stair_model.proofs.DependentLaws.{block_set_exists, block_set_unique, updated_by_factors}
use Rattle.stair_model.proofs.dependents.update_laws.Goals as goal

pub returns : goal.returns
returns c = record { exists = block_set_exists; unique = block_set_unique; by_factors = updated_by_factors }
