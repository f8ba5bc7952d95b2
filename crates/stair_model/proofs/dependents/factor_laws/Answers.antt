use Rattle.stair_model.proofs.DependentLaws.{factor_exists, factor_unique, factor_itself, factor_other, dependent_by_factor}
use Rattle.stair_model.proofs.dependents.factor_laws.Goals as goal

pub returns : goal.returns
returns c = record {
  exists = factor_exists;
  unique = factor_unique;
  itself = factor_itself;
  other_data = factor_other;
  dependents = dependent_by_factor;
}
