use Rattle.stair_model.proofs.DependentLaws.{dependent_in_some, dependent_in_any, dependent_or_not, dependent_itself, dependent_data, dependents_same}
use Rattle.stair_model.proofs.DependentSets.{dependents_exist, dependents_count, dependents_cost}
use Rattle.stair_model.proofs.dependents.dependent_laws.Goals as goal

pub returns : goal.returns
returns c = record {
  in_some = dependent_in_some;
  in_any = dependent_in_any;
  decided = dependent_or_not;
  itself = dependent_itself;
  no_other_data = dependent_data;
  some_set = dependents_exist;
  one_set = dependents_same;
  count = dependents_count;
  cost = dependents_cost;
}
