use Rattle.stair_model.proofs.DependentLaws.{factor_difference, others_stay, dependent_stays}
use Rattle.stair_model.proofs.dependents.difference_laws.Goals as goal

pub returns : goal.returns
returns c = record { factor = factor_difference; others_stay = others_stay; dependents_change = dependent_stays }
