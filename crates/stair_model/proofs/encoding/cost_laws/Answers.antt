use Rattle.stair_model.proofs.CostLaws.{standard_cost_exists, standard_cost_unique}
use Rattle.stair_model.proofs.encoding.cost_laws.Goals as goal

pub returns : goal.returns
returns c = record { exists = standard_cost_exists; unique = standard_cost_unique }
