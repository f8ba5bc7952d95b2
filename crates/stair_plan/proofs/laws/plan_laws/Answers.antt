use Rattle.stair_plan.proofs.PlanLemmas.{some_plan, one_plan, plan_sum, fewest_least, one_fewest}
use Rattle.stair_plan.proofs.laws.plan_laws.Goals as goal

pub returns : goal.returns
returns c = record {
  exists = some_plan;
  unique = one_plan;
  sum = plan_sum;
  fewest = fewest_least;
  one_fewest = one_fewest;
}
