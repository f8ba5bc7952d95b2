use Rattle.stair_plan.proofs.PenaltyLemmas.{some_penalty, one_penalty, penalty_parities, penalty_sum}
use Rattle.stair_plan.proofs.laws.penalty_laws.Goals as goal

pub returns : goal.returns
returns c = record {
  exists = some_penalty;
  unique = one_penalty;
  parities = penalty_parities;
  sum = penalty_sum;
}
