use Rattle.stair_codec.proofs.ChoiceLaws.{fewest, one_cost, one_encoder, some_cost, some_encoder}
use Rattle.stair_codec.proofs.laws.choice_laws.Goals as goal

pub returns : goal.returns
returns c = record {
  encoder = some_encoder;
  one_encoder = one_encoder;
  cost = some_cost;
  one_cost = one_cost;
  fewest = fewest;
}
