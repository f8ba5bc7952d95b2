-- Each value is computed.
use Rattle.std.proofs.Common.{refl}
use Rattle.stair_model.specs.Field.{times_x, shift_and_add, product, least_below, inverse}
use Rattle.stair_model.proofs.field.known_products.Goals as goal

pub returns : goal.returns
unfolding inverse least_below product shift_and_add times_x
returns c = record {
  reduction = refl;
  half = refl;
  third = refl;
  fourth = refl;
  fifth = refl;
  sixth = refl;
  seventh = refl;
}
