use Rattle.stair_model.proofs.FieldLaws.{inverse-pos, inverse-lt, product-inverse_right, inverse_only, product_cancel}
use Rattle.stair_model.proofs.field.inverse_laws.Goals as goal

pub returns : goal.returns
returns c = record {
  is_byte = λ a positive byte. (inverse-pos a positive byte, inverse-lt a positive byte);
  inverse = product-inverse_right;
  only = inverse_only;
  cancels = product_cancel;
}
