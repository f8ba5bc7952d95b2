use Rattle.stair_model.proofs.FieldLaws.{product-lt, product-mod_left, product_comm, product_assoc, product-xor_left, product-xor_right, product-zero_left, product-one_left, product-two_left, no_zero_divisors}
use Rattle.stair_model.proofs.field.product_laws.Goals as goal

pub returns : goal.returns
returns c = record {
  is_byte = product-lt;
  low_bits = product-mod_left;
  commutative = product_comm;
  associative = product_assoc;
  distributes_left = product-xor_left;
  distributes_right = product-xor_right;
  zero = product-zero_left;
  unit = product-one_left;
  doubling = product-two_left;
  no_zero_divisors = no_zero_divisors;
}
