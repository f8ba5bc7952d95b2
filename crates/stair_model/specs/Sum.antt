-- Sums and products of the first values of a function.
use Rattle.std.specs.Prelude.{ℕ, ◌+◌, bit_xor, if◌then◌else◌, ◌==◌}
use Rattle.std.proofs.Common.{zero, suc}
use Rattle.stair_model.specs.Field.{product}

-- f 0 + .. + f (n - 1), of numbers
unfoldable pub sum_below : ℕ → (ℕ → ℕ) → ℕ
sum_below zero f = 0
sum_below (suc n) f = sum_below n f + f n

-- f 0 + .. + f (n - 1), of elements of the field, whose addition is the exclusive or
unfoldable pub field_sum : ℕ → (ℕ → ℕ) → ℕ
field_sum zero f = 0
field_sum (suc n) f = bit_xor (field_sum n f) (f n)

-- f 0 · .. · f (n - 1), of elements of the field
unfoldable pub field_product : ℕ → (ℕ → ℕ) → ℕ
field_product zero f = 1
field_product (suc n) f = product (field_product n f) (f n)

-- the same without the factor f i
unfoldable pub product_except : ℕ → ℕ → (ℕ → ℕ) → ℕ
product_except n i f = field_product n (λ j. if j == i then 1 else f j)
