-- Lagrange's formula for a place from the known ones, and the two parts by which it is worked out.
use Rattle.std.specs.Prelude.{ℕ, List, slice_index, bit_xor}
use Rattle.stair_model.specs.Field.{product, inverse}
use Rattle.stair_model.specs.Sum.{field_product, product_except}

-- the product of x + y over n points y, without that of point i
unfoldable pub distances : ℕ → (ℕ → ℕ) → ℕ → ℕ → ℕ
distances n points i x = product_except n i (λ j. bit_xor x (points j))

-- the product of p + c over the held places c other than p
unfoldable pub weight : ℕ → ℕ → ℕ
weight held p = product_except held p (λ c. bit_xor p c)

-- what known place number i, which is a, contributes to place b: weight(a)·distances(b) over weight(b)·distances(a)
unfoldable pub solving : ℕ → List ℕ → ℕ → ℕ → ℕ
solving held known i b =
    let points = slice_index known in
    product (product (weight held (points i)) (distances held points i b))
    (inverse (product (weight held b) (distances held points i (points i))))

-- the part of known place number i, the same for each wanted one: its weight over its distances to the other known ones
unfoldable pub known_part : ℕ → List ℕ → ℕ → ℕ
known_part held known i =
    let points = slice_index known in
    product (weight held (points i)) (inverse (distances held points i (points i)))

-- the part of wanted place b, the same for each known one: its distances to all known ones over its weight
unfoldable pub wanted_part : ℕ → List ℕ → ℕ → ℕ
wanted_part held known b =
    product (field_product held (λ j. bit_xor b (slice_index known j))) (inverse (weight held b))
