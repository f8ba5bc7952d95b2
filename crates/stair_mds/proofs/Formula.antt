-- Lagrange's formula gives each place of a codeword, and is worked out by two parts.
use Rattle.std.proofs.Common.{◌≡◌, ◌≢◌, ℕ, ◌<◌, ◌≤◌, List, slice_index, sym, subst, ap, ◌∙◌, arith}
use Rattle.std.specs.Prelude.{Contains, bit_xor}
use Rattle.std.proofs.lemmas.List.Elements.{Contains-get_or}
use Rattle.std.proofs.lemmas.Nat.{xor_lt}
use Rattle.stair_model.specs.Field.{product, inverse}
use Rattle.stair_model.specs.Sum.{field_sum}
use Rattle.stair_model.specs.CauchyCode.{coefficient, IsSystematicCodeword, AreKnownPlaces}
use Rattle.stair_model.proofs.FieldLaws.{xor-pos, product_comm, product_assoc, product_left_comm, product_right_comm, product-one_right, product-inverse_right, product-inverse_product, inverse-product}
use Rattle.stair_model.proofs.ProductLaws.{product_except_whole}
use Rattle.stair_model.proofs.SumLaws.{field_sum_same, field_sum-product_left}
use Rattle.stair_model.proofs.LagrangeLaws.{distances, distances-lt, own_distances-pos, combination, combination-polynomial, lagrange}
use Rattle.stair_model.proofs.CodeLaws.{weight, weight-lt, weight-pos, codeword_polynomial, known_below, known_bytes, known_distinct}
use Rattle.stair_mds.specs.Lagrange as words

-- no part of the formula divides by 0
pub own_distance-pos : (held total : ℕ) (known : List ℕ) (i : ℕ) → total ≤ 256 → AreKnownPlaces held total known → i < held
    → 0 < words.distances held (slice_index known) i (slice_index known i)
unfolding distances words.distances
own_distance-pos held total known i few places =
    own_distances-pos held (slice_index known) i (known_bytes held total known few places) (known_distinct held total known places)

pub weight_of-pos : (held p : ℕ) → held ≤ 256 → p < 256 → 0 < words.weight held p
unfolding weight words.weight
weight_of-pos held p few byte = weight-pos held p few byte

-- ((w·l)·((d·x)·v))·y is (w·d)·(v·l) where x·y is 1
cancel : (w l d x v y : ℕ) → d < 256 → product x y ≡ 1
    → product (product (product w l) (product (product d x) v)) y ≡ product (product w d) (product v l)
cancel w l d x v y byte one =
    product_assoc (product w l) (product (product d x) v) y
    ∙ ap (product (product w l))
    (product_right_comm (product d x) v y
    ∙ ap (λ z. product z v) (product_assoc d x y ∙ ap (product d) one ∙ product-one_right d byte))
    ∙ product_assoc w l (product d v) ∙ ap (product w) (product_left_comm l d v) ∙ sym (product_assoc w d (product l v))
    ∙ ap (product (product w d)) (product_comm l v)

-- the formula by its two parts: their product over the sum of both places
pub solving_by_parts : (held total : ℕ) (known : List ℕ) (i b : ℕ) → held ≤ 256 → total ≤ 256
    → AreKnownPlaces held total known → i < held → b < 256 → (Contains known b → ⊥)
    → product (product (words.known_part held known i) (words.wanted_part held known b)) (inverse (bit_xor b (slice_index known i)))
    ≡ words.solving held known i b
unfolding weight distances words.solving words.known_part words.wanted_part words.weight words.distances
solving_by_parts held total known i b few small places within byte unknown =
    ap (λ p. product (product (product (weight held a) (inverse own)) (product p (inverse (weight held b)))) (inverse between))
    (product_except_whole held i (λ j. bit_xor b (slice_index known j)) within)
    ∙ cancel (weight held a) (inverse own) there between (inverse (weight held b)) (inverse between)
    (distances-lt held (slice_index known) i b)
    (product-inverse_right between (xor-pos b a apart) (xor_lt 8 b a byte (known_bytes held total known small places i within)))
    ∙ ap (product (product (weight held a) there))
    (sym (inverse-product (weight held b) own (weight-pos held b few byte) (weight-lt held b)
    (own_distance-pos held total known i small places within) (distances-lt held (slice_index known) i a)))
  where
    a : ℕ
    a = slice_index known i

    own : ℕ
    own = distances held (slice_index known) i a

    there : ℕ
    there = distances held (slice_index known) i b

    between : ℕ
    between = bit_xor b a

    apart : b ≢ a
    apart same = unknown (subst (λ (p : ℕ). Contains known p) (sym same) (Contains-get_or known i 0 (omega (arith, places.count))))

-- u·(((w·c)·v)·d) is ((w·d)·(u·v))·c
regroup : (u w c v d : ℕ) → product u (product (product (product w c) v) d) ≡ product (product (product w d) (product u v)) c
regroup u w c v d =
    ap (product u)
    (ap (λ x. product x d) (product_right_comm w c v) ∙ product_right_comm (product w v) c d
    ∙ ap (λ x. product x c) (product_right_comm w v d))
    ∙ sym (product_assoc u (product (product w d) v) c)
    ∙ ap (λ x. product x c) (product_left_comm u (product w d) v)

-- each place of a codeword, by its known places
pub codeword_formula : (held total : ℕ) (known : List ℕ) (c : ℕ → ℕ) (b : ℕ) → held ≤ total → total ≤ 256
    → AreKnownPlaces held total known → IsSystematicCodeword held total (coefficient held) c → b < total
    → c b ≡ field_sum held (λ i. product (words.solving held known i b) (c (slice_index known i)))
unfolding combination weight distances words.solving words.weight words.distances
codeword_formula held total known c b room few places codeword within =
    sym (product-inverse_product (weight held b) (c b) weight_positive (weight-lt held b) (codeword.bytes b within))
    ∙ ap (product (inverse (weight held b)))
    (sym (codeword_polynomial held total c few codeword b within)
    ∙ lagrange held points f (known_bytes held total known few places) (known_distinct held total known places) (combination-polynomial held (λ p. p) c) b)
    ∙ sym (field_sum-product_left held (inverse (weight held b))
    (λ i. product (product (f (points i)) (inverse (distances held points i (points i)))) (distances held points i b)))
    ∙ field_sum_same held
    (λ i. product (inverse (weight held b))
    (product (product (f (points i)) (inverse (distances held points i (points i)))) (distances held points i b)))
    (λ i. product (words.solving held known i b) (c (points i))) term
  where
    points : ℕ → ℕ
    points = slice_index known

    f : ℕ → ℕ
    f = combination held (λ p. p) c

    weight_positive : 0 < weight held b
    weight_positive = weight-pos held b (omega arith) (omega arith)

    term : (i : ℕ) → i < held
        → product (inverse (weight held b))
        (product (product (f (points i)) (inverse (distances held points i (points i)))) (distances held points i b))
        ≡ product (words.solving held known i b) (c (points i))
    term i h =
        let a : ℕ = points i in
        let own : ℕ = distances held points i a in
        let there : ℕ = distances held points i b in
        ap (λ x. product (inverse (weight held b)) (product (product x (inverse own)) there))
        (codeword_polynomial held total c few codeword a (known_below held total known places i h))
        ∙ regroup (inverse (weight held b)) (weight held a) (c a) (inverse own) there
        ∙ ap (λ x. product (product (product (weight held a) there) x) (c a))
        (sym (inverse-product (weight held b) own weight_positive (weight-lt held b)
        (own_distances-pos held points i (known_bytes held total known few places) (known_distinct held total known places) h) (distances-lt held points i a)))
