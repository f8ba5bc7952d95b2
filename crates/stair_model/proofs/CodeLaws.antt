-- A word of a systematic Cauchy code is a polynomial over the weights of the places, as in a Reed-Solomon code; so any
-- known places, as many as are held, determine it.
use Rattle.std.proofs.Common.{◌≡◌, ℕ, ◌+◌, ◌-◌, ◌<◌, ◌≤◌, ◌⊎◌, List, slice_index, inl, inr, refl, sym, ap, subst, ◌∙◌, arith}
use Rattle.std.specs.Prelude.{bit_xor}
use Rattle.std.proofs.lemmas.Bool.{cases_lt}
use Rattle.std.proofs.lemmas.List.Elements.{All-get_or, All-from_get_or}
use Rattle.stair_model.specs.Field.{product, inverse}
use Rattle.stair_model.specs.Sum.{field_sum, field_product, product_except}
use Rattle.stair_model.specs.CauchyCode.{coefficient, AreBytes, AreDistinct, IsSystematicCodeword, AreKnownPlaces, Agree}
use Rattle.stair_model.proofs.FieldLaws.{product-lt, product_comm, product-inverse_product}
use Rattle.stair_model.proofs.SumLaws.{field_sum-lt}
use Rattle.stair_model.proofs.ProductLaws.{product_except_past}
use Rattle.stair_model.proofs.PolynomialLaws.{IsPolynomial}
use Rattle.stair_model.proofs.LagrangeLaws.{distances, distances-lt, distances-pos, combination, combination-polynomial, combination_at, combination_same, combination_apart, through, through_at, lagrange}

-- ---- weights

-- the product of p + c over the held places c other than p
unfoldable pub weight : ℕ → ℕ → ℕ
weight held p = product_except held p (λ c. bit_xor p c)

pub weight-lt : (held p : ℕ) → weight held p < 256
unfolding weight distances
weight-lt held p = distances-lt held (λ c. c) p p

-- a weight isn't 0
pub weight-pos : (held p : ℕ) → held ≤ 256 → p < 256 → 0 < weight held p
unfolding weight distances
weight-pos held p few byte =
    distances-pos held (λ c. c) p p (λ c h. omega arith) byte (λ c h other same. other (sym same))

-- that of a held place
weight_held : (held p : ℕ) → distances held (λ c. c) p p ≡ weight held p
unfolding weight distances
weight_held held p = refl

-- that of a parity's place
weight_parity : (held p : ℕ) → held ≤ p → field_product held (λ c. bit_xor p c) ≡ weight held p
unfolding weight
weight_parity held p past = sym (product_except_past held p (λ c. bit_xor p c) past)

-- ---- codewords and polynomials

-- a parity's place, at a word's polynomial: its weight times what the parity ought to be
parity_value : (held k : ℕ) (w : ℕ → ℕ) → held + k < 256
    → combination held (λ c. c) w (held + k)
    ≡ product (weight held (held + k)) (field_sum held (λ j. product (coefficient held k j) (w j)))
parity_value held k w byte =
    combination_apart held (λ c. c) w (held + k) (λ c h. omega arith) byte (λ c h same. omega arith)
    ∙ ap (λ v. product v (field_sum held (λ j. product (coefficient held k j) (w j)))) (weight_parity held (held + k) (omega arith))

-- a number is below n, or n and something
pub below_or_past : (n p : ℕ) → (p < n) ⊎ ((k : ℕ) × (p ≡ n + k))
below_or_past n p =
    elim (cases_lt p n) [
      | inl below ↦ inl below
      | inr past ↦ inr (p - n, omega arith)
    ]

-- each place of a codeword times its weight is the value there of one polynomial of degree below `held`
pub codeword_polynomial : (held total : ℕ) (w : ℕ → ℕ) → total ≤ 256 → IsSystematicCodeword held total (coefficient held) w
    → (p : ℕ) → p < total → combination held (λ c. c) w p ≡ product (weight held p) (w p)
codeword_polynomial held total w few codeword p within =
    elim (below_or_past held p) [
      | inl below ↦
          combination_at held (λ c. c) w p below ∙ product_comm (w p) (distances held (λ c. c) p p)
          ∙ ap (λ v. product v (w p)) (weight_held held p)
      | inr (k, e) ↦
          ap (combination held (λ c. c) w) e ∙ parity_value held k w (omega arith)
          ∙ ap (product (weight held (held + k))) (sym (codeword.parity k (omega arith)))
          ∙ ap (λ q. product (weight held q) (w q)) (sym e)
    ]

-- the values of a polynomial of degree below `held` over the weights are a codeword
pub polynomial_codeword : (held total : ℕ) (f : ℕ → ℕ) → held ≤ total → total ≤ 256 → IsPolynomial held f
    → IsSystematicCodeword held total (coefficient held) (λ p. product (inverse (weight held p)) (f p))
polynomial_codeword held total f room few polynomial = record {
  bytes = λ p h. product-lt (inverse (weight held p)) (f p);
  parity = λ k h.
      let sum : ℕ = field_sum held (λ j. product (coefficient held k j) (w j)) in
      ap (product (inverse (weight held (held + k))))
      (lagrange held (λ c. c) f (λ c h'. omega arith) (λ i j h' h'' same. same) polynomial (held + k)
      ∙ combination_same held (λ c. c) (λ i. product (f i) (inverse (distances held (λ c. c) i i))) w
      (λ i h'. ap (λ v. product (f i) (inverse v)) (weight_held held i) ∙ product_comm (f i) (inverse (weight held i)))
      (held + k)
      ∙ parity_value held k w (omega arith))
      ∙ product-inverse_product (weight held (held + k)) sum (weight-pos held (held + k) (omega arith) (omega arith))
      (weight-lt held (held + k))
      (field_sum-lt held (λ j. product (coefficient held k j) (w j)) (λ j h'. product-lt (coefficient held k j) (w j)));
}
  where
    w : ℕ → ℕ
    w p = product (inverse (weight held p)) (f p)

-- ---- known places

-- a known place is one of the word's
pub known_below : (held total : ℕ) (known : List ℕ) → AreKnownPlaces held total known → (i : ℕ) → i < held → slice_index known i < total
known_below held total known places i within =
    All-get_or (λ p. p < total) known i 0 (omega (arith, places.count)) places.below

pub known_bytes : (held total : ℕ) (known : List ℕ) → total ≤ 256 → AreKnownPlaces held total known → AreBytes held (slice_index known)
known_bytes held total known few places i within = omega (arith, known_below held total known places i within)

pub known_distinct : (held total : ℕ) (known : List ℕ) → AreKnownPlaces held total known → AreDistinct held (slice_index known)
known_distinct held total known places = subst (λ n. AreDistinct n (slice_index known)) places.count places.distinct

-- some codeword agrees with any word of bytes at known places
pub codeword_exists : (held total : ℕ) (known : List ℕ) (w : ℕ → ℕ) → held ≤ total → total ≤ 256
    → AreKnownPlaces held total known → AreBytes total w
    → (c : ℕ → ℕ) × IsSystematicCodeword held total (coefficient held) c × Agree known c w
codeword_exists held total known w room few places bytes = (
  λ p. product (inverse (weight held p)) (f p),
  polynomial_codeword held total f room few
      (combination-polynomial held points (λ i. product (v i) (inverse (distances held points i (points i))))),
  All-from_get_or (λ p. product (inverse (weight held p)) (f p) ≡ w p) known 0 (λ i h. agrees i (omega (arith, places.count))),
)
  where
    points : ℕ → ℕ
    points = slice_index known

    v : ℕ → ℕ
    v i = product (weight held (points i)) (w (points i))

    f : ℕ → ℕ
    f = through held points v

    agrees : (i : ℕ) → i < held → product (inverse (weight held (points i))) (f (points i)) ≡ w (points i)
    agrees i h =
        let below : points i < total = known_below held total known places i h in
        ap (product (inverse (weight held (points i))))
        (through_at held points v i (known_bytes held total known few places) (known_distinct held total known places) h (product-lt (weight held (points i)) (w (points i))))
        ∙ product-inverse_product (weight held (points i)) (w (points i)) (weight-pos held (points i) (omega arith) (omega arith))
        (weight-lt held (points i)) (bytes (points i) below)

-- codewords that agree at known places agree at each place
pub codeword_determined : (held total : ℕ) (known : List ℕ) (c d : ℕ → ℕ) (b : ℕ) → held ≤ total → total ≤ 256
    → AreKnownPlaces held total known → IsSystematicCodeword held total (coefficient held) c
    → IsSystematicCodeword held total (coefficient held) d → Agree known c d → b < total → c b ≡ d b
codeword_determined held total known c d b room few places first second agree within =
    sym (product-inverse_product (weight held b) (c b) positive (weight-lt held b) (first.bytes b within))
    ∙ ap (product (inverse (weight held b)))
    (sym (codeword_polynomial held total c few first b within)
    ∙ lagrange held points f bytes distinct (combination-polynomial held (λ p. p) c) b
    ∙ combination_same held points (λ i. product (f (points i)) (inverse (distances held points i (points i))))
    (λ i. product (g (points i)) (inverse (distances held points i (points i))))
    (λ i h. ap (λ v. product v (inverse (distances held points i (points i)))) (at_known i h)) b
    ∙ sym (lagrange held points g bytes distinct (combination-polynomial held (λ p. p) d) b)
    ∙ codeword_polynomial held total d few second b within)
    ∙ product-inverse_product (weight held b) (d b) positive (weight-lt held b) (second.bytes b within)
  where
    points : ℕ → ℕ
    points = slice_index known

    -- their polynomials
    f : ℕ → ℕ
    f = combination held (λ p. p) c

    g : ℕ → ℕ
    g = combination held (λ p. p) d

    positive : 0 < weight held b
    positive = weight-pos held b (omega arith) (omega arith)

    bytes : AreBytes held points
    bytes = known_bytes held total known few places

    distinct : AreDistinct held points
    distinct = known_distinct held total known places

    at_known : (i : ℕ) → i < held → f (points i) ≡ g (points i)
    at_known i h =
        let below : points i < total = known_below held total known places i h in
        codeword_polynomial held total c few first (points i) below
        ∙ ap (product (weight held (points i))) (All-get_or (λ p. c p ≡ d p) known i 0 (omega (arith, places.count)) agree)
        ∙ sym (codeword_polynomial held total d few second (points i) below)
