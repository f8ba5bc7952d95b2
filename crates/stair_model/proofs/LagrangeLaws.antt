-- Lagrange's formula, and sums of partial fractions.
use Rattle.std.proofs.Common.{◌≡◌, ◌≢◌, ℕ, ◌<◌, inl, inr, sym, ap, ◌∙◌, arith}
use Rattle.std.specs.Prelude.{bit_xor}
use Rattle.std.specs.Int.Bits.{xor_self}
use Rattle.std.proofs.lemmas.Nat.{xor_lt}
use Rattle.stair_model.specs.Field.{product, inverse}
use Rattle.stair_model.specs.Sum.{field_sum, field_product, product_except}
use Rattle.stair_model.specs.CauchyCode.{AreBytes, AreDistinct, AreCauchyPoints}
use Rattle.stair_model.proofs.FieldLaws.{xor-pos, same_from_xor, product_comm, product_assoc, product-one_right, product-zero_right, product-inverse_left, product-inverse_right, no_zero_divisors}
use Rattle.stair_model.proofs.SumLaws.{field_sum_same, field_sum_one_term, field_sum-product_left}
use Rattle.stair_model.proofs.ProductLaws.{product_except-lt, product_except-pos, product_except_zero, product_except_whole}
use Rattle.stair_model.proofs.PolynomialLaws.{IsPolynomial, polynomial-lt, polynomial_xor, polynomial_multiple, polynomial_sum, polynomial_roots_except, vanishes}

-- ---- distances

-- the product of x + y over n points y, without that of point i
unfoldable pub distances : ℕ → (ℕ → ℕ) → ℕ → ℕ → ℕ
distances n points i x = product_except n i (λ j. bit_xor x (points j))

pub distances-lt : (n : ℕ) (y : ℕ → ℕ) (i x : ℕ) → distances n y i x < 256
unfolding distances
distances-lt n y i x = product_except-lt n i (λ j. bit_xor x (y j))

-- away from the other points they aren't 0
pub distances-pos : (n : ℕ) (y : ℕ → ℕ) (i x : ℕ) → AreBytes n y → x < 256 → ((j : ℕ) → j < n → j ≢ i → x ≢ y j) → 0 < distances n y i x
unfolding distances
distances-pos n y i x bytes byte apart =
    product_except-pos n i (λ j. bit_xor x (y j)) (λ j h other. xor-pos x (y j) (apart j h other))
    (λ j h. xor_lt 8 x (y j) byte (bytes j h))

-- those of a point of its own
pub own_distances-pos : (n : ℕ) (y : ℕ → ℕ) (i : ℕ) → AreBytes n y → AreDistinct n y → i < n → 0 < distances n y i (y i)
own_distances-pos n y i bytes distinct within =
    distances-pos n y i (y i) bytes (bytes i within) (λ j h other same. other (sym (distinct i j within h same)))

-- at another point they are 0
pub distances_zero : (n : ℕ) (y : ℕ → ℕ) (i k : ℕ) → k < n → k ≢ i → distances n y i (y k) ≡ 0
unfolding distances
distances_zero n y i k within apart =
    product_except_zero n i k (λ j. bit_xor (y k) (y j)) within apart (xor_self (y k))

-- ---- sums of distances

-- the sum of u_j times the product of x + y over all points y but y_j
unfoldable pub combination : ℕ → (ℕ → ℕ) → (ℕ → ℕ) → ℕ → ℕ
combination n y u x = field_sum n (λ j. product (u j) (distances n y j x))

pub combination-polynomial : (n : ℕ) (y u : ℕ → ℕ) → IsPolynomial n (combination n y u)
unfolding combination distances
combination-polynomial n y u =
    polynomial_sum n n (λ j x. product (u j) (distances n y j x))
    (λ j h. polynomial_multiple (u j) (polynomial_roots_except n j y h))

-- at one of the points a single term is left
pub combination_at : (n : ℕ) (y u : ℕ → ℕ) (k : ℕ) → k < n → combination n y u (y k) ≡ product (u k) (distances n y k (y k))
unfolding combination
combination_at n y u k within =
    field_sum_one_term n k (λ j. product (u j) (distances n y j (y k))) within
    (λ j h apart. ap (product (u j)) (distances_zero n y j k within (λ e. apart (sym e))) ∙ product-zero_right (u j))

-- the same terms give the same sum
pub combination_same : (n : ℕ) (y u v : ℕ → ℕ) → ((k : ℕ) → k < n → u k ≡ v k) → (x : ℕ) → combination n y u x ≡ combination n y v x
unfolding combination
combination_same n y u v same x =
    field_sum_same n (λ j. product (u j) (distances n y j x)) (λ j. product (v j) (distances n y j x))
    (λ j h. ap (λ c. product c (distances n y j x)) (same j h))

-- away from all points it is the whole product times the sum of partial fractions u_j/(x + y_j)
pub combination_apart : (n : ℕ) (y u : ℕ → ℕ) (x : ℕ) → AreBytes n y → x < 256 → ((j : ℕ) → j < n → x ≢ y j)
    → combination n y u x
    ≡ product (field_product n (λ j. bit_xor x (y j))) (field_sum n (λ j. product (inverse (bit_xor x (y j))) (u j)))
unfolding combination distances
combination_apart n y u x bytes byte apart =
    field_sum_same n (λ j. product (u j) (distances n y j x)) (λ j. product whole (product (inverse (bit_xor x (y j))) (u j))) term
    ∙ field_sum-product_left n whole (λ j. product (inverse (bit_xor x (y j))) (u j))
  where
    whole : ℕ
    whole = field_product n (λ j. bit_xor x (y j))

    term : (j : ℕ) → j < n → product (u j) (distances n y j x) ≡ product whole (product (inverse (bit_xor x (y j))) (u j))
    term j h =
        let d : ℕ = distances n y j x in
        let apart_by : ℕ = bit_xor x (y j) in
        let unit : product whole (inverse apart_by) ≡ d =
        ap (λ v. product v (inverse apart_by)) (product_except_whole n j (λ l. bit_xor x (y l)) h)
        ∙ product_assoc d apart_by (inverse apart_by)
        ∙ ap (product d) (product-inverse_right apart_by (xor-pos x (y j) (apart j h)) (xor_lt 8 x (y j) byte (bytes j h)))
        ∙ product-one_right d (distances-lt n y j x) in
        product_comm (u j) d ∙ ap (λ v. product v (u j)) (sym unit) ∙ product_assoc whole (inverse apart_by) (u j)

-- the polynomial of degree below n with the values v at the n points
abbrev pub through : ℕ → (ℕ → ℕ) → (ℕ → ℕ) → ℕ → ℕ
through n y v = combination n y (λ i. product (v i) (inverse (distances n y i (y i))))

pub through_at : (n : ℕ) (y v : ℕ → ℕ) (k : ℕ) → AreBytes n y → AreDistinct n y → k < n → v k < 256 → through n y v (y k) ≡ v k
through_at n y v k bytes distinct within byte =
    let d : ℕ = distances n y k (y k) in
    combination_at n y (λ i. product (v i) (inverse (distances n y i (y i)))) k within
    ∙ product_assoc (v k) (inverse d) d
    ∙ ap (product (v k)) (product-inverse_left d (own_distances-pos n y k bytes distinct within) (distances-lt n y k (y k)))
    ∙ product-one_right (v k) byte

-- Lagrange's formula: a polynomial of degree below n is the one with its values at n points
pub lagrange : (n : ℕ) (y f : ℕ → ℕ) → AreBytes n y → AreDistinct n y → IsPolynomial n f → (x : ℕ) → f x ≡ through n y (λ i. f (y i)) x
lagrange n y f bytes distinct p x =
    same_from_xor (f x) (formula x)
    (vanishes n (λ z. bit_xor (f z) (formula z)) y
    (polynomial_xor p (combination-polynomial n y (λ i. product (f (y i)) (inverse (distances n y i (y i))))))
    bytes distinct
    (λ k h. ap (bit_xor (f (y k))) (through_at n y (λ i. f (y i)) k bytes distinct h (polynomial-lt p (y k))) ∙ xor_self (f (y k)))
    x)
  where
    formula : ℕ → ℕ
    formula = through n y (λ i. f (y i))

-- ---- square Cauchy matrices

-- a square Cauchy matrix takes only zeros to zeros: the sum of partial fractions over the points of its columns has as many
-- zeros as its numerator's degree is below
pub cauchy_nonsingular : (n : ℕ) (x y v : ℕ → ℕ) → AreCauchyPoints n x y → AreBytes n v
    → ((i : ℕ) → i < n → field_sum n (λ j. product (inverse (bit_xor (x i) (y j))) (v j)) ≡ 0) → (j : ℕ) → j < n → v j ≡ 0
cauchy_nonsingular n x y v points bytes zeros j within =
    let vanishing : (z : ℕ) → combination n y v z ≡ 0 =
    vanishes n (combination n y v) x (combination-polynomial n y v) points.row_bytes points.rows_distinct
    (λ i h. combination_apart n y v (x i) points.column_bytes (points.row_bytes i h) (λ l h'. points.apart i l h h')
    ∙ ap (product (field_product n (λ l. bit_xor (x i) (y l)))) (zeros i h)
    ∙ product-zero_right (field_product n (λ l. bit_xor (x i) (y l)))) in
    elim (no_zero_divisors (v j) (distances n y j (y j)) (bytes j within) (distances-lt n y j (y j))
    (sym (combination_at n y v j within) ∙ vanishing (y j))) [
      | inl none ↦ none
      | inr none ↦
          let some : 0 < distances n y j (y j) = own_distances-pos n y j points.column_bytes points.columns_distinct within in
          absurd (omega arith)
    ]
