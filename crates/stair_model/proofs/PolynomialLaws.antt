-- Polynomials over the field, by Horner's rule.
use Rattle.std.proofs.Common.{◌≡◌, ℕ, zero, suc, ◌<◌, inl, inr, refl, sym, ap, ap₂, subst, ◌∙◌, zero-lt-suc, arith}
use Rattle.std.specs.Prelude.{bit_xor}
use Rattle.std.specs.Int.Bits.{xor_self, xor_assoc, xor_zero_r}
use Rattle.std.proofs.lemmas.Nat.{xor_comm, xor_lt}
use Rattle.std.proofs.lemmas.Bool.{cases_eq}
use Rattle.stair_model.specs.Field.{product}
use Rattle.stair_model.specs.Sum.{field_sum, field_product, product_except}
use Rattle.stair_model.specs.CauchyCode.{AreBytes, AreDistinct}
use Rattle.stair_model.proofs.FieldLaws.{xor_exchange, same_from_xor, product-lt, product_comm, product_assoc, product_left_comm, product-xor_left, product-xor_right, product-zero_left, product-zero_right, no_zero_divisors}
use Rattle.stair_model.proofs.SumLaws.{field_sum_none, field_sum_more}
use Rattle.stair_model.proofs.ProductLaws.{field_product_none, field_product_more, product_except_last, product_except_more}

-- f is a polynomial of degree below n whose coefficients are bytes: for n = 0 it is 0, and else c + x·g(x), where g is one of
-- degree below n - 1
pub data IsPolynomial : ℕ → (ℕ → ℕ) → Type 0 where
  no_terms : {f : ℕ → ℕ} → ((x : ℕ) → f x ≡ 0) → IsPolynomial zero f
  horner : {n : ℕ} {f : ℕ → ℕ} (c : ℕ) (g : ℕ → ℕ) → c < 256 → IsPolynomial n g
      → ((x : ℕ) → f x ≡ bit_xor c (product x (g x))) → IsPolynomial (suc n) f

-- its values are bytes
pub polynomial-lt : {n : ℕ} {f : ℕ → ℕ} → IsPolynomial n f → (x : ℕ) → f x < 256
polynomial-lt (no_terms e) x = omega (arith, e x)
polynomial-lt (horner c g byte p e) x =
    subst (λ v. v < 256) (sym (e x)) (xor_lt 8 c (product x (g x)) byte (product-lt x (g x)))

-- another function with the same values
pub polynomial_same : {n : ℕ} {f g : ℕ → ℕ} → IsPolynomial n f → ((x : ℕ) → g x ≡ f x) → IsPolynomial n g
polynomial_same (no_terms e) same = no_terms (λ x. same x ∙ e x)
polynomial_same (horner c g byte p e) same = horner c g byte p (λ x. same x ∙ e x)

-- 0
pub polynomial_zero : (n : ℕ) → IsPolynomial n (λ x. 0)
polynomial_zero zero = no_terms (λ x. refl)
polynomial_zero (suc n) =
    horner 0 (λ x. 0) (zero-lt-suc 255) (polynomial_zero n) (λ x. sym (ap (bit_xor 0) (product-zero_right x)))

-- a constant
pub polynomial_constant : (n c : ℕ) → c < 256 → IsPolynomial (suc n) (λ x. c)
polynomial_constant n c byte =
    horner c (λ x. 0) byte (polynomial_zero n) (λ x. sym (ap (bit_xor c) (product-zero_right x) ∙ xor_zero_r c))

-- a sum
pub polynomial_xor : {n : ℕ} {f g : ℕ → ℕ} → IsPolynomial n f → IsPolynomial n g → IsPolynomial n (λ x. bit_xor (f x) (g x))
polynomial_xor (no_terms e) (no_terms e') = no_terms (λ x. ap₂ bit_xor (e x) (e' x))
polynomial_xor (horner c g byte p e) (horner c' g' byte' p' e') =
    horner (bit_xor c c') (λ x. bit_xor (g x) (g' x)) (xor_lt 8 c c' byte byte') (polynomial_xor p p')
    (λ x. ap₂ bit_xor (e x) (e' x) ∙ xor_exchange c (product x (g x)) c' (product x (g' x))
    ∙ ap (bit_xor (bit_xor c c')) (sym (product-xor_right x (g x) (g' x))))

-- a multiple
pub polynomial_multiple : {n : ℕ} {f : ℕ → ℕ} (a : ℕ) → IsPolynomial n f → IsPolynomial n (λ x. product a (f x))
polynomial_multiple a (no_terms e) = no_terms (λ x. ap (product a) (e x) ∙ product-zero_right a)
polynomial_multiple a (horner c g byte p e) =
    horner (product a c) (λ x. product a (g x)) (product-lt a c) (polynomial_multiple a p)
    (λ x. ap (product a) (e x) ∙ product-xor_right a c (product x (g x))
    ∙ ap (bit_xor (product a c)) (product_left_comm a x (g x)))

-- a sum of several
pub polynomial_sum : (n m : ℕ) (f : ℕ → ℕ → ℕ) → ((k : ℕ) → k < m → IsPolynomial n (f k)) → IsPolynomial n (λ x. field_sum m (λ k. f k x))
polynomial_sum n zero f each = polynomial_same (polynomial_zero n) (λ x. field_sum_none (λ k. f k x))
polynomial_sum n (suc m) f each =
    polynomial_same (polynomial_xor (polynomial_sum n m f (λ k h. each k (omega arith))) (each m (omega arith)))
    (λ x. field_sum_more m (λ k. f k x))

-- (p + x·h)·(x + a) is p·a + x·(p + h·(x + a))
times_linear : (p h x a : ℕ) → product (bit_xor p (product x h)) (bit_xor x a)
    ≡ bit_xor (product p a) (product x (bit_xor p (product h (bit_xor x a))))
times_linear p h x a =
    product-xor_left p (product x h) (bit_xor x a)
    ∙ ap₂ bit_xor
    (product-xor_right p x a ∙ xor_comm (product p x) (product p a) ∙ ap (bit_xor (product p a)) (product_comm p x))
    (product_assoc x h (bit_xor x a))
    ∙ xor_assoc (product p a) (product x p) (product x (product h (bit_xor x a)))
    ∙ ap (bit_xor (product p a)) (sym (product-xor_right x p (product h (bit_xor x a))))

-- a product with x + a
pub polynomial_linear : {n : ℕ} {f : ℕ → ℕ} (a : ℕ) → IsPolynomial n f → IsPolynomial (suc n) (λ x. product (f x) (bit_xor x a))
polynomial_linear a (no_terms e) =
    polynomial_same (polynomial_zero 1) (λ x. ap (λ y. product y (bit_xor x a)) (e x) ∙ product-zero_left (bit_xor x a))
polynomial_linear {n = suc n} a (horner c g byte p e) =
    horner (product c a) (λ x. bit_xor c (product (g x) (bit_xor x a))) (product-lt c a)
    (polynomial_xor (polynomial_constant n c byte) (polynomial_linear a p))
    (λ x. ap (λ y. product y (bit_xor x a)) (e x) ∙ times_linear c (g x) x a)

-- the product of x + y over n points y
pub polynomial_roots : (n : ℕ) (y : ℕ → ℕ) → IsPolynomial (suc n) (λ x. field_product n (λ j. bit_xor x (y j)))
polynomial_roots zero y =
    polynomial_same (polynomial_constant 0 1 (omega arith)) (λ x. field_product_none (λ j. bit_xor x (y j)))
polynomial_roots (suc n) y =
    polynomial_same (polynomial_linear (y n) (polynomial_roots n y)) (λ x. field_product_more n (λ j. bit_xor x (y j)))

-- the same with one of the points left out
pub polynomial_roots_except : (n i : ℕ) (y : ℕ → ℕ) → i < n → IsPolynomial n (λ x. product_except n i (λ j. bit_xor x (y j)))
polynomial_roots_except zero i y within = absurd (omega arith)
polynomial_roots_except (suc n) i y within =
    elim (cases_eq n i) [
      | inl last ↦ polynomial_same (polynomial_roots n y) (λ x. product_except_last n i (λ j. bit_xor x (y j)) last)
      | inr apart ↦
          polynomial_same (polynomial_linear (y n) (polynomial_roots_except n i y (omega arith)))
          (λ x. product_except_more n i (λ j. bit_xor x (y j)) apart)
    ]

-- ---- zeros

-- a term twice drops out
xor_drop : (c q r : ℕ) → bit_xor (bit_xor c q) (bit_xor q r) ≡ bit_xor c r
xor_drop c q r =
    xor_assoc c q (bit_xor q r) ∙ ap (bit_xor c) (sym (xor_assoc q q r) ∙ ap (λ x. bit_xor x r) (xor_self q))

-- f(x) is f(a) + h(x)·(x + a), for a polynomial h of lower degree
pub division : (n : ℕ) (f : ℕ → ℕ) (a : ℕ) → IsPolynomial (suc n) f
    → (h : ℕ → ℕ) × IsPolynomial n h × ((x : ℕ) → f x ≡ bit_xor (f a) (product (h x) (bit_xor x a)))
division zero f a (horner c g byte (no_terms none) e) = (
  λ x. 0,
  no_terms (λ x. refl),
  λ x.
      constant x ∙ sym (ap₂ bit_xor (constant a) (product-zero_left (bit_xor x a)) ∙ xor_zero_r c),
)
  where
    constant : (x : ℕ) → f x ≡ c
    constant x = e x ∙ ap (bit_xor c) (ap (product x) (none x) ∙ product-zero_right x) ∙ xor_zero_r c
division (suc n) f a (horner c g byte p e) =
    let (h, below, divides) = division n g a p in (
      λ x. bit_xor (g a) (product x (h x)),
      horner (g a) h (polynomial-lt p a) below (λ x. refl),
      λ x. e x ∙ ap (λ y. bit_xor c (product x y)) (divides x)
          ∙ sym (ap₂ bit_xor (e a ∙ ap (bit_xor c) (product_comm a (g a))) (times_linear (g a) (h x) x a)
          ∙ xor_drop c (product (g a) a) (product x (bit_xor (g a) (product (h x) (bit_xor x a))))),
    )

-- a polynomial with as many zeros as its degree is below is 0
pub vanishes : (n : ℕ) (f z : ℕ → ℕ) → IsPolynomial n f → AreBytes n z → AreDistinct n z
    → ((i : ℕ) → i < n → f (z i) ≡ 0) → (x : ℕ) → f x ≡ 0
vanishes zero f z (no_terms e) bytes distinct zeros x = e x
vanishes (suc n) f z p bytes distinct zeros x =
    let (h, below, divides) = division n f (z n) p in
    let factor : (y : ℕ) → f y ≡ product (h y) (bit_xor y (z n)) =
    λ y. divides y ∙ ap (λ v. bit_xor v (product (h y) (bit_xor y (z n)))) (zeros n (omega arith)) in
    let rest : (i : ℕ) → i < n → h (z i) ≡ 0 =
    λ i within. elim (no_zero_divisors (h (z i)) (bit_xor (z i) (z n)) (polynomial-lt below (z i))
    (xor_lt 8 (z i) (z n) (bytes i (omega arith)) (bytes n (omega arith)))
    (sym (factor (z i)) ∙ zeros i (omega arith))) [
      | inl none ↦ none
      | inr same ↦
          let last : i ≡ n = distinct i n (omega arith) (omega arith) (same_from_xor (z i) (z n) same) in
          absurd (omega arith)
    ] in
    factor x
    ∙ ap (λ v. product v (bit_xor x (z n)))
    (vanishes n h z below (λ i w. bytes i (omega arith)) (λ i j w w'. distinct i j (omega arith) (omega arith)) rest x)
    ∙ product-zero_left (bit_xor x (z n))
