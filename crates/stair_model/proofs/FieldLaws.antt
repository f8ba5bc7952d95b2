-- The laws of the field of 256 elements, whose sum is bit_xor. A product reads the low eight bits of its factors alone, so
-- most laws hold for all numbers; only those of one and of the inverse speak of bytes.
use Rattle.std.proofs.Common.{◌≡◌, ◌≢◌, ℕ, zero, suc, ◌+◌, ◌*◌, ◌/◌, ◌%◌, ◌^◌, ◌<◌, Bool, true, false, cond, ◌||◌, ◌⊎◌, inl, inr, refl, sym, ap, ap₂, subst, ◌∙◌, add-zero, add-one, pow-suc, one-mul, mul-zero, mod-lt, mod-eq_of_lt, zero-lt-suc, suc-le-suc, eqb-true, eq-eqb, pos_of_ne-zero, arith}
use Rattle.std.specs.Prelude.{bit_xor, ◌==◌}
use Rattle.std.specs.Int.Bits.{xor_self, xor_assoc, xor_zero_r}
use Rattle.std.proofs.lemmas.Nat.{xor_comm, xor_lt, xor_mod, xor_shr, xor_block, mod-pow-add}
use Rattle.std.proofs.lemmas.Bool.{agree_below_at, or_cases, cases_eq, both_ways}
use Rattle.std.proofs.Math.Nat.{zero-mul, mod-mod}
use Rattle.stair_model.specs.Field.{times_x, shift_and_add, product, least_below, inverse}

-- ---- sums, and products by one bit

-- four terms, with the two in the middle exchanged
pub xor_exchange : (p q r s : ℕ) → bit_xor (bit_xor p q) (bit_xor r s) ≡ bit_xor (bit_xor p r) (bit_xor q s)
xor_exchange p q r s =
    xor_assoc p q (bit_xor r s)
    ∙ ap (bit_xor p) (sym (xor_assoc q r s) ∙ ap (λ x. bit_xor x s) (xor_comm q r) ∙ xor_assoc r q s)
    ∙ sym (xor_assoc p r (bit_xor q s))

-- a term goes over to the other side of an equation
pub xor_move : (a b c : ℕ) → bit_xor a b ≡ c → a ≡ bit_xor c b
xor_move a b c e =
    sym (xor_zero_r a) ∙ ap (bit_xor a) (sym (xor_self b)) ∙ sym (xor_assoc a b b) ∙ ap (λ x. bit_xor x b) e

-- a sum of two that is 0 has equal terms
pub same_from_xor : (a b : ℕ) → bit_xor a b ≡ 0 → a ≡ b
same_from_xor a b none = xor_move a b 0 none

-- the sum of two that differ isn't 0
pub xor-pos : (a b : ℕ) → a ≢ b → 0 < bit_xor a b
xor-pos a b differ = pos_of_ne-zero (λ none. differ (same_from_xor a b none))

-- what holds of 0 and of 1 holds of each bit
bit_cases : (P : ℕ → Type 0) → P 0 → P 1 → (p : ℕ) → p < 2 → P p
bit_cases P at_zero at_one zero h = at_zero
bit_cases P at_zero at_one (suc zero) h = at_one
bit_cases P at_zero at_one (suc (suc p)) h = absurd (omega arith)

-- a map that keeps 0 takes out one bit as a factor
bit_through : (f : ℕ → ℕ) → f 0 ≡ 0 → (a p : ℕ) → p < 2 → f (p * a) ≡ p * f a
bit_through f keeps_zero a =
    bit_cases (λ p. f (p * a) ≡ p * f a)
    (ap f (zero-mul a) ∙ keeps_zero ∙ sym (zero-mul (f a)))
    (ap f (one-mul a) ∙ sym (one-mul (f a)))

bit_mul-xor : (a b p : ℕ) → p < 2 → p * bit_xor a b ≡ bit_xor (p * a) (p * b)
bit_mul-xor a b =
    bit_cases (λ p. p * bit_xor a b ≡ bit_xor (p * a) (p * b))
    (zero-mul (bit_xor a b) ∙ sym (ap₂ bit_xor (zero-mul a) (zero-mul b)))
    (one-mul (bit_xor a b) ∙ sym (ap₂ bit_xor (one-mul a) (one-mul b)))

bit_xor-mul : (a p q : ℕ) → p < 2 → q < 2 → bit_xor p q * a ≡ bit_xor (p * a) (q * a)
bit_xor-mul a p q hp hq =
    bit_cases (λ r. bit_xor r q * a ≡ bit_xor (r * a) (q * a))
    (sym (ap (λ x. bit_xor x (q * a)) (zero-mul a)))
    (bit_cases (λ r. bit_xor 1 r * a ≡ bit_xor (1 * a) (r * a))
    (sym (ap (bit_xor (1 * a)) (zero-mul a) ∙ xor_zero_r (1 * a)))
    (zero-mul a ∙ sym (xor_self (1 * a))) q hq)
    p hp

bit_mul-lt : (a p : ℕ) → a < 256 → p < 2 → p * a < 256
bit_mul-lt a p byte = bit_cases (λ r. r * a < 256) (omega (arith, zero-mul a)) (omega (arith, one-mul a)) p

-- ---- x times an element

double-xor : (a b : ℕ) → bit_xor a b * 2 ≡ bit_xor (a * 2) (b * 2)
double-xor a b =
    sym (add-zero (bit_xor a b * 2)) ∙ sym (xor_block 1 a b 0 0 (zero-lt-suc 1) (zero-lt-suc 1))
    ∙ ap₂ bit_xor (add-zero (a * 2)) (add-zero (b * 2))

-- x·(a + b) is x·a + x·b
pub times_x-xor : (a b : ℕ) → times_x (bit_xor a b) ≡ bit_xor (times_x a) (times_x b)
unfolding times_x
times_x-xor a b =
    ap₂ bit_xor
    (ap (λ x. x * 2) (xor_mod a b 7) ∙ double-xor (a % 128) (b % 128))
    (ap (λ x. x % 2 * 0x1D) (xor_shr a b 7) ∙ ap (λ x. x * 0x1D) (xor_mod (a / 128) (b / 128) 1)
    ∙ bit_xor-mul 0x1D (a / 128 % 2) (b / 128 % 2) (omega arith) (omega arith))
    ∙ xor_exchange (a % 128 * 2) (b % 128 * 2) (a / 128 % 2 * 0x1D) (b / 128 % 2 * 0x1D)

-- x·a is a byte
pub times_x-lt : (a : ℕ) → times_x a < 256
unfolding times_x
times_x-lt a = xor_lt 8 (a % 128 * 2) (a / 128 % 2 * 0x1D) (omega arith) (omega arith)

times_x-zero : times_x 0 ≡ 0
unfolding times_x
times_x-zero = refl

times_x-mod : (a : ℕ) → times_x (a % 256) ≡ times_x a
unfolding times_x
times_x-mod a =
    let low : a % 256 % 128 ≡ a % 128 = omega arith in
    let high : a % 256 / 128 % 2 ≡ a / 128 % 2 = omega arith in
    ap₂ (λ x y. bit_xor (x * 2) (y * 0x1D)) low high

-- ---- the steps of a product

shift_and_add-xor_left : (k a b c : ℕ) → shift_and_add k (bit_xor a b) c ≡ bit_xor (shift_and_add k a c) (shift_and_add k b c)
unfolding shift_and_add
shift_and_add-xor_left zero a b c = refl
shift_and_add-xor_left (suc k) a b c =
    ap₂ bit_xor (bit_mul-xor a b (c % 2) (omega arith))
    (ap (λ x. shift_and_add k x (c / 2)) (times_x-xor a b) ∙ shift_and_add-xor_left k (times_x a) (times_x b) (c / 2))
    ∙ xor_exchange (c % 2 * a) (c % 2 * b) (shift_and_add k (times_x a) (c / 2)) (shift_and_add k (times_x b) (c / 2))

shift_and_add-xor_right : (k a b c : ℕ) → shift_and_add k a (bit_xor b c) ≡ bit_xor (shift_and_add k a b) (shift_and_add k a c)
unfolding shift_and_add
shift_and_add-xor_right zero a b c = refl
shift_and_add-xor_right (suc k) a b c =
    ap₂ bit_xor (ap (λ x. x * a) (xor_mod b c 1) ∙ bit_xor-mul a (b % 2) (c % 2) (omega arith) (omega arith))
    (ap (shift_and_add k (times_x a)) (xor_shr b c 1) ∙ shift_and_add-xor_right k (times_x a) (b / 2) (c / 2))
    ∙ xor_exchange (b % 2 * a) (c % 2 * a) (shift_and_add k (times_x a) (b / 2)) (shift_and_add k (times_x a) (c / 2))

shift_and_add-zero_left : (k b : ℕ) → shift_and_add k 0 b ≡ 0
unfolding shift_and_add
shift_and_add-zero_left zero b = refl
shift_and_add-zero_left (suc k) b =
    ap₂ bit_xor (mul-zero (b % 2)) (ap (λ x. shift_and_add k x (b / 2)) times_x-zero ∙ shift_and_add-zero_left k (b / 2))

shift_and_add-zero_right : (k a : ℕ) → shift_and_add k a 0 ≡ 0
unfolding shift_and_add
shift_and_add-zero_right zero a = refl
shift_and_add-zero_right (suc k) a = ap₂ bit_xor (zero-mul a) (shift_and_add-zero_right k (times_x a))

shift_and_add-lt : (k a b : ℕ) → a < 256 → shift_and_add k a b < 256
unfolding shift_and_add
shift_and_add-lt zero a b byte = zero-lt-suc 255
shift_and_add-lt (suc k) a b byte =
    xor_lt 8 (b % 2 * a) (shift_and_add k (times_x a) (b / 2)) (bit_mul-lt a (b % 2) byte (omega arith))
    (shift_and_add-lt k (times_x a) (b / 2) (times_x-lt a))

-- k steps read the low k bits of the second factor
shift_and_add-low_bits : (k a b c : ℕ) → b % 2 ^ k ≡ c % 2 ^ k → shift_and_add k a b ≡ shift_and_add k a c
unfolding shift_and_add
shift_and_add-low_bits zero a b c same = refl
shift_and_add-low_bits (suc k) a b c same =
    let parts : (b / 2 % 2 ^ k) * 2 + b % 2 ≡ (c / 2 % 2 ^ k) * 2 + c % 2 =
    sym (mod-pow-add b k 1) ∙ ap (λ x. b % 2 ^ x) (add-one k) ∙ same ∙ ap (λ x. c % 2 ^ x) (sym (add-one k)) ∙ mod-pow-add c k 1 in
    ap₂ bit_xor (ap (λ x. x * a) (omega (arith, parts)))
    (shift_and_add-low_bits k (times_x a) (b / 2) (c / 2) (omega (arith, parts)))

-- a linear map that keeps times_x passes through the steps to the first factor
shift_and_add-through : (f : ℕ → ℕ) → f 0 ≡ 0 → ((a b : ℕ) → f (bit_xor a b) ≡ bit_xor (f a) (f b))
    → ((a : ℕ) → f (times_x a) ≡ times_x (f a)) → (k a b : ℕ) → f (shift_and_add k a b) ≡ shift_and_add k (f a) b
unfolding shift_and_add
shift_and_add-through f keeps_zero keeps_xor keeps_times_x zero a b = keeps_zero
shift_and_add-through f keeps_zero keeps_xor keeps_times_x (suc k) a b =
    keeps_xor (b % 2 * a) (shift_and_add k (times_x a) (b / 2))
    ∙ ap₂ bit_xor (bit_through f keeps_zero a (b % 2) (omega arith))
    (shift_and_add-through f keeps_zero keeps_xor keeps_times_x k (times_x a) (b / 2)
    ∙ ap (λ x. shift_and_add k x (b / 2)) (keeps_times_x a))

-- ---- the product

-- a product is a byte
pub product-lt : (a b : ℕ) → product a b < 256
unfolding product
product-lt a b = shift_and_add-lt 8 (a % 256) b (mod-lt a (zero-lt-suc 255))

-- a product distributes over a sum on its left
pub product-xor_left : (a b c : ℕ) → product (bit_xor a b) c ≡ bit_xor (product a c) (product b c)
unfolding product
product-xor_left a b c =
    ap (λ x. shift_and_add 8 x c) (xor_mod a b 8) ∙ shift_and_add-xor_left 8 (a % 256) (b % 256) c

-- a product distributes over a sum on its right
pub product-xor_right : (a b c : ℕ) → product a (bit_xor b c) ≡ bit_xor (product a b) (product a c)
unfolding product
product-xor_right a b c = shift_and_add-xor_right 8 (a % 256) b c

-- 0·a is 0
pub product-zero_left : (a : ℕ) → product 0 a ≡ 0
unfolding product
product-zero_left a = shift_and_add-zero_left 8 a

-- a·0 is 0
pub product-zero_right : (a : ℕ) → product a 0 ≡ 0
unfolding product
product-zero_right a = shift_and_add-zero_right 8 (a % 256)

-- of the left factor the low eight bits count
pub product-mod_left : (a b : ℕ) → product (a % 256) b ≡ product a b
unfolding product
product-mod_left a b = ap (λ x. shift_and_add 8 x b) (mod-mod a 256)

-- of the right factor the low eight bits count
pub product-mod_right : (a b : ℕ) → product a (b % 256) ≡ product a b
unfolding product
product-mod_right a b = shift_and_add-low_bits 8 (a % 256) (b % 256) b (mod-mod b 256)

-- x times a left factor is x times the product
pub product-times_x_left : (a b : ℕ) → product (times_x a) b ≡ times_x (product a b)
unfolding product
product-times_x_left a b =
    ap (λ x. shift_and_add 8 x b) (mod-eq_of_lt (times_x-lt a) ∙ sym (times_x-mod a))
    ∙ sym (shift_and_add-through times_x times_x-zero times_x-xor (λ c. refl) 8 (a % 256) b)

-- a step more reads nothing where the second factor has no bit left
shift_and_add-suc : (k a b : ℕ) → b < 2 ^ k → shift_and_add (suc k) a b ≡ shift_and_add k a b
unfolding shift_and_add
shift_and_add-suc zero a b h =
    let none : b ≡ 0 = omega arith in
    ap (λ x. bit_xor (x % 2 * a) 0) none ∙ ap (λ x. bit_xor x 0) (zero-mul a)
shift_and_add-suc (suc k) a b h =
    let within : b < 2 ^ k * 2 = subst (λ x. b < x) (pow-suc 2 k) h in
    ap (bit_xor (b % 2 * a)) (shift_and_add-suc k (times_x a) (b / 2) (omega arith))

-- one of the eight steps: a where b has its lowest bit, and x·a by the bits above
pub product_step : (a b : ℕ) → a < 256 → b < 256 → product a b ≡ bit_xor (b % 2 * a) (product (times_x a) (b / 2))
unfolding product
product_step a b a_byte b_byte =
    ap (λ x. shift_and_add 8 x b) (mod-eq_of_lt a_byte)
    ∙ unfold shift_and_add in ap (bit_xor (b % 2 * a))
    (sym (shift_and_add-suc 7 (times_x a) (b / 2) (omega arith))
    ∙ ap (λ x. shift_and_add 8 x (b / 2)) (sym (mod-eq_of_lt (times_x-lt a))))

-- 1·a is a
pub product-one_left : (a : ℕ) → a < 256 → product 1 a ≡ a
unfolding product shift_and_add times_x
product-one_left a byte =
    eqb-true (product 1 a) a (agree_below_at (λ k. product 1 k == k) (λ k. true) 256 a refl byte)

-- 1·a is the low eight bits of a
product-one_mod : (a : ℕ) → product 1 a ≡ a % 256
product-one_mod a = sym (product-mod_right 1 a) ∙ product-one_left (a % 256) (mod-lt a (zero-lt-suc 255))

-- the factors on the right change places
pub product_right_comm : (a b c : ℕ) → product (product a b) c ≡ product (product a c) b
unfolding product
product_right_comm a b c =
    shift_and_add-through (λ u. product u c) (product-zero_left c) (λ u v. product-xor_left u v c)
    (λ u. product-times_x_left u c) 8 (a % 256) b
    ∙ ap (λ x. shift_and_add 8 x b) (product-mod_left a c ∙ sym (mod-eq_of_lt (product-lt a c)))

-- a·b is b·a
pub product_comm : (a b : ℕ) → product a b ≡ product b a
product_comm a b =
    sym (product-mod_left a b) ∙ ap (λ x. product x b) (sym (product-one_mod a)) ∙ product_right_comm 1 a b
    ∙ ap (λ x. product x a) (product-one_mod b) ∙ product-mod_left b a

-- (a·b)·c is a·(b·c)
pub product_assoc : (a b c : ℕ) → product (product a b) c ≡ product a (product b c)
product_assoc a b c =
    ap (λ x. product x c) (product_comm a b) ∙ product_right_comm b a c ∙ product_comm (product b c) a

-- a·(b·c) is b·(a·c)
pub product_left_comm : (a b c : ℕ) → product a (product b c) ≡ product b (product a c)
product_left_comm a b c =
    sym (product_assoc a b c) ∙ ap (λ x. product x c) (product_comm a b) ∙ product_assoc b a c

-- a·1 is a
pub product-one_right : (a : ℕ) → a < 256 → product a 1 ≡ a
product-one_right a byte = product_comm a 1 ∙ product-one_left a byte

-- x·a is 2·a where nothing is carried out of the byte
pub product-two_left : (a : ℕ) → a < 128 → product 2 a ≡ 2 * a
unfolding product shift_and_add times_x
product-two_left a h =
    eqb-true (product 2 a) (2 * a) (agree_below_at (λ k. product 2 k == 2 * k) (λ k. true) 128 a refl h)

-- ---- inverses

-- a^(2^(k+1) - 1), by k steps of square and multiply
unfoldable pub ones_power : ℕ → ℕ → ℕ
ones_power zero a = a
ones_power (suc k) a = product (product (ones_power k a) (ones_power k a)) a

-- a^254
unfoldable pub power_254 : ℕ → ℕ
power_254 a = product (ones_power 6 a) (ones_power 6 a)

-- a^255 is 1: the 255 elements other than 0 are a group
pub product-power_254 : (a : ℕ) → 0 < a → a < 256 → product a (power_254 a) ≡ 1
unfolding power_254 ones_power product shift_and_add times_x
product-power_254 a positive byte =
    elim (or_cases (a == 0) (product a (power_254 a) == 1)
    (agree_below_at (λ k. (k == 0) || (product k (power_254 k) == 1)) (λ k. true) 256 a refl byte)) [
      | inl none ↦ absurd (omega (arith, eqb-true a 0 none))
      | inr one ↦ eqb-true (product a (power_254 a)) 1 one
    ]

power_254-lt : (a : ℕ) → power_254 a < 256
unfolding power_254
power_254-lt a = product-lt (ones_power 6 a) (ones_power 6 a)

-- where a number below n passes the test, least_below n is below n and passes it
least_below_passes : (n : ℕ) (test : ℕ → Bool) (k : ℕ) → k < n → test k ≡ true
    → (least_below n test < n) × (test (least_below n test) ≡ true)
unfolding least_below
least_below_passes zero test k within passes = absurd (omega arith)
least_below_passes (suc n) test k within passes =
    at_zero (test 0) refl (λ j h e. least_below_passes n (λ i. test (suc i)) j h e) k within passes
  where
    later : ℕ
    later = least_below n (λ j. test (suc j))

    at_zero : (b : Bool) → test 0 ≡ b
        → ((j : ℕ) → j < n → test (suc j) ≡ true → (later < n) × (test (suc later) ≡ true))
        → (k : ℕ) → k < suc n → test k ≡ true → (cond b 0 (suc later) < suc n) × (test (cond b 0 (suc later)) ≡ true)
    at_zero true e among_others k within passes = (zero-lt-suc n, e)
    at_zero false e among_others zero within passes = absurd (both_ways (test 0) e passes)
    at_zero false e among_others (suc k) within passes =
        let others = among_others k (omega arith) passes in
        (suc-le-suc others.0, others.1)

inverse_passes : (a : ℕ) → 0 < a → a < 256 → (inverse a < 256) × ((product a (inverse a) == 1) ≡ true)
unfolding inverse
inverse_passes a positive byte =
    least_below_passes 256 (λ b. product a b == 1) (power_254 a) (power_254-lt a)
    (eq-eqb (product a (power_254 a)) 1 (product-power_254 a positive byte))

-- an inverse is a byte
pub inverse-lt : (a : ℕ) → 0 < a → a < 256 → inverse a < 256
inverse-lt a positive byte = (inverse_passes a positive byte).0

-- a·(1/a) is 1
pub product-inverse_right : (a : ℕ) → 0 < a → a < 256 → product a (inverse a) ≡ 1
product-inverse_right a positive byte = eqb-true (product a (inverse a)) 1 ((inverse_passes a positive byte).1)

-- (1/a)·a is 1
pub product-inverse_left : (a : ℕ) → 0 < a → a < 256 → product (inverse a) a ≡ 1
product-inverse_left a positive byte = product_comm (inverse a) a ∙ product-inverse_right a positive byte

-- an inverse isn't 0
pub inverse-pos : (a : ℕ) → 0 < a → a < 256 → 0 < inverse a
inverse-pos a positive byte =
    pos_of_ne-zero (λ none.
    let same : 0 ≡ 1 = sym (product-zero_right a) ∙ ap (product a) (sym none) ∙ product-inverse_right a positive byte in cc)

-- (1/a)·(a·b) is b
pub product-inverse_product : (a b : ℕ) → 0 < a → a < 256 → b < 256 → product (inverse a) (product a b) ≡ b
product-inverse_product a b positive a_byte b_byte =
    sym (product_assoc (inverse a) a b) ∙ ap (λ x. product x b) (product-inverse_left a positive a_byte)
    ∙ product-one_left b b_byte

-- from a·b = a·c follows b = c, where a isn't 0
pub product_cancel : (a b c : ℕ) → 0 < a → a < 256 → b < 256 → c < 256 → product a b ≡ product a c → b ≡ c
product_cancel a b c positive a_byte b_byte c_byte same =
    sym (product-inverse_product a b positive a_byte b_byte) ∙ ap (product (inverse a)) same
    ∙ product-inverse_product a c positive a_byte c_byte

-- a byte whose product with a is 1 is the inverse
pub inverse_only : (a b : ℕ) → 0 < a → a < 256 → b < 256 → product a b ≡ 1 → b ≡ inverse a
inverse_only a b positive a_byte b_byte one =
    product_cancel a b (inverse a) positive a_byte b_byte (inverse-lt a positive a_byte)
    (one ∙ sym (product-inverse_right a positive a_byte))

-- a product that is 0 has a factor that is 0
pub no_zero_divisors : (a b : ℕ) → a < 256 → b < 256 → product a b ≡ 0 → (a ≡ 0) ⊎ (b ≡ 0)
no_zero_divisors a b a_byte b_byte none =
    elim (cases_eq a 0) [
      | inl zero_left ↦ inl zero_left
      | inr some ↦ inr (product_cancel a b 0 (omega arith) a_byte b_byte (zero-lt-suc 255) (none ∙ sym (product-zero_right a)))
    ]

-- a product of bytes other than 0 isn't 0
pub product-pos : (a b : ℕ) → 0 < a → a < 256 → 0 < b → b < 256 → 0 < product a b
product-pos a b a_positive a_byte b_positive b_byte =
    pos_of_ne-zero (λ none. elim (no_zero_divisors a b a_byte b_byte none) [ inl e ↦ omega arith | inr e ↦ omega arith ])

-- the inverse of the inverse
pub inverse-inverse : (a : ℕ) → 0 < a → a < 256 → inverse (inverse a) ≡ a
inverse-inverse a positive byte =
    sym (inverse_only (inverse a) a (inverse-pos a positive byte) (inverse-lt a positive byte) byte (product-inverse_left a positive byte))

-- the inverse of a product
pub inverse-product : (a b : ℕ) → 0 < a → a < 256 → 0 < b → b < 256 → inverse (product a b) ≡ product (inverse a) (inverse b)
inverse-product a b a_positive a_byte b_positive b_byte =
    sym (inverse_only (product a b) (product (inverse a) (inverse b))
    (product-pos a b a_positive a_byte b_positive b_byte) (product-lt a b) (product-lt (inverse a) (inverse b))
    (product_left_comm (product a b) (inverse a) (inverse b)
    ∙ ap (product (inverse a)) (product_assoc a b (inverse b) ∙ ap (product a) (product-inverse_right b b_positive b_byte))
    ∙ product-inverse_product a 1 a_positive a_byte (omega arith)))
