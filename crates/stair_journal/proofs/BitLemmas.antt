-- Eight bits of a byte, the highest first.
use Rattle.std.proofs.Common.{◌≡◌, ℕ, ◌+◌, ◌-◌, ◌*◌, ◌/◌, ◌^◌, ◌<◌, ◌≤◌, Bool, true, false, cond, refl, sym, ap, subst, ◌∙◌, arith, below_none, below_more}
use Rattle.std.specs.Prelude.{◌↔◌, IsTrue}
use Rattle.std.specs.Int.{bit_at}
use Rattle.std.proofs.lemmas.Bool.{false≢true}
use Rattle.stair_model.specs.Sum.{sum_below}

-- the byte with these bits
abbrev pub byte_of : (ℕ → Bool) → ℕ
byte_of test = sum_below 8 (λ p. cond (test p) (2 ^ (7 - p)) 0)

-- a bit as a number
bit : Bool → ℕ
bit true = 1
bit false = 0

bit_small : (b : Bool) → bit b ≤ 1
unfolding bit
bit_small true = omega arith
bit_small false = omega arith

bit_once : (a b : Bool) → bit a ≡ bit b → a ≡ b
unfolding bit
bit_once true true same = refl
bit_once true false same = absurd (omega arith)
bit_once false true same = absurd (omega arith)
bit_once false false same = refl

weighed : (b : Bool) (w : ℕ) → cond b w 0 ≡ w * bit b
unfolding bit
weighed true w = omega arith
weighed false w = omega arith

bit_is : (b : Bool) → (bit b ≡ 1) ↔ IsTrue b
unfolding bit
bit_is true = (λ _. refl, λ _. refl)
bit_is false = (λ one. absurd (omega arith), λ passes. absurd (false≢true passes))

weight_small : (b : Bool) (w : ℕ) → cond b w 0 ≤ w
weight_small true w = omega arith
weight_small false w = omega arith

weights : (t : ℕ → Bool) → byte_of t
    ≡ 128 * bit (t 0) + 64 * bit (t 1) + 32 * bit (t 2) + 16 * bit (t 3) + 8 * bit (t 4) + 4 * bit (t 5) + 2 * bit (t 6) + bit (t 7)
unfolding sum_below
weights t =
    omega (arith, weighed (t 0) 128, weighed (t 1) 64, weighed (t 2) 32, weighed (t 3) 16, weighed (t 4) 8, weighed (t 5) 4, weighed (t 6) 2, weighed (t 7) 1)

-- what holds of each place of a byte
each_place : (P : ℕ → Type 0) → P 0 → P 1 → P 2 → P 3 → P 4 → P 5 → P 6 → P 7 → (p : ℕ) → p < 8 → P p
each_place P a b c d e f g h =
    below_more P 7 (below_more P 6 (below_more P 5 (below_more P 4 (below_more P 3 (below_more P 2 (below_more P 1 (below_more P 0 (below_none P) a) b) c) d) e) f) g) h

-- each of eight bits stands at its place
stands : (a : ℕ → ℕ) → ((p : ℕ) → a p ≤ 1) → (p : ℕ) → p < 8
    → bit_at (128 * a 0 + 64 * a 1 + 32 * a 2 + 16 * a 3 + 8 * a 4 + 4 * a 5 + 2 * a 6 + a 7) (7 - p) ≡ a p
stands a small =
    let a0 = small 0 in
    let a1 = small 1 in
    let a2 = small 2 in
    let a3 = small 3 in
    let a4 = small 4 in
    let a5 = small 5 in
    let a6 = small 6 in
    let a7 = small 7 in
    each_place (λ p. bit_at (128 * a 0 + 64 * a 1 + 32 * a 2 + 16 * a 3 + 8 * a 4 + 4 * a 5 + 2 * a 6 + a 7) (7 - p) ≡ a p)
    (omega arith) (omega arith) (omega arith) (omega arith) (omega arith) (omega arith) (omega arith) (omega arith)

bit_stands : (t : ℕ → Bool) (p : ℕ) → p < 8 → bit_at (byte_of t) (7 - p) ≡ bit (t p)
bit_stands t p below = ap (λ (b : ℕ). bit_at b (7 - p)) (weights t) ∙ stands (λ k. bit (t k)) (λ k. bit_small (t k)) p below

pub bit_marks : (t : ℕ → Bool) (p : ℕ) → p < 8 → (bit_at (byte_of t) (7 - p) ≡ 1) ↔ IsTrue (t p)
bit_marks t p below =
    let here = bit_stands t p below in
    (λ one. (bit_is (t p)).0 (sym here ∙ one), λ passes. here ∙ (bit_is (t p)).1 passes)

-- two bytes that are the same have the same bits
pub bits_once : (t u : ℕ → Bool) → byte_of t ≡ byte_of u → (p : ℕ) → p < 8 → t p ≡ u p
bits_once t u same p below =
    bit_once (t p) (u p) (sym (bit_stands t p below) ∙ ap (λ (b : ℕ). bit_at b (7 - p)) same ∙ bit_stands u p below)

-- the weights from the highest down
pub weight_is : (p : ℕ) → p < 8 → 128 / 2 ^ p ≡ 2 ^ (7 - p)
weight_is = each_place (λ p. 128 / 2 ^ p ≡ 2 ^ (7 - p)) refl refl refl refl refl refl refl refl

-- the bits above a place leave room for its weight
weight_fits : (t : ℕ → Bool) (p : ℕ) → p < 8 → sum_below p (λ k. cond (t k) (2 ^ (7 - k)) 0) + 2 ^ (7 - p) < 256
unfolding sum_below
weight_fits t =
    let w0 = weight_small (t 0) 128 in
    let w1 = weight_small (t 1) 64 in
    let w2 = weight_small (t 2) 32 in
    let w3 = weight_small (t 3) 16 in
    let w4 = weight_small (t 4) 8 in
    let w5 = weight_small (t 5) 4 in
    let w6 = weight_small (t 6) 2 in
    each_place (λ p. sum_below p (λ k. cond (t k) (2 ^ (7 - k)) 0) + 2 ^ (7 - p) < 256)
    (omega arith) (omega arith) (omega arith) (omega arith) (omega arith) (omega arith) (omega arith) (omega arith)

-- so one bit more fits in the byte
pub bit_fits : (t : ℕ → Bool) (p byte : ℕ) → p < 8 → byte ≡ sum_below p (λ k. cond (t k) (2 ^ (7 - k)) 0) → byte + 128 / 2 ^ p < 256
bit_fits t p byte below so_far =
    subst (λ (w : ℕ). byte + w < 256) (sym (weight_is p below))
    (subst (λ (b : ℕ). b + 2 ^ (7 - p) < 256) (sym so_far) (weight_fits t p below))
