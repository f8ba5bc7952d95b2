-- The field of 256 elements. A byte is a polynomial over two elements, bit i the coefficient of x^i, and products are
-- taken modulo x^8 + x^4 + x^3 + x^2 + 1 (0x11D).
use Rattle.std.specs.Prelude.{ℕ, ◌*◌, ◌/◌, ◌%◌, Bool, bit_xor, if◌then◌else◌, ◌==◌}
use Rattle.std.proofs.Common.{zero, suc}

-- x·a: a shift by one place, and where x^8 comes up, it is x^4 + x^3 + x^2 + 1 (0x1D)
unfoldable pub times_x : ℕ → ℕ
times_x a = bit_xor (a % 128 * 2) (a / 128 % 2 * 0x1D)

-- the sum of a·x^i over the bits i of b below k, by k steps of shift and add
unfoldable pub shift_and_add : ℕ → ℕ → ℕ → ℕ
shift_and_add zero a b = 0
shift_and_add (suc k) a b = bit_xor (b % 2 * a) (shift_and_add k (times_x a) (b / 2))

-- a·b; of each number the low eight bits count
unfoldable pub product : ℕ → ℕ → ℕ
product a b = shift_and_add 8 (a % 256) b

-- the least number below n that passes the test, or n where none does
unfoldable pub least_below : ℕ → (ℕ → Bool) → ℕ
least_below zero test = 0
least_below (suc n) test = if test 0 then 0 else suc (least_below n (λ k. test (suc k)))

-- the byte whose product with a is 1
unfoldable pub inverse : ℕ → ℕ
inverse a = least_below 256 (λ b. product a b == 1)
