-- Counts of faults. Our types keep one as a u64, which stands still at u64::MAX.
use Rattle.std.specs.Prelude.{◌≡◌, ℕ, ◌+◌, ◌-◌, ◌^◌, ◌<◌, ◌≤◌, ◌⊎◌, min}
use Rattle.std.proofs.Common.{arith}

-- a count rose from old to new: it is greater than it was, or it was u64::MAX and can rise no further
pub record Rose (old new : ℕ) : Type 0 where
  pub greater_or_spent : (old < new) ⊎ (old ≡ 2 ^ 64 - 1)

-- the count after one more fault
abbrev pub one_more : ℕ → ℕ
one_more count = min (count + 1) (2 ^ 64 - 1)

-- a count that rose and didn't fall since rose
pub Rose-kept : (a b c : ℕ) → Rose a b → b ≤ c → Rose a c
Rose-kept a b c rose kept = grind arith

-- a count that didn't fall and rose since rose
pub kept-Rose : (a b c : ℕ) → a ≤ b → b ≤ c → Rose b c → Rose a c
kept-Rose a b c below kept rose = grind arith
