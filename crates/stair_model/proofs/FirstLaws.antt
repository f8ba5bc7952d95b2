-- The first of some facts that fails.
use Rattle.std.proofs.Common.{◌≡◌, ◌+◌, ◌<◌, ◌≤◌, ◌⊎◌, ℕ, zero, suc, inl, inr, below_more, arith}
use Rattle.std.proofs.lemmas.Bool.{cases_lt}

-- those with lower numbers hold
abbrev pub HoldsBelow : (ℕ → Type 0) → ℕ → Type 0
HoldsBelow P k = (i : ℕ) → i < k → P i

pub none_below : (P : ℕ → Type 0) → HoldsBelow P 0
none_below P i below = absurd (omega arith)

pub one_more : (P : ℕ → Type 0) (k : ℕ) → HoldsBelow P k → P k → HoldsBelow P (k + 1)
one_more P k below here = below_more P k below here

not_lower : (P : ℕ → Type 0) (j k : ℕ) → ¬ P j → HoldsBelow P k → k ≤ j
not_lower P j k fails below =
    elim (cases_lt j k) [
      | inl lower ↦ absurd (fails (below j lower))
      | inr not ↦ not
    ]

-- there is one first that fails
pub one_first : (P : ℕ → Type 0) (j k : ℕ) → ¬ P j → HoldsBelow P j → ¬ P k → HoldsBelow P k → j ≡ k
one_first P j k j_fails below_j k_fails below_k = omega (arith, not_lower P j k j_fails below_k, not_lower P k j k_fails below_j)

-- ---- facts of which it is known whether they hold

-- it holds, or it doesn't
abbrev pub IsKnown : Type 0 → Type 0
IsKnown P = P ⊎ (¬ P)

pub known_le : (a b : ℕ) → IsKnown (a ≤ b)
known_le a b =
    elim (cases_lt b a) [
      | inl above ↦ inr (λ le. omega arith)
      | inr le ↦ inl le
    ]

-- so it is of both of two facts
pub known_both : {P Q : Type 0} → IsKnown P → IsKnown Q → IsKnown (P × Q)
known_both (inr not) q = inr (λ both. not both.0)
known_both (inl p) (inr not) = inr (λ both. not both.1)
known_both (inl p) (inl q) = inl (p, q)

-- and of the facts with lower numbers
pub known_below : (P : ℕ → Type 0) → ((k : ℕ) → IsKnown (P k)) → (n : ℕ) → IsKnown (HoldsBelow P n)
known_below P known zero = inl (none_below P)
known_below P known (suc n) =
    elim (known_below P known n) [
      | inr not ↦ inr (λ all. not (λ i i_in. all i (omega arith)))
      | inl below ↦
          elim (known n) [
            | inr not ↦ inr (λ all. not (all n (omega arith)))
            | inl here ↦ inl (λ i i_in. below_more P n below here i (omega arith))
          ]
    ]
