-- One encoder is chosen, and it takes one number of steps.
use Rattle.std.proofs.Common.{◌≡◌, ℕ, ◌≤◌, ◌∙◌, inl, inr, sym, refl, subst, arith}
use Rattle.std.proofs.lemmas.Bool.{cases_lt}
use Rattle.stair_model.specs.Costs.{downstairs_cost, upstairs_cost, IsStandardCost}
use Rattle.stair_model.specs.Geometry.{Geometry, IsWithinLimits}
use Rattle.stair_model.proofs.CostLaws.{standard_cost_exists, standard_cost_unique}
use Rattle.stair_codec.specs.Choice.{IsChosen, IsCostOf, IsFewest, IsLeast}
use Rattle.stair_codec.specs.declared.choice.By.{By}
use Rattle.stair_codec.specs.declared.choice.By.TheVariants as by
use Rattle.stair_codec.specs.declared.choice.Encoder.{Encoder}
use Rattle.stair_codec.specs.declared.choice.Encoder.TheVariants.{Standard, Upstairs, Downstairs}

-- each encoder takes one number of steps
pub some_cost : (encoder : Encoder) (g : Geometry) → IsWithinLimits g → (cost : ℕ) × IsCostOf encoder g cost
some_cost Standard g limits = standard_cost_exists g limits
some_cost Upstairs g limits = (upstairs_cost g, refl)
some_cost Downstairs g limits = (downstairs_cost g, refl)

-- and one alone
pub one_cost : (encoder : Encoder) (g : Geometry) (a b : ℕ) → IsWithinLimits g → IsCostOf encoder g a → IsCostOf encoder g b → a ≡ b
one_cost Standard g a b limits first second = standard_cost_unique g a b limits first second
one_cost Upstairs g a b limits first second = first ∙ sym second
one_cost Downstairs g a b limits first second = first ∙ sym second

-- of three numbers some encoder's is the least
some_least : (s u d : ℕ) → (encoder : Encoder) × IsLeast s u d encoder
some_least s u d =
    elim (cases_lt s u) [
      | inl below ↦
          elim (cases_lt s d) [
            | inl least ↦ (Standard, (below, least))
            | inr above ↦ (Downstairs, (omega arith, above))
          ]
      | inr above ↦
          elim (cases_lt d u) [
            | inl least ↦ (Downstairs, (least, omega arith))
            | inr other ↦ (Upstairs, (other, above))
          ]
    ]

-- and of one alone
one_least : (s u d : ℕ) (a b : Encoder) → IsLeast s u d a → IsLeast s u d b → a ≡ b
one_least s u d Standard Standard first second = refl
one_least s u d Standard Upstairs first second = absurd (omega (arith, first.0, second.1))
one_least s u d Standard Downstairs first second = absurd (omega (arith, first.1, second.1))
one_least s u d Upstairs Standard first second = absurd (omega (arith, first.1, second.0))
one_least s u d Upstairs Upstairs first second = refl
one_least s u d Upstairs Downstairs first second = absurd (omega (arith, first.0, second.0))
one_least s u d Downstairs Standard first second = absurd (omega (arith, first.1, second.1))
one_least s u d Downstairs Upstairs first second = absurd (omega (arith, first.0, second.0))
one_least s u d Downstairs Downstairs first second = refl

one_fewest : (g : Geometry) (a b : Encoder) → IsWithinLimits g → IsFewest g a → IsFewest g b → a ≡ b
one_fewest g a b limits first second =
    one_least second.standard (upstairs_cost g) (downstairs_cost g) a b
    (subst (λ (s : ℕ). IsLeast s (upstairs_cost g) (downstairs_cost g) a)
    (standard_cost_unique g first.standard second.standard limits first.is_standard second.is_standard) first.least)
    second.least

-- an encoder is chosen, whatever is asked for
pub some_encoder : (way : By) (g : Geometry) → IsWithinLimits g → (encoder : Encoder) × IsChosen way g encoder
some_encoder by.Standard g limits = (Standard, refl)
some_encoder by.Upstairs g limits = (Upstairs, refl)
some_encoder by.Downstairs g limits = (Downstairs, refl)
some_encoder by.Fewest g limits =
    let standard = standard_cost_exists g limits in
    let least = some_least standard.0 (upstairs_cost g) (downstairs_cost g) in
    (least.0, record { standard = standard.0; is_standard = standard.1; least = least.1 })

-- and one alone
pub one_encoder : (way : By) (g : Geometry) (a b : Encoder) → IsWithinLimits g → IsChosen way g a → IsChosen way g b → a ≡ b
one_encoder by.Standard g a b limits first second = first ∙ sym second
one_encoder by.Upstairs g a b limits first second = first ∙ sym second
one_encoder by.Downstairs g a b limits first second = first ∙ sym second
one_encoder by.Fewest g a b limits first second = one_fewest g a b limits first second

least_of : (s u d : ℕ) (g : Geometry) (a b : Encoder) (x y : ℕ) → u ≡ upstairs_cost g → d ≡ downstairs_cost g
    → ((z : ℕ) → IsStandardCost g z → z ≡ s) → IsLeast s u d a → IsCostOf a g x → IsCostOf b g y → x ≤ y
least_of s u d g Standard Standard x y up down is least first second = omega (arith, is x first, is y second)
least_of s u d g Standard Upstairs x y up down is least first second = omega (arith, is x first, second, up, least.0)
least_of s u d g Standard Downstairs x y up down is least first second = omega (arith, is x first, second, down, least.1)
least_of s u d g Upstairs Standard x y up down is least first second = omega (arith, first, up, is y second, least.1)
least_of s u d g Upstairs Upstairs x y up down is least first second = omega (arith, first, second)
least_of s u d g Upstairs Downstairs x y up down is least first second = omega (arith, first, up, second, down, least.0)
least_of s u d g Downstairs Standard x y up down is least first second = omega (arith, first, down, is y second, least.1)
least_of s u d g Downstairs Upstairs x y up down is least first second = omega (arith, first, down, second, up, least.0)
least_of s u d g Downstairs Downstairs x y up down is least first second = omega (arith, first, second)

pub fewest : (g : Geometry) (a b : Encoder) (x y : ℕ) → IsWithinLimits g → IsFewest g a → IsCostOf a g x → IsCostOf b g y → x ≤ y
fewest g a b x y limits least first second =
    least_of least.standard (upstairs_cost g) (downstairs_cost g) g a b x y refl refl
    (λ z is. standard_cost_unique g z least.standard limits is least.is_standard) least.least first second
