-- Each geometry has one plan, and its text names the one encoder with the fewest steps.
use Rattle.std.proofs.Common.{◌≡◌, ℕ, zero, suc, ◌+◌, ◌-◌, ◌*◌, ◌<◌, ◌≤◌, ◌⊎◌, inl, inr, refl, sym, ◌∙◌, subst, arith, add-one}
use Rattle.std.specs.Prelude.{max, min}
use Rattle.std.proofs.lemmas.Bool.Decides.{nat_tests}
use Rattle.stair_codec.specs.Choice.{IsLeast}
use Rattle.stair_codec.specs.declared.choice.Encoder.{Encoder}
use Rattle.stair_codec.specs.declared.choice.Encoder.TheVariants.{Standard, Upstairs, Downstairs}
use Rattle.stair_model.specs.Costs.{downstairs_cost, upstairs_cost}
use Rattle.stair_model.specs.Geometry.{Geometry, IsWithinLimits, data_cells}
use Rattle.stair_model.specs.Sum.{sum_below}
use Rattle.stair_model.proofs.CostLaws.{standard_cost_exists, standard_cost_unique}
use Rattle.stair_plan.specs.Penalty.{IsPenalty, ArePenalties}
use Rattle.stair_plan.specs.Plan.{IsPlanOf}
use Rattle.stair_plan.specs.PlanText.{fewest_of}
use Rattle.stair_plan.specs.declared.plans.Plan.{Plan}
use Rattle.stair_plan.proofs.PenaltyLemmas.{some_penalty, penalty_sum, ArePenalties-first, ArePenalties-next}

-- ---- plans

-- of the first n + 1 data cells
some_penalties : (g : Geometry) (n : ℕ) → IsWithinLimits g → n < data_cells g
    → (least : ℕ) × (greatest : ℕ) × ArePenalties g (n + 1) least greatest
some_penalties g zero limits below =
    let first = some_penalty g 0 limits below in
    (first.0, first.0, ArePenalties-first g first.0 first.1)
some_penalties g (suc n) limits below =
    let before = some_penalties g n limits (omega arith) in
    let next = some_penalty g (n + 1) limits (omega arith) in
    let least = min before.0 next.0 in
    let greatest = max before.1 next.0 in (
      least,
      greatest,
      subst (λ (k : ℕ). ArePenalties g (k + 1) least greatest) (add-one n)
          (ArePenalties-next g (n + 1) before.0 before.1 next.0 before.2 next.1),
    )

pub some_plan : (g : Geometry) → IsWithinLimits g → (plan : Plan) × IsPlanOf g plan
some_plan g limits =
    let standard = standard_cost_exists g limits in
    let found = some_penalties g last limits (omega (arith, limits.blocks)) in (
      record {
        blocks = data_cells g;
        cells = g.r * g.n;
        up = upstairs_cost g;
        down = downstairs_cost g;
        standard = standard.0;
        least = found.0;
        greatest = found.1;
      },
      record {
        blocks = refl;
        cells = refl;
        up = refl;
        down = refl;
        standard = standard.1;
        penalties = subst (λ (k : ℕ). ArePenalties g k found.0 found.1) (omega (arith, limits.blocks)) found.2;
      },
    )
  where
    last : ℕ
    last = data_cells g - 1

-- bounds of the same penalties are the same
least_is : (g : Geometry) (n a b x y : ℕ) → ArePenalties g n a x → ArePenalties g n b y → a ≤ b
least_is g n a b x y first second =
    let reached = second.some_least in
    (first.within reached.0 b reached.1 reached.2).0

greatest_is : (g : Geometry) (n a b x y : ℕ) → ArePenalties g n a x → ArePenalties g n b y → x ≤ y
greatest_is g n a b x y first second =
    let reached = first.some_greatest in
    (second.within reached.0 x reached.1 reached.2).1

same_plans : (a b : Plan) → a.blocks ≡ b.blocks → a.cells ≡ b.cells → a.up ≡ b.up → a.down ≡ b.down → a.standard ≡ b.standard
    → a.least ≡ b.least → a.greatest ≡ b.greatest → a ≡ b
same_plans a b blocks cells up down standard least greatest = λ i. record {
  blocks = blocks i;
  cells = cells i;
  up = up i;
  down = down i;
  standard = standard i;
  least = least i;
  greatest = greatest i;
}

pub one_plan : (g : Geometry) (a b : Plan) → IsWithinLimits g → IsPlanOf g a → IsPlanOf g b → a ≡ b
one_plan g a b limits first second =
    let n = data_cells g in
    let p = first.penalties in
    let q = second.penalties in
    same_plans a b (first.blocks ∙ sym second.blocks) (first.cells ∙ sym second.cells) (first.up ∙ sym second.up)
    (first.down ∙ sym second.down) (standard_cost_unique g a.standard b.standard limits first.standard second.standard)
    (omega (arith, least_is g n a.least b.least a.greatest b.greatest p q, least_is g n b.least a.least b.greatest a.greatest q p))
    (omega (arith, greatest_is g n a.least b.least a.greatest b.greatest p q, greatest_is g n b.least a.least b.greatest a.greatest q p))

pub plan_sum : (g : Geometry) (plan : Plan) (penalty : ℕ → ℕ) → IsWithinLimits g → IsPlanOf g plan
    → ((d : ℕ) → d < data_cells g → IsPenalty g d (penalty d)) → sum_below (data_cells g) penalty ≡ plan.standard
plan_sum g plan penalty limits is each =
    standard_cost_unique g (sum_below (data_cells g) penalty) plan.standard limits (penalty_sum g penalty limits each) is.standard

-- ---- the encoder that is named

-- which of the tests are passed
fewest_of_cases : (s u d : ℕ)
    → ((fewest_of s u d ≡ Upstairs) × (u ≤ d) × (u ≤ s))
    ⊎ (((fewest_of s u d ≡ Downstairs) × (d < u) × (d ≤ s))
    ⊎ ((fewest_of s u d ≡ Standard) × (s < u) × (s < d)))
fewest_of_cases s u d = grind (arith, nat_tests)

pub fewest_least : (standard up down : ℕ) → IsLeast standard up down (fewest_of standard up down)
fewest_least standard up down =
    elim (fewest_of_cases standard up down) [
      | inl first ↦ subst (IsLeast standard up down) (sym first.0) (first.1, first.2)
      | inr others ↦
          elim others [
            | inl second ↦ subst (IsLeast standard up down) (sym second.0) (second.1, second.2)
            | inr third ↦ subst (IsLeast standard up down) (sym third.0) (third.1, third.2)
          ]
    ]

pub one_fewest : (standard up down : ℕ) (encoder : Encoder) → IsLeast standard up down encoder → encoder ≡ fewest_of standard up down
one_fewest s u d Standard least =
    elim (fewest_of_cases s u d) [
      | inl first ↦ absurd (omega (arith, first.1, first.2, least.0, least.1))
      | inr others ↦ elim others [ inl second ↦ absurd (omega (arith, second.2, least.1)) | inr third ↦ sym third.0 ]
    ]
one_fewest s u d Upstairs least =
    elim (fewest_of_cases s u d) [
      | inl first ↦ sym first.0
      | inr others ↦
          elim others [
            | inl second ↦ absurd (omega (arith, second.1, least.0))
            | inr third ↦ absurd (omega (arith, third.1, least.1))
          ]
    ]
one_fewest s u d Downstairs least =
    elim (fewest_of_cases s u d) [
      | inl first ↦ absurd (omega (arith, first.1, least.0))
      | inr others ↦ elim others [ inl second ↦ sym second.0 | inr third ↦ absurd (omega (arith, third.2, least.1)) ]
    ]
