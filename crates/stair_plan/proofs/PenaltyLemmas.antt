-- The penalty of a data cell, and the least and the greatest of the first ones.
use Rattle.std.proofs.Common.{◌≡◌, ℕ, ◌+◌, ◌-◌, ◌<◌, ◌≤◌, inl, inr, sym, ap, subst, arith}
use Rattle.std.specs.Prelude.{max, min}
use Rattle.std.proofs.lemmas.Bool.{cases_eq, cases_lt}
use Rattle.stair_model.specs.Geometry.{Geometry, IsWithinLimits, data_cells}
use Rattle.stair_model.specs.CellSet.{CellSet, IsCellSet, cell_count}
use Rattle.stair_model.specs.Costs.{unit_blocks, nonzero_parities, IsStandardCost}
use Rattle.stair_model.specs.Dependents.{AreDependents}
use Rattle.stair_model.specs.Encoding.{IsEncodingOf}
use Rattle.stair_model.specs.Stripe.{Stripe}
use Rattle.stair_model.specs.Sum.{sum_below}
use Rattle.stair_model.proofs.CostLaws.{unit_encoding}
use Rattle.stair_model.proofs.CountLaws.{sum_below_same}
use Rattle.stair_model.proofs.DependentLaws.{dependents_same}
use Rattle.stair_model.proofs.DependentSets.{dependents_count, dependents_exist}
use Rattle.stair_plan.specs.Penalty.{IsPenalty, ArePenalties}

-- ---- one data cell

-- it is a dependent of its own, so that it has one at least
pub dependents_some : (g : Geometry) (d : ℕ) (set : CellSet) → IsWithinLimits g → d < data_cells g → AreDependents g d set
    → 1 ≤ cell_count set
dependents_some g d set limits below are =
    let unit = unit_encoding g d limits in
    omega (arith, dependents_count g d set unit.0 limits below are unit.1)

pub penalty_counted : (g : Geometry) (d : ℕ) (set : CellSet) → IsWithinLimits g → d < data_cells g → IsCellSet set
    → AreDependents g d set → IsPenalty g d (cell_count set - 1)
penalty_counted g d set limits below is_set are = record {
  dependents = set;
  is_set = is_set;
  are = are;
  count = omega (arith, dependents_some g d set limits below are);
}

pub some_penalty : (g : Geometry) (d : ℕ) → IsWithinLimits g → d < data_cells g → (penalty : ℕ) × IsPenalty g d penalty
some_penalty g d limits below =
    let found = dependents_exist g d limits in
    (cell_count found.0 - 1, penalty_counted g d found.0 limits below found.1 found.2)

pub one_penalty : (g : Geometry) (d a b : ℕ) → IsPenalty g d a → IsPenalty g d b → a ≡ b
one_penalty g d a b first second =
    let same : first.dependents ≡ second.dependents =
    dependents_same g d first.dependents second.dependents first.is_set second.is_set first.are second.are
    in
    omega (arith, first.count, second.count, ap cell_count same)

-- the parities that aren't zero where the cell is filled with 01, and all others with zeros
pub penalty_parities : (g : Geometry) (d penalty : ℕ) (encoded : Stripe) → IsWithinLimits g → d < data_cells g → IsPenalty g d penalty
    → IsEncodingOf g (unit_blocks g d) encoded → penalty ≡ nonzero_parities g encoded
penalty_parities g d penalty encoded limits below is encodes =
    omega (arith, is.count, dependents_count g d is.dependents encoded limits below is.are encodes)

-- ---- all data cells

pub penalty_sum : (g : Geometry) (penalty : ℕ → ℕ) → IsWithinLimits g → ((d : ℕ) → d < data_cells g → IsPenalty g d (penalty d))
    → IsStandardCost g (sum_below (data_cells g) penalty)
penalty_sum g penalty limits each encoded are =
    sum_below_same (data_cells g) penalty (λ d. nonzero_parities g (encoded d))
    (λ d below. penalty_parities g d (penalty d) (encoded d) limits below (each d below) (are d below))

-- ---- the first data cells

-- the first one alone
pub ArePenalties-first : (g : Geometry) (penalty : ℕ) → IsPenalty g 0 penalty → ArePenalties g 1 penalty penalty
ArePenalties-first g penalty is = record {
  each = λ d below. (penalty, subst (λ (k : ℕ). IsPenalty g k penalty) (omega arith) is);
  within = λ d other below has.
      let here : d ≡ 0 = omega arith in
      let same : other ≡ penalty = one_penalty g 0 other penalty (subst (λ (k : ℕ). IsPenalty g k other) here has) is in
      (omega arith, omega arith);
  some_least = (0, omega arith, is);
  some_greatest = (0, omega arith, is);
}

module _ (g : Geometry) (n least greatest penalty : ℕ) (so_far : ArePenalties g n least greatest) (is : IsPenalty g n penalty) where
  more_each : (d : ℕ) → d < n + 1 → (p : ℕ) × IsPenalty g d p
  more_each d below =
      elim (cases_eq d n) [
        | inl here ↦ (penalty, subst (λ (k : ℕ). IsPenalty g k penalty) (sym here) is)
        | inr other ↦ so_far.each d (omega arith)
      ]

  more_within : (d p : ℕ) → d < n + 1 → IsPenalty g d p → (min least penalty ≤ p) × (p ≤ max greatest penalty)
  more_within d p below has =
      elim (cases_eq d n) [
        | inl here ↦
            let same : p ≡ penalty = one_penalty g n p penalty (subst (λ (k : ℕ). IsPenalty g k p) here has) is in
            (omega arith, omega arith)
        | inr other ↦
            let before = so_far.within d p (omega arith) has in
            (omega (arith, before.0), omega (arith, before.1))
      ]

  more_least : (d : ℕ) × (d < n + 1) × IsPenalty g d (min least penalty)
  more_least =
      elim (cases_lt penalty least) [
        | inl less ↦ (n, omega arith, subst (λ (p : ℕ). IsPenalty g n p) (omega arith) is)
        | inr more ↦
            let old = so_far.some_least in
            (old.0, omega (arith, old.1), subst (λ (p : ℕ). IsPenalty g old.0 p) (omega arith) old.2)
      ]

  more_greatest : (d : ℕ) × (d < n + 1) × IsPenalty g d (max greatest penalty)
  more_greatest =
      elim (cases_lt greatest penalty) [
        | inl more ↦ (n, omega arith, subst (λ (p : ℕ). IsPenalty g n p) (omega arith) is)
        | inr less ↦
            let old = so_far.some_greatest in
            (old.0, omega (arith, old.1), subst (λ (p : ℕ). IsPenalty g old.0 p) (omega arith) old.2)
      ]

  pub ArePenalties-next : ArePenalties g (n + 1) (min least penalty) (max greatest penalty)
  ArePenalties-next = record { each = more_each; within = more_within; some_least = more_least; some_greatest = more_greatest }

  -- and so of numbers that are these
  pub ArePenalties-more : (low high : ℕ) → low ≡ min least penalty → high ≡ max greatest penalty → ArePenalties g (n + 1) low high
  ArePenalties-more low high low_is high_is =
      subst (λ (a : ℕ). ArePenalties g (n + 1) a high) (sym low_is)
      (subst (λ (b : ℕ). ArePenalties g (n + 1) (min least penalty) b) (sym high_is) ArePenalties-next)
