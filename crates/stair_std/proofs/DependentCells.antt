-- The dependents of a data cell among the cells so far.
use Rattle.std.proofs.Common.{◌≡◌, ◌≢◌, ℕ, ◌+◌, ◌*◌, ◌/◌, ◌%◌, ◌<◌, ◌⊎◌, ◌↔◌, inl, inr, sym, ◌∙◌, ap, ap₂, subst, arith, add-zero}
use Rattle.std.proofs.lemmas.Bool.{cases_eq}
use Rattle.std.proofs.lemmas.Nat.{div-mul-add, mod-mul-add}
use Rattle.stair_model.specs.Geometry.{Geometry, IsWithinLimits}
use Rattle.stair_model.specs.CellSet.{CellSet, HasCell, IsCellSet}
use Rattle.stair_model.specs.Dependents.{IsDependent, AreDependents, IsFactor}
use Rattle.stair_model.proofs.DependentLaws.{dependent_by_factor}
use Rattle.stair_model.proofs.StripeLaws.{number_in}
use Rattle.stair_std.proofs.Numbers.{next_row, next_slot}

pub record HasDependents (g : Geometry) (d c : ℕ) (set : CellSet) : Type 0 where
  pub formed : IsCellSet set
  pub members : (i j : ℕ) → HasCell set i j ↔ (IsDependent g d i j × (i * g.n + j < c))

pub HasDependents-start : (g : Geometry) (d : ℕ) (set : CellSet) → IsCellSet set → ((i j : ℕ) → ¬ HasCell set i j)
    → HasDependents g d (0 * g.n + 0) set
HasDependents-start g d set formed none = record {
  formed = formed;
  members = λ i j. (λ has. absurd (none i j has), λ both. absurd (omega (arith, both.1)));
}

module _ (g : Geometry) (d row slot factor : ℕ) (set : CellSet) (limits : IsWithinLimits g) (row_below : row < g.r)
    (slot_below : slot < g.n) (of : IsFactor g d row slot factor) (so_far : HasDependents g d (row * g.n + slot) set) where
  -- cells of the stripe with one number are one
  one_place : (i j : ℕ) → j < g.n → i * g.n + j ≡ row * g.n + slot → (i ≡ row) × (j ≡ slot)
  one_place i j chunk same = (
    sym (div-mul-add i g.n j chunk) ∙ ap (λ (k : ℕ). k / g.n) same ∙ div-mul-add row g.n slot slot_below,
    sym (mod-mul-add i g.n j chunk) ∙ ap (λ (k : ℕ). k % g.n) same ∙ mod-mul-add row g.n slot slot_below,
  )

  -- a cell whose factor is zero is none of them
  pub HasDependents-still : factor ≡ 0 → HasDependents g d (row * g.n + (slot + 1)) set
  HasDependents-still zero = record {
    formed = so_far.formed;
    members = λ i j. (
      λ has. let both = (so_far.members i j).0 has in (both.0, omega (arith, both.1)),
      λ both.
          elim (cases_eq (i * g.n + j) (row * g.n + slot)) [
            | inl same ↦
                let dependent = both.0 in
                let place = one_place i j dependent.chunk same in
                absurd ((dependent_by_factor g d row slot factor limits row_below slot_below of).0
                (subst (λ (k : ℕ). IsDependent g d row k) place.1 (subst (λ (k : ℕ). IsDependent g d k j) place.0 dependent)) zero)
            | inr other ↦ (so_far.members i j).1 (both.0, omega (arith, both.1))
          ],
    );
  }

  -- and each other one is
  pub HasDependents-more : (new : CellSet) → factor ≢ 0 → IsCellSet new
      → ((i j : ℕ) → HasCell new i j ↔ (HasCell set i j ⊎ ((i ≡ row) × (j ≡ slot))))
      → HasDependents g d (row * g.n + (slot + 1)) new
  HasDependents-more new nonzero formed adds = record {
    formed = formed;
    members = λ i j. (
      λ has.
          elim ((adds i j).0 has) [
            | inl before ↦ let both = (so_far.members i j).0 before in (both.0, omega (arith, both.1))
            | inr here ↦ (
              subst (λ (k : ℕ). IsDependent g d k j) (sym here.0)
                  (subst (λ (k : ℕ). IsDependent g d row k) (sym here.1)
                  ((dependent_by_factor g d row slot factor limits row_below slot_below of).1 nonzero)),
              let same : i * g.n + j ≡ row * g.n + slot = ap₂ (λ (a b : ℕ). a * g.n + b) here.0 here.1 in omega arith,
            )
          ],
      λ both.
          elim (cases_eq (i * g.n + j) (row * g.n + slot)) [
            | inl same ↦ let dependent = both.0 in (adds i j).1 (inr (one_place i j dependent.chunk same))
            | inr other ↦ (adds i j).1 (inl ((so_far.members i j).1 (both.0, omega (arith, both.1))))
          ],
    );
  }

pub HasDependents-turn : (g : Geometry) (d row slot : ℕ) (set : CellSet) → slot ≡ g.n → HasDependents g d (row * g.n + slot) set
    → HasDependents g d ((row + 1) * g.n + 0) set
HasDependents-turn g d row slot set end so_far =
    subst (λ (k : ℕ). HasDependents g d k set) (next_row row slot g.n end) so_far

pub AreDependents-all : (g : Geometry) (d row : ℕ) (set : CellSet) → row ≡ g.r → HasDependents g d (row * g.n + 0) set
    → AreDependents g d set
AreDependents-all g d row set end so_far i j = (
  λ has. ((so_far.members i j).0 has).0,
  λ dependent.
      let all : row * g.n + 0 ≡ g.r * g.n = ap (λ (k : ℕ). k * g.n + 0) end ∙ add-zero (g.r * g.n) in
      (so_far.members i j).1 (dependent, omega (arith, all, number_in g i j dependent.row dependent.chunk)),
)
