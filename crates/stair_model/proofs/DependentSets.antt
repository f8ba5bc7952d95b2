-- The dependents of a data cell as a set, and how many they are.
use Rattle.std.proofs.Common.{◌≡◌, ℕ, ◌+◌, ◌<◌, ◌⊎◌, ◌↔◌, ◌&&◌, Bool, true, false, if◌then◌else◌, inl, inr, refl, sym, ◌∙◌, ap, subst, arith}
use Rattle.std.proofs.lemmas.Bool.{and_from, and_left, and_parts, cases_lt, cond-true, cond-false, false≢true, false_from_ne_true}
use Rattle.std.proofs.lemmas.List.{get_or_past}
use Rattle.std.proofs.lemmas.List.Elements.{All-from_get_or}
use Rattle.stair_model.specs.Sum.{sum_below}
use Rattle.stair_model.specs.Geometry.{Geometry, IsWithinLimits, data_cells}
use Rattle.stair_model.specs.Cell.{Data, cell_at, is_parity}
use Rattle.stair_model.specs.Slots.{Slots, has_slot, no_slots, IsSlotSet}
use Rattle.stair_model.specs.CellSet.{CellSet, has_cell, HasCell, IsCellSet, cell_count}
use Rattle.stair_model.specs.Costs.{unit_blocks, is_nonzero, nonzero_parities, IsStandardCost}
use Rattle.stair_model.specs.Encoding.{IsEncodingOf}
use Rattle.stair_model.specs.Dependents.{IsDependent, AreDependents}
use Rattle.stair_model.specs.Stripe.{Stripe, cell}
use Rattle.stair_model.proofs.CountLaws.{sum_below_add, sum_below_changed, sum_below_constant, sum_below_same, sum_below_tail, sum_below_zeros}
use Rattle.stair_model.proofs.DataLaws.{data_once, data_reached}
use Rattle.stair_model.proofs.SetLaws.{same_test, has_slot-none}
use Rattle.stair_model.proofs.PlaceLaws.{list_of, length-list_of, list_of_at}
use Rattle.stair_model.proofs.CostLaws.{unit_encoding}
use Rattle.stair_model.proofs.DependentLaws.{dependent_in_any, dependent_itself, dependent_or_not}

-- ---- a set of cells by a test

rows_of : (ℕ → ℕ → Bool) → ℕ → Slots
rows_of test i = record { marks = list_of 32 (test i) }

-- the cells that pass, of those below 32
set_of : (ℕ → ℕ → Bool) → CellSet
set_of test = record { rows = list_of 32 (rows_of test) }

set_of-IsCellSet : (test : ℕ → ℕ → Bool) → IsCellSet (set_of test)
unfolding set_of rows_of
set_of-IsCellSet test = record {
  count = length-list_of 32 (rows_of test);
  slots = All-from_get_or IsSlotSet (list_of 32 (rows_of test)) no_slots
      (λ i below.
      let within : i < 32 = omega (arith, length-list_of 32 (rows_of test)) in
      subst IsSlotSet (sym (list_of_at 32 (rows_of test) i no_slots within)) (length-list_of 32 (test i)));
}

has_cell-set_of : (test : ℕ → ℕ → Bool) (i j : ℕ) → i < 32 → j < 32 → has_cell (set_of test) i j ≡ test i j
unfolding set_of rows_of
has_cell-set_of test i j row slot =
    ap (λ (s : Slots). has_slot s j) (list_of_at 32 (rows_of test) i no_slots row) ∙ list_of_at 32 (test i) j false slot

has_cell-past : (test : ℕ → ℕ → Bool) (i j : ℕ) → HasCell (set_of test) i j → (i < 32) × (j < 32)
unfolding set_of rows_of
has_cell-past test i j has =
    elim (cases_lt i 32) [
      | inl row ↦
          elim (cases_lt j 32) [
            | inl slot ↦ (row, slot)
            | inr past ↦
                absurd (false≢true
                (sym (ap (λ (s : Slots). has_slot s j) (list_of_at 32 (rows_of test) i no_slots row)
                ∙ get_or_past (list_of 32 (test i)) j false (omega (arith, length-list_of 32 (test i))))
                ∙ has))
          ]
      | inr past ↦
          absurd (false≢true
          (sym (ap (λ (s : Slots). has_slot s j)
          (get_or_past (list_of 32 (rows_of test)) i no_slots (omega (arith, length-list_of 32 (rows_of test))))
          ∙ has_slot-none j)
          ∙ has))
    ]

-- ---- the set of the dependents

-- a cell is one of them or not, also outside of the stripe
decided : (g : Geometry) (d i j : ℕ) → IsWithinLimits g → IsDependent g d i j ⊎ ¬ IsDependent g d i j
decided g d i j limits =
    elim (cases_lt i g.r) [
      | inl row ↦
          elim (cases_lt j g.n) [
            | inl chunk ↦ dependent_or_not g d i j limits row chunk
            | inr past ↦ inr (λ dependent. let chunk = dependent.chunk in omega arith)
          ]
      | inr past ↦ inr (λ dependent. let row = dependent.row in omega arith)
    ]

-- whether a fact that is decided holds
holds : {P : Type 0} → P ⊎ ¬ P → Bool
holds (inl p) = true
holds (inr never) = false

holds-tells : {P : Type 0} (decision : P ⊎ ¬ P) → (holds decision ≡ true) ↔ P
unfolding holds
holds-tells (inl p) = ((λ passes. p), (λ q. refl))
holds-tells (inr never) = ((λ passes. absurd (false≢true passes)), (λ q. absurd (never q)))

pub dependents_exist : (g : Geometry) (d : ℕ) → IsWithinLimits g → (set : CellSet) × IsCellSet set × AreDependents g d set
dependents_exist g d limits = (
  set_of test,
  set_of-IsCellSet test,
  λ i j. (
    λ has.
        let below = has_cell-past test i j has in
        (holds-tells (decided g d i j limits)).0 (sym (has_cell-set_of test i j below.0 below.1) ∙ has),
    λ dependent.
        let row = dependent.row in
        let chunk = dependent.chunk in
        has_cell-set_of test i j (omega (arith, limits.rows.1)) (omega (arith, limits.devices.1))
        ∙ (holds-tells (decided g d i j limits)).1 dependent,
  ),
)
  where
    test : ℕ → ℕ → Bool
    test i j = holds (decided g d i j limits)

-- ---- how many they are

module _ (g : Geometry) (d : ℕ) (set : CellSet) (encoded : Stripe) (limits : IsWithinLimits g) (below : d < data_cells g)
    (are : AreDependents g d set) (is : IsEncodingOf g (unit_blocks g d) encoded) where
  abbrev mark : ℕ → ℕ → ℕ
  mark i j = if has_cell set i j then 1 else 0

  -- 1 where a parity isn't zero
  abbrev parity_mark : ℕ → ℕ → ℕ
  parity_mark i j = if is_parity (cell_at g i j) && is_nonzero (cell encoded i j) then 1 else 0

  -- no cell outside of the stripe
  mark_past : (i j : ℕ) → ((i < g.r) → (j < g.n) → ⊥) → mark i j ≡ 0
  mark_past i j past =
      cond-false (has_cell set i j) 1 0
      (false_from_ne_true (has_cell set i j) (λ has. past ((are i j).0 has).row ((are i j).0 has).chunk))

  in_stripe : cell_count set ≡ sum_below g.r (λ i. sum_below g.n (mark i))
  in_stripe =
      sum_below_tail g.r 32 (λ i. sum_below 32 (mark i)) limits.rows.1
      (λ i from to. sum_below_zeros 32 (mark i) (λ j j_in. mark_past i j (λ row chunk. omega arith)))
      ∙ sum_below_same g.r (λ i. sum_below 32 (mark i)) (λ i. sum_below g.n (mark i))
      (λ i row. sum_below_tail g.n 32 (mark i) limits.devices.1 (λ j from to. mark_past i j (λ r chunk. omega arith)))

  -- the cell itself
  own_mark : (k l : ℕ) → k < g.r → l < g.n → cell_at g k l ≡ Data d → mark k l ≡ parity_mark k l + 1
  own_mark k l row chunk here =
      let one : mark k l ≡ 1 = cond-true (has_cell set k l) 1 0 ((are k l).1 (dependent_itself g d k l row chunk here)) in
      let none : parity_mark k l ≡ 0 =
      cond-false (is_parity (cell_at g k l) && is_nonzero (cell encoded k l)) 1 0
      (and_left (is_parity (cell_at g k l)) (is_nonzero (cell encoded k l)) (ap is_parity here))
      in
      omega arith

  -- each other cell
  other_mark : (k l i j : ℕ) → cell_at g k l ≡ Data d → i < g.r → j < g.n → ¬ ((i ≡ k) × (j ≡ l)) → mark i j ≡ parity_mark i j
  other_mark k l i j here row chunk other =
      ap (λ (b : Bool). if b then 1 else 0)
      (same_test (has_cell set i j) (is_parity (cell_at g i j) && is_nonzero (cell encoded i j)) (
        λ has.
            elim ((dependent_in_any g d i j encoded limits is row chunk).0 ((are i j).0 has)) [
              | inl own ↦ absurd (other (data_once g i j k l d own here))
              | inr parity ↦ and_from (is_parity (cell_at g i j)) (is_nonzero (cell encoded i j)) parity.0 parity.1
            ],
        λ both.
            (are i j).1
            ((dependent_in_any g d i j encoded limits is row chunk).1
            (inr (and_parts (is_parity (cell_at g i j)) (is_nonzero (cell encoded i j)) both))),
      ))

  -- the parities that aren't zero, and the cell itself
  pub dependents_count : cell_count set ≡ nonzero_parities g encoded + 1
  dependents_count =
      let place = data_reached g d limits below in
      let k = place.0 in
      let l = place.1 in
      in_stripe
      ∙ sum_below_changed g.r k 1 (λ i. sum_below g.n (parity_mark i)) (λ i. sum_below g.n (mark i)) place.2
      (sum_below_changed g.n l 1 (parity_mark k) (mark k) place.3 (own_mark k l place.2 place.3 place.4)
      (λ j chunk apart. other_mark k l k j place.4 place.2 chunk (λ same. apart same.1)))
      (λ i row apart.
      sum_below_same g.n (mark i) (parity_mark i)
      (λ j chunk. other_mark k l i j place.4 row chunk (λ same. apart same.0)))

-- all data cells together
pub dependents_cost : (g : Geometry) (cost : ℕ) (set : ℕ → CellSet) → IsWithinLimits g → IsStandardCost g cost
    → ((d : ℕ) → d < data_cells g → AreDependents g d (set d))
    → sum_below (data_cells g) (λ d. cell_count (set d)) ≡ cost + data_cells g
dependents_cost g cost set limits standard are =
    let counted : cost ≡ sum_below (data_cells g) others = standard units (λ d below. (unit_encoding g d limits).1) in
    let each : sum_below (data_cells g) (λ d. cell_count (set d)) ≡ sum_below (data_cells g) (λ d. others d + 1) =
    sum_below_same (data_cells g) (λ d. cell_count (set d)) (λ d. others d + 1)
    (λ d below. dependents_count g d (set d) (units d) limits below (are d below) (unit_encoding g d limits).1)
    in
    omega (arith, counted, each, sum_below_add (data_cells g) others (λ d. 1), sum_below_constant (data_cells g) 1)
  where
    units : ℕ → Stripe
    units d = (unit_encoding g d limits).0

    others : ℕ → ℕ
    others d = nonzero_parities g (units d)
