-- The coefficients that aren't zero, counted in three ways: as they stand, parity by parity, and as the standard cost.
use Rattle.std.proofs.Common.{◌≡◌, ℕ, ◌+◌, ◌*◌, ◌<◌, ◌==◌, ◌&&◌, not, true, if◌then◌else◌, slice_index, inl, inr, sym, ◌∙◌, ap, ap₂}
use Rattle.std.proofs.lemmas.Bool.{cases_Bool, cond-true, cond-false}
use Rattle.stair_model.specs.Sum.{sum_below}
use Rattle.stair_model.specs.Geometry.{data_cells}
use Rattle.stair_model.specs.Cell.{cell_at, is_parity}
use Rattle.stair_model.specs.Costs.{is_nonzero, nonzero_parities, IsStandardCost, unit_blocks}
use Rattle.stair_model.specs.Encoding.{IsEncodingOf}
use Rattle.stair_model.specs.Stripe.{Stripe, cell}
use Rattle.stair_model.proofs.CountLaws.{sum_below_same, sum_below_by}
use Rattle.stair_model.proofs.StripeLaws.{cell-IsSector}
use Rattle.stair_model.proofs.UnitLaws.{is_nonzero-same}
use Rattle.stair_model.proofs.GridLaws.{sum_below_grid, sum_below_exchange, sum_below_passed, sum_below_failed}
use Rattle.stair_std.specs.Cells.{is_parity_number, parities_before}
use Rattle.stair_std.specs.Coefficients.{Coefficients, IsGenerator, coefficient, coefficient_of, nonzero_coefficients, parity_cells}
use Rattle.stair_std.specs.Standard.{step_of, parity_steps}
use Rattle.stair_std.proofs.Numbers.{cell_of-number, blocks_in_all, parities_in_all}

module _ (c : Coefficients) (generator : IsGenerator c) where
  -- of data cell d, parity by parity
  abbrev steps_of_block : ℕ → ℕ
  steps_of_block d = sum_below (parity_cells c.geometry) (λ a. step_of (coefficient_of c a d))

  -- as they stand
  as_kept : nonzero_coefficients c
      ≡ sum_below (parity_cells c.geometry) (λ a. sum_below (data_cells c.geometry) (λ d. step_of (coefficient_of c a d)))
  as_kept =
      sym (sum_below_by step_of 0 c.bytes)
      ∙ ap (λ n. sum_below n (λ k. step_of (slice_index c.bytes k))) generator.count
      ∙ sum_below_grid (parity_cells c.geometry) (data_cells c.geometry) (λ k. step_of (slice_index c.bytes k))

  -- of one parity
  steps_of_parity : (a : ℕ) → parity_steps c a ≡ sum_below (data_cells c.geometry) (λ d. step_of (coefficient_of c a d))
  steps_of_parity a =
      sum_below_failed (c.geometry.r * c.geometry.n) (is_parity_number c.geometry) (λ d. step_of (coefficient_of c a d))
      ∙ ap (λ n. sum_below n (λ d. step_of (coefficient_of c a d))) (blocks_in_all c.geometry generator.limits)

  -- cell by cell
  pub steps_of_cells : sum_below (c.geometry.r * c.geometry.n)
      (λ t. if is_parity_number c.geometry t then parity_steps c (parities_before c.geometry t) else 0)
      ≡ nonzero_coefficients c
  steps_of_cells =
      sum_below_passed (c.geometry.r * c.geometry.n) (is_parity_number c.geometry) (parity_steps c)
      ∙ ap (λ n. sum_below n (parity_steps c)) (parities_in_all c.geometry generator.limits)
      ∙ sum_below_same (parity_cells c.geometry) (parity_steps c)
      (λ a. sum_below (data_cells c.geometry) (λ d. step_of (coefficient_of c a d))) (λ a below. steps_of_parity a)
      ∙ sym as_kept

  module _ (d : ℕ) (d_in : d < data_cells c.geometry) (encoded : Stripe)
      (is : IsEncodingOf c.geometry (unit_blocks c.geometry d) encoded) where
    -- 1 where the cell of this number is a parity with a coefficient that isn't zero
    abbrev step_in : ℕ → ℕ
    step_in t =
        if is_parity_number c.geometry t then step_of (coefficient_of c (parities_before c.geometry t) d) else 0

    nonzero_cell : (i j : ℕ) → i < c.geometry.r → j < c.geometry.n → is_parity (cell_at c.geometry i j) ≡ true
        → is_nonzero (cell encoded i j) ≡ not (coefficient c i j d == 0)
    nonzero_cell i j row chunk parity =
        is_nonzero-same (cell encoded i j) (coefficient c i j d) (cell-IsSector c.geometry encoded i j is.of is.formed row chunk).0
        (λ p p_in. generator.factors d i j d_in row chunk parity encoded p p_in is)

    mark_is : (i j : ℕ) → i < c.geometry.r → j < c.geometry.n
        → (if is_parity (cell_at c.geometry i j) && is_nonzero (cell encoded i j) then 1 else 0) ≡ step_in (i * c.geometry.n + j)
    mark_is i j row chunk =
        elim (cases_Bool (is_parity (cell_at c.geometry i j))) [
          | inl parity ↦
              ap₂ (λ a b. if a && b then 1 else 0) parity (nonzero_cell i j row chunk parity)
              ∙ sym (cond-true (is_parity_number c.geometry (i * c.geometry.n + j)) (step_of (coefficient c i j d)) 0
              (ap is_parity (sym (cell_of-number c.geometry i j chunk)) ∙ parity))
          | inr block ↦
              ap (λ a. if a && is_nonzero (cell encoded i j) then 1 else 0) block
              ∙ sym (cond-false (is_parity_number c.geometry (i * c.geometry.n + j)) (step_of (coefficient c i j d)) 0
              (ap is_parity (sym (cell_of-number c.geometry i j chunk)) ∙ block))
        ]

    parities_of_block : nonzero_parities c.geometry encoded ≡ steps_of_block d
    parities_of_block =
        sum_below_same c.geometry.r
        (λ i. sum_below c.geometry.n (λ j. if is_parity (cell_at c.geometry i j) && is_nonzero (cell encoded i j) then 1 else 0))
        (λ i. sum_below c.geometry.n (λ j. step_in (i * c.geometry.n + j)))
        (λ i row. sum_below_same c.geometry.n
        (λ j. if is_parity (cell_at c.geometry i j) && is_nonzero (cell encoded i j) then 1 else 0)
        (λ j. step_in (i * c.geometry.n + j)) (λ j chunk. mark_is i j row chunk))
        ∙ sym (sum_below_grid c.geometry.r c.geometry.n step_in)
        ∙ sum_below_passed (c.geometry.r * c.geometry.n) (is_parity_number c.geometry) (λ a. step_of (coefficient_of c a d))
        ∙ ap (λ n. sum_below n (λ a. step_of (coefficient_of c a d))) (parities_in_all c.geometry generator.limits)

  pub IsStandardCost-nonzero : IsStandardCost c.geometry (nonzero_coefficients c)
  IsStandardCost-nonzero encoded are =
      as_kept
      ∙ sum_below_exchange (parity_cells c.geometry) (data_cells c.geometry) (λ a d. step_of (coefficient_of c a d))
      ∙ sym (sum_below_same (data_cells c.geometry) (λ d. nonzero_parities c.geometry (encoded d)) steps_of_block
      (λ d below. parities_of_block d below (encoded d) (are d below)))
