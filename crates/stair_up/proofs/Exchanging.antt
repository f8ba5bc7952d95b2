-- Rows of which the erased ones so far stand in the places of virtual rows.
use Rattle.std.proofs.Common.{◌≡◌, ℕ, ◌+◌, ◌<◌, ◌≤◌, ◌⊎◌, Bool, true, false, cond, List, length, swap, slice_index, inl, inr, refl, sym, subst, ap, ◌∙◌, add-one, arith}
use Rattle.std.specs.List.{range_with_len}
use Rattle.std.specs.List.Sorted.{IsPermutation}
use Rattle.std.proofs.lemmas.Bool.{cases_eq}
use Rattle.std.proofs.lemmas.List.{ext_get_or}
use Rattle.std.proofs.lemmas.List.Edits.{Swapped, swapped_from_swap}
use Rattle.std.proofs.lemmas.List.FromFn.{length-range_with_len, get_or-range_with_len}
use Rattle.std.proofs.lemmas.List.Sorted.{IsPermutation-refl, IsPermutation-swap, IsPermutation-trans, length_permutation}
use Rattle.stair_model.specs.Sum.{sum_below}
use Rattle.stair_model.specs.CellSet.{CellSet, has_cell, HasCell, count_in_slot}
use Rattle.stair_model.proofs.CountLaws.{sum_below_none, sum_below_more, sum_below_tail}
use Rattle.stair_model.proofs.SetLaws.{unmarked}
use Rattle.stair_up.specs.RowsSteps.{AreRowsByNeed}

-- how many of the first rows are erased
abbrev pub erased_before : CellSet → ℕ → ℕ → ℕ
erased_before erased slot row = sum_below row (λ i. cond (has_cell erased i slot) 1 0)

-- each of the first rows is held, or in the place of one of the first virtual rows
pub record HasExchanged (erased : CellSet) (slot r row next : ℕ) (rows : List ℕ) : Type 0 where
  pub permutation : IsPermutation (range_with_len 0 64) rows
  pub count : next ≡ r + erased_before erased slot row
  pub few : next ≤ r + row
  pub done :
      (i : ℕ) → i < row →
      ((slice_index rows i ≡ i) × (¬ HasCell erased i slot)) ⊎ ((r ≤ slice_index rows i) × (slice_index rows i < next))
  pub ahead : (i : ℕ) → row ≤ i → i < r → slice_index rows i ≡ i
  pub out : (i : ℕ) → r ≤ i → i < next → HasCell erased (slice_index rows i) slot
  pub rest : (i : ℕ) → next ≤ i → i < 64 → slice_index rows i ≡ i

-- numbers in their own places
pub are_range : (rows : List ℕ) → length rows ≡ 64 → ((i : ℕ) → i < 64 → slice_index rows i ≡ i) → range_with_len 0 64 ≡ rows
are_range rows long each =
    ext_get_or 0 (range_with_len 0 64) rows (length-range_with_len 0 64 ∙ sym long)
    (λ i below.
    let within : i < 64 = omega (arith, length-range_with_len 0 64) in
    omega (arith, get_or-range_with_len 0 64 i 0 within, each i within))

pub HasExchanged-none : (erased : CellSet) (slot r : ℕ) (rows : List ℕ) → r ≤ 32 → length rows ≡ 64
    → ((i : ℕ) → i < 64 → slice_index rows i ≡ i) → HasExchanged erased slot r 0 r rows
HasExchanged-none erased slot r rows few long each = record {
  permutation = subst (IsPermutation (range_with_len 0 64)) (are_range rows long each) (IsPermutation-refl (range_with_len 0 64));
  count = omega (arith, sum_below_none (λ i. cond (has_cell erased i slot) 1 0));
  few = omega arith;
  done = λ i below. absurd (omega arith);
  ahead = λ i from below. each i (omega arith);
  out = λ i from below. absurd (omega arith);
  rest = λ i from below. each i below;
}

-- a row that isn't erased
pub HasExchanged-held : (erased : CellSet) (slot r row next : ℕ) (rows : List ℕ) → row < r → ¬ HasCell erased row slot
    → HasExchanged erased slot r row next rows → HasExchanged erased slot r (row + 1) next rows
HasExchanged-held erased slot r row next rows row_in held before = record {
  permutation = before.permutation;
  count =
      before.count
      ∙ ap (λ (k : ℕ). r + k) (sym (ap (λ (n : ℕ). erased_before erased slot n) (add-one row)
      ∙ sum_below_more row (λ i. cond (has_cell erased i slot) 1 0)
      ∙ none (has_cell erased row slot) (erased_before erased slot row) held));
  few = omega (arith, before.few);
  done = λ i below.
      elim (cases_eq i row) [
        | inl here ↦ inl (before.ahead i (omega arith) (omega arith), λ has. held (subst (λ (t : ℕ). HasCell erased t slot) here has))
        | inr earlier ↦ before.done i (omega arith)
      ];
  ahead = λ i from below. before.ahead i (omega arith) below;
  out = before.out;
  rest = before.rest;
}
  where
    none : (b : Bool) (k : ℕ) → ¬ (b ≡ true) → k + cond b 1 0 ≡ k
    none true k apart = absurd (apart refl)
    none false k apart = omega arith

-- an erased row
pub HasExchanged-more : (erased : CellSet) (slot r row next : ℕ) (rows after : List ℕ) → r ≤ 32 → row < r → HasCell erased row slot
    → after ≡ swap rows row next → HasExchanged erased slot r row next rows → HasExchanged erased slot r (row + 1) (next + 1) after
HasExchanged-more erased slot r row next rows after small row_in is_erased swapped before = record {
  permutation = IsPermutation-trans (range_with_len 0 64) rows after before.permutation
      (IsPermutation-swap rows after row next (omega (arith, long)) (omega (arith, long, before.few)) swapped);
  count = omega (arith, before.count, one_more);
  few = omega (arith, before.few);
  done = λ i below.
      elim (cases_eq i row) [
        | inl here ↦
            let is : slice_index after i ≡ next = ap (slice_index after) here ∙ at_row in
            inr (omega (arith, is, before.count), omega (arith, is))
        | inr earlier ↦
            let same : slice_index after i ≡ slice_index rows i = other i earlier (omega (arith, before.count)) in
            elim (before.done i (omega arith)) [
              | inl held ↦ inl (same ∙ held.0, held.1)
              | inr virtual ↦ inr (omega (arith, same, virtual.0), omega (arith, same, virtual.1))
            ]
      ];
  ahead = λ i from below. other i (λ e. omega arith) (λ e. omega (arith, before.count)) ∙ before.ahead i (omega arith) below;
  out = λ i from below.
      elim (cases_eq i next) [
        | inl here ↦ subst (λ (t : ℕ). HasCell erased t slot) (sym (ap (slice_index after) here ∙ at_next)) is_erased
        | inr earlier ↦
            subst (λ (t : ℕ). HasCell erased t slot) (sym (other i (λ e. omega arith) earlier)) (before.out i from (omega arith))
      ];
  rest = λ i from below. other i (λ e. omega (arith, before.count)) (λ e. omega arith) ∙ before.rest i (omega arith) below;
}
  where
    long : length rows ≡ 64
    long = length_permutation (range_with_len 0 64) rows before.permutation ∙ length-range_with_len 0 64

    moved : Swapped (λ i. slice_index rows i) (λ i. slice_index after i) row next
    moved = swapped_from_swap rows after row next 0 (omega (arith, long)) (omega (arith, long, before.few)) swapped

    at_row : slice_index after row ≡ next
    at_row = moved.0 ∙ before.rest next (omega arith) (omega (arith, before.few))

    at_next : slice_index after next ≡ row
    at_next = moved.1 ∙ before.ahead row (omega arith) row_in

    other : (i : ℕ) → (i ≡ row → ⊥) → (i ≡ next → ⊥) → slice_index after i ≡ slice_index rows i
    other = moved.2

    one_more : erased_before erased slot (row + 1) ≡ erased_before erased slot row + 1
    one_more =
        ap (λ (n : ℕ). erased_before erased slot n) (add-one row) ∙ sum_below_more row (λ i. cond (has_cell erased i slot) 1 0)
        ∙ ap (λ (b : Bool). erased_before erased slot row + cond b 1 0) is_erased

-- all rows
pub AreRowsByNeed-all : (erased : CellSet) (slot r row next : ℕ) (rows : List ℕ) → r ≤ 32 → row ≡ r
    → ((i : ℕ) → HasCell erased i slot → i < r) → HasExchanged erased slot r row next rows → AreRowsByNeed erased slot r rows
AreRowsByNeed-all erased slot r row next rows small all inside before = record {
  permutation = before.permutation;
  known = λ i below.
      elim (before.done i (omega arith)) [
        | inl held ↦ inl (omega (arith, held.0), λ has. held.1 (subst (λ (t : ℕ). HasCell erased t slot) held.0 has))
        | inr virtual ↦ inr (virtual.0, omega (arith, virtual.1, end))
      ];
  wanted = λ i from below. before.out i from (omega (arith, end));
  rest = λ i from below. before.rest i (omega (arith, end)) below;
}
  where
    counted : count_in_slot erased slot ≡ erased_before erased slot row
    counted =
        sum_below_tail row 32 (λ i. cond (has_cell erased i slot) 1 0) (omega arith)
        (λ i from to. unmarked (has_cell erased i slot) (λ has. omega (arith, inside i has)))

    end : next ≡ r + count_in_slot erased slot
    end = omega (arith, before.count, counted)
