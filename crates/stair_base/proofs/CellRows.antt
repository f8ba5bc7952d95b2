-- Sets of cells that grow cell by cell and row by row, and the cells of two sets.
use Rattle.std.proofs.Common.{◌≡◌, ℕ, ◌+◌, ◌<◌, List, slice_index_or, slice_set, inl, inr, subst, ◌∙◌, sym, arith}
use Rattle.std.specs.Prelude.{◌⊎◌, ◌↔◌}
use Rattle.std.proofs.lemmas.Bool.{cases_eq}
use Rattle.std.proofs.lemmas.List.{get_or-set_other, get_or-set_same, length-set}
use Rattle.std.proofs.lemmas.List.Elements.{All-set}
use Rattle.stair_model.specs.CellSet.{CellSet, HasCell, IsCellSet}
use Rattle.stair_model.specs.Slots.{HasSlot, IsSlotSet, Slots, no_slots}

-- ROWS

-- the cells of this row in the slots before this one were added
pub record AddsRow (row slot : ℕ) (old new : CellSet) : Type 0 where
  pub members : (i j : ℕ) → HasCell new i j ↔ (HasCell old i j ⊎ ((i ≡ row) × (j < slot)))
  pub formed : IsCellSet new

pub adds_none : (row : ℕ) (cells : CellSet) → IsCellSet cells → AddsRow row 0 cells cells
adds_none row cells formed = record {
  members = λ i j. (λ has. inl has, λ either. elim either [ inl has ↦ has | inr none ↦ absurd (omega (arith, none.1)) ]);
  formed = formed;
}

pub adds_more : (row slot : ℕ) (old mid new : CellSet) → AddsRow row slot old mid
    → ((i j : ℕ) → HasCell new i j ↔ (HasCell mid i j ⊎ ((i ≡ row) × (j ≡ slot)))) → IsCellSet new → AddsRow row (slot + 1) old new
adds_more row slot old mid new so_far added formed = record { members = λ i j. (into i j, from i j); formed = formed }
  where
    into : (i j : ℕ) → HasCell new i j → HasCell old i j ⊎ ((i ≡ row) × (j < slot + 1))
    into i j has =
        elim ((added i j).0 has) [
          | inl had ↦ elim ((so_far.members i j).0 had) [ inl was ↦ inl was | inr in_row ↦ inr (in_row.0, omega (arith, in_row.1)) ]
          | inr here ↦ inr (here.0, omega (arith, here.1))
        ]

    from : (i j : ℕ) → HasCell old i j ⊎ ((i ≡ row) × (j < slot + 1)) → HasCell new i j
    from i j (inl was) = (added i j).1 (inl ((so_far.members i j).1 (inl was)))
    from i j (inr in_row) =
        elim (cases_eq j slot) [
          | inl here ↦ (added i j).1 (inr (in_row.0, here))
          | inr other ↦ (added i j).1 (inl ((so_far.members i j).1 (inr (in_row.0, omega (arith, in_row.1, other)))))
        ]

-- EVERY CELL

-- the cells of the rows before this one
pub record HasRows (n row : ℕ) (cells : CellSet) : Type 0 where
  pub members : (i j : ℕ) → HasCell cells i j ↔ ((i < row) × (j < n))
  pub formed : IsCellSet cells

pub rows_none : (n : ℕ) (cells : CellSet) → ((i j : ℕ) → ¬ HasCell cells i j) → IsCellSet cells → HasRows n 0 cells
rows_none n cells none formed =
    record { members = λ i j. (λ has. absurd (none i j has), λ both. absurd (omega (arith, both.0))); formed = formed }

pub rows_more : (n row : ℕ) (old new : CellSet) → HasRows n row old → AddsRow row n old new → HasRows n (row + 1) new
rows_more n row old new so_far added = record { members = λ i j. (into i j, from i j); formed = added.formed }
  where
    into : (i j : ℕ) → HasCell new i j → (i < row + 1) × (j < n)
    into i j has =
        elim ((added.members i j).0 has) [
          | inl had ↦ let was = (so_far.members i j).0 had in (omega (arith, was.0), was.1)
          | inr here ↦ (omega (arith, here.0), here.1)
        ]

    from : (i j : ℕ) → (i < row + 1) × (j < n) → HasCell new i j
    from i j both =
        elim (cases_eq i row) [
          | inl here ↦ (added.members i j).1 (inr (here, both.1))
          | inr other ↦ (added.members i j).1 (inl ((so_far.members i j).1 (omega (arith, both.0, other), both.1)))
        ]

-- TWO SETS

-- the cells of another set in the rows before this one were added to those of a set
pub record HasUnited (one other : CellSet) (row : ℕ) (rows : List Slots) : Type 0 where
  pub formed : IsCellSet (record { rows = rows })
  pub members : (i j : ℕ) → HasCell (record { rows = rows }) i j ↔ (HasCell one i j ⊎ ((i < row) × HasCell other i j))

pub united_none : (one other : CellSet) → IsCellSet one → HasUnited one other 0 one.rows
united_none one other formed = record {
  formed = formed;
  members = λ i j. (λ has. inl has, λ either. elim either [ inl has ↦ has | inr none ↦ absurd (omega (arith, none.0)) ]);
}

pub united_more : (one other : CellSet) (row : ℕ) (rows : List Slots) (both : Slots) → HasUnited one other row rows → row < 32 → IsSlotSet both
    → ((j : ℕ) → HasSlot both j ↔ (HasSlot (slice_index_or rows row no_slots) j ⊎ HasSlot (slice_index_or other.rows row no_slots) j))
    → HasUnited one other (row + 1) (slice_set rows row both)
united_more one other row rows both so_far below formed united = record {
  formed = record {
    count = length-set rows row both ∙ so_far.formed.count;
    slots = All-set IsSlotSet rows row both formed so_far.formed.slots;
  };
  members = λ i j. elim (cases_eq i row) [ inl here ↦ (into_here i j here, from_here i j here) | inr other_row ↦ (into_other i j other_row, from_other i j other_row) ];
}
  where
    set : CellSet
    set = record { rows = slice_set rows row both }

    at_row : slice_index_or (slice_set rows row both) row no_slots ≡ both
    at_row = get_or-set_same rows row both no_slots (omega (arith, below, so_far.formed.count))

    at_other : (i : ℕ) → ¬ (i ≡ row) → slice_index_or (slice_set rows row both) i no_slots ≡ slice_index_or rows i no_slots
    at_other i apart = get_or-set_other rows row i both no_slots apart

    into_here : (i j : ℕ) → i ≡ row → HasCell set i j → HasCell one i j ⊎ ((i < row + 1) × HasCell other i j)
    into_here i j here has =
        let in_both : HasSlot both j = subst (λ (s : Slots). HasSlot s j) at_row (subst (λ (k : ℕ). HasCell set k j) here has) in
        subst (λ (k : ℕ). HasCell one k j ⊎ ((k < row + 1) × HasCell other k j)) (sym here)
        (elim ((united j).0 in_both) [
          | inl had ↦ elim ((so_far.members row j).0 had) [ inl was ↦ inl was | inr never ↦ absurd (omega (arith, never.0)) ]
          | inr of_other ↦ inr (omega arith, of_other)
        ])

    from_here : (i j : ℕ) → i ≡ row → HasCell one i j ⊎ ((i < row + 1) × HasCell other i j) → HasCell set i j
    from_here i j here either =
        subst (λ (k : ℕ). HasCell set k j) (sym here)
        (subst (λ (s : Slots). HasSlot s j) (sym at_row)
        ((united j).1
        (elim (subst (λ (k : ℕ). HasCell one k j ⊎ ((k < row + 1) × HasCell other k j)) here either) [
          | inl was ↦ inl ((so_far.members row j).1 (inl was))
          | inr of_other ↦ inr of_other.1
        ])))

    into_other : (i j : ℕ) → ¬ (i ≡ row) → HasCell set i j → HasCell one i j ⊎ ((i < row + 1) × HasCell other i j)
    into_other i j apart has =
        elim ((so_far.members i j).0 (subst (λ (s : Slots). HasSlot s j) (at_other i apart) has)) [
          | inl was ↦ inl was
          | inr sooner ↦ inr (omega (arith, sooner.0), sooner.1)
        ]

    from_other : (i j : ℕ) → ¬ (i ≡ row) → HasCell one i j ⊎ ((i < row + 1) × HasCell other i j) → HasCell set i j
    from_other i j apart either =
        subst (λ (s : Slots). HasSlot s j) (sym (at_other i apart))
        ((so_far.members i j).1
        (elim either [ inl was ↦ inl was | inr of_other ↦ inr (omega (arith, of_other.0, apart), of_other.1) ]))
