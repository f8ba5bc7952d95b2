-- The rest of some cells: those that lie in a row with more than m of them; and the laws of coverage, which the rest decides.
use Rattle.std.proofs.Common.{◌≡◌, ℕ, ◌<◌, ◌≤◌, Bool, true, false, cond, List, map, slice_index_or, refl, sym, ap, ◌∙◌, inl, inr, arith}
use Rattle.std.specs.Prelude.{◌↔◌, nat_lt}
use Rattle.std.proofs.Math.ListN.{get_or-map}
use Rattle.std.proofs.lemmas.Bool.{false≢true, cases_lt, cond-true, cond-false, cond_both, lt-ltb, le-ltb}
use Rattle.std.proofs.lemmas.List.{length-map, length-replicate}
use Rattle.std.proofs.lemmas.List.Elements.{All-map, All-weaker}
use Rattle.stair_model.specs.Geometry.{Geometry}
use Rattle.stair_model.specs.Slots.{Slots, has_slot, slot_count, no_slots, IsSlotSet}
use Rattle.stair_model.specs.CellSet.{CellSet, has_cell, HasCell, count_in_row, IsCellSet, IsInStripe}
use Rattle.stair_model.specs.Coverage.{AreSortedCounts, AreWithinCoverage, HasCoveredChunks, IsCovered, rest, rest_of_row}
use Rattle.stair_model.proofs.CoverageLaws.{covered_none, covered_subset, covered_each}
use Rattle.stair_model.proofs.SetLaws.{has_slot-none, slot_count-subset}

-- a row of the rest
abbrev rest_row : Geometry → CellSet → ℕ → Slots
rest_row g cells i = rest_of_row g (slice_index_or cells.rows i no_slots)

same_both : {A : Type 0} (b : Bool) (x : A) → cond b x x ≡ x
same_both true x = refl
same_both false x = refl

row_of_rest : (g : Geometry) (cells : CellSet) (i : ℕ) → slice_index_or (rest g cells).rows i no_slots ≡ rest_row g cells i
unfolding rest
row_of_rest g cells i =
    ap (slice_index_or (map (rest_of_row g) cells.rows) i) (sym (same_both (nat_lt g.m (slot_count no_slots)) no_slots))
    ∙ get_or-map (rest_of_row g) cells.rows i no_slots

-- a row with more than m cells stays, and of each other row none is left
pub row_stays : (g : Geometry) (cells : CellSet) (i j : ℕ) → g.m < count_in_row cells i → has_cell (rest g cells) i j ≡ has_cell cells i j
row_stays g cells i j many =
    ap (λ (row : Slots). has_slot row j)
    (row_of_rest g cells i ∙ cond-true (nat_lt g.m (count_in_row cells i)) _ _ (lt-ltb g.m (count_in_row cells i) many))

pub row_goes : (g : Geometry) (cells : CellSet) (i j : ℕ) → count_in_row cells i ≤ g.m → has_cell (rest g cells) i j ≡ has_slot no_slots j
row_goes g cells i j few =
    ap (λ (row : Slots). has_slot row j)
    (row_of_rest g cells i ∙ cond-false (nat_lt g.m (count_in_row cells i)) _ _ (le-ltb g.m (count_in_row cells i) few))

-- a cell is left where its row has more than m cells
pub in_rest : (g : Geometry) (cells : CellSet) (i j : ℕ) → HasCell (rest g cells) i j ↔ (HasCell cells i j × (g.m < count_in_row cells i))
in_rest g cells i j = (
  λ has.
      elim (cases_lt g.m (count_in_row cells i)) [
        | inl many ↦ (sym (row_stays g cells i j many) ∙ has, many)
        | inr few ↦ absurd (false≢true (sym (row_goes g cells i j few ∙ has_slot-none j) ∙ has))
      ],
  λ left. row_stays g cells i j left.1 ∙ left.0,
)

pub rest_within : (g : Geometry) (cells : CellSet) (i j : ℕ) → HasCell (rest g cells) i j → HasCell cells i j
rest_within g cells i j has = ((in_rest g cells i j).0 has).0

pub rest_inside : (g : Geometry) (cells : CellSet) → IsInStripe g cells → IsInStripe g (rest g cells)
rest_inside g cells inside i j has = inside i j (rest_within g cells i j has)

-- of fewer cells no more are left
pub rest_monotone : (g : Geometry) (fewer more : CellSet) → ((i j : ℕ) → HasCell fewer i j → HasCell more i j)
    → (i j : ℕ) → HasCell (rest g fewer) i j → HasCell (rest g more) i j
rest_monotone g fewer more subset i j has =
    let left = (in_rest g fewer i j).0 has in
    (in_rest g more i j).1 (
      subset i j left.0,
      omega (arith, left.1, slot_count-subset (slice_index_or fewer.rows i no_slots) (slice_index_or more.rows i no_slots) (subset i)),
    )

rest_of_row-IsSlotSet : (g : Geometry) (row : Slots) → IsSlotSet row → IsSlotSet (rest_of_row g row)
rest_of_row-IsSlotSet g row of =
    cond_both (nat_lt g.m (slot_count row)) row no_slots IsSlotSet (λ many. of) (λ few. length-replicate 32 false)

pub IsCellSet-rest : (g : Geometry) (cells : CellSet) → IsCellSet cells → IsCellSet (rest g cells)
unfolding rest
IsCellSet-rest g cells of = record {
  count = length-map cells.rows (rest_of_row g) ∙ of.count;
  slots = All-map IsSlotSet (rest_of_row g) cells.rows
      (All-weaker IsSlotSet (λ row. IsSlotSet (rest_of_row g row)) (rest_of_row-IsSlotSet g) cells.rows of.slots);
}

-- ---- coverage

-- whole chunks and further ones are covered, since no more of them is left
pub covered_by_chunks : (g : Geometry) (erased : CellSet) → HasCoveredChunks g erased → IsCovered g erased
covered_by_chunks g erased = covered_subset g (rest g erased) erased (rest_within g erased)

pub subset_covered : (g : Geometry) (fewer erased : CellSet) → ((i j : ℕ) → HasCell fewer i j → HasCell erased i j)
    → IsCovered g erased → IsCovered g fewer
subset_covered g fewer erased subset = covered_subset g (rest g fewer) (rest g erased) (rest_monotone g fewer erased subset)

pub each_list_tells : (g : Geometry) (erased : CellSet)
    → IsCovered g erased ↔ ((c : List ℕ) → AreSortedCounts g (rest g erased) c → AreWithinCoverage g c)
each_list_tells g erased = covered_each g (rest g erased)

-- where no row has more than m cells, none is left
pub rows_covered : (g : Geometry) (erased : CellSet) → ((i : ℕ) → count_in_row erased i ≤ g.m) → IsCovered g erased
rows_covered g erased few =
    covered_none g (rest g erased) (λ i j has. omega (arith, ((in_rest g erased i j).0 has).1, few i))
