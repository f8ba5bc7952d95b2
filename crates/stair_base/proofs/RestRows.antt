-- The rows of a set, of which those before one were looked at: of a row with at most m cells none is left.
use Rattle.std.proofs.Common.{◌≡◌, ℕ, ◌+◌, ◌<◌, ◌≤◌, false, List, length, map, take, drop, ◌++◌, slice_index_or, slice_set, sym, ap, ap₂, ◌∙◌}
use Rattle.std.proofs.lemmas.Bool.{false≢true, cond-true, cond-false, lt-ltb, le-ltb}
use Rattle.std.proofs.lemmas.List.{set-get_or, length-replicate, take_all, drop_all, append-nil}
use Rattle.std.proofs.lemmas.List.Edits.{map_over_more}
use Rattle.stair_model.specs.Geometry.{Geometry}
use Rattle.stair_model.specs.Slots.{Slots, HasSlot, IsSlotSet, slot_count, no_slots}
use Rattle.stair_model.specs.CellSet.{CellSet}
use Rattle.stair_model.specs.Coverage.{rest, rest_of_row}
use Rattle.stair_model.proofs.SetLaws.{same_slots, has_slot-none}

abbrev pub AreLeftBefore : Geometry → List Slots → ℕ → List Slots → Type 0
AreLeftBefore g rows row left = left ≡ map (rest_of_row g) (take row rows) ++ drop row rows

module _ (g : Geometry) (rows left : List Slots) (row : ℕ) (slots : Slots) (row_in : row < length rows)
    (before : AreLeftBefore g rows row left) (is_row : slots ≡ slice_index_or left row slots) where
  pub row_left : g.m < slot_count slots → AreLeftBefore g rows (row + 1) left
  row_left many =
      let stays : rest_of_row g slots ≡ slots = cond-true _ slots no_slots (lt-ltb g.m (slot_count slots) many) in
      sym (ap (slice_set left row) (stays ∙ is_row) ∙ set-get_or left row slots)
      ∙ map_over_more (rest_of_row g) rows left row slots row_in before is_row

  pub row_emptied : (none : Slots) → slot_count slots ≤ g.m → IsSlotSet none → ((j : ℕ) → ¬ HasSlot none j)
      → AreLeftBefore g rows (row + 1) (slice_set left row none)
  row_emptied none few none_of empty =
      let goes : rest_of_row g slots ≡ no_slots = cond-false _ slots no_slots (le-ltb g.m (slot_count slots) few) in
      let is_none : none ≡ no_slots =
      same_slots none no_slots none_of (length-replicate 32 false)
      (λ j. (λ has. absurd (empty j has), λ has. absurd (false≢true (sym (has_slot-none j) ∙ has))))
      in
      ap (slice_set left row) (is_none ∙ sym goes)
      ∙ map_over_more (rest_of_row g) rows left row slots row_in before is_row

-- once all rows were looked at, they are those of the rest
pub rest_from_rows : (g : Geometry) (cells : CellSet) (rows : List Slots) (row : ℕ) → length cells.rows ≤ row
    → AreLeftBefore g cells.rows row rows → record { rows = rows } ≡ rest g cells
unfolding rest
rest_from_rows g cells rows row all left =
    ap (λ (them : List Slots). record { rows = them })
    (left ∙ ap₂ (λ (a b : List Slots). map (rest_of_row g) a ++ b) (take_all row cells.rows all) (drop_all row cells.rows all)
    ∙ append-nil _)
