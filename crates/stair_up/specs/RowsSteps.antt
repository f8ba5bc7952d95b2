-- The rows of a canonical stripe in the order in which a chunk is solved.
use Rattle.std.specs.Prelude.{◌≡◌, ℕ, ◌+◌, ◌<◌, ◌≤◌, ◌⊎◌, List, slice_index}
use Rattle.std.specs.List.{range_with_len}
use Rattle.std.specs.List.Sorted.{IsPermutation}
use Rattle.stair_model.specs.CellSet.{CellSet, HasCell, count_in_slot}

-- each of the first r rows is held, or one of the first virtual rows, of which there are as many as rows are erased; these
-- stand after, and then the other virtual rows
pub record AreRowsByNeed (erased : CellSet) (slot r : ℕ) (rows : List ℕ) : Type 0 where
  pub permutation : IsPermutation (range_with_len 0 64) rows
  pub known :
      (i : ℕ) → i < r →
      ((slice_index rows i < r) × (¬ HasCell erased (slice_index rows i) slot)) ⊎
      ((r ≤ slice_index rows i) × (slice_index rows i < r + count_in_slot erased slot))
  pub wanted : (i : ℕ) → r ≤ i → i < r + count_in_slot erased slot →
      HasCell erased (slice_index rows i) slot
  pub rest : (i : ℕ) → r + count_in_slot erased slot ≤ i → i < 64 → slice_index rows i ≡ i
