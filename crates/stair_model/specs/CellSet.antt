-- A set of cells: row i and slot j, both below 32.
use Rattle.std.specs.Prelude.{◌≡◌, ℕ, ◌<◌, Bool, IsTrue, List, length, slice_index_or, All, if◌then◌else◌}
use Rattle.stair_model.specs.Sum.{sum_below}
use Rattle.stair_model.specs.Geometry.{Geometry}
use Rattle.stair_model.specs.Slots.{Slots, has_slot, no_slots, slot_count, IsSlotSet}

pub record CellSet : Type 0 where
  -- for each row, the slots of its cells in the set
  pub rows : List Slots

-- whether cell (i, j) is in the set
abbrev pub has_cell : CellSet → ℕ → ℕ → Bool
has_cell set i j = has_slot (slice_index_or set.rows i no_slots) j

-- cell (i, j) is in the set
abbrev pub HasCell : CellSet → ℕ → ℕ → Type 0
HasCell set i j = IsTrue (has_cell set i j)

-- how many cells of row i are in the set
abbrev pub count_in_row : CellSet → ℕ → ℕ
count_in_row set i = slot_count (slice_index_or set.rows i no_slots)

-- how many cells of slot j are in the set: its rows i with cell (i, j)
abbrev pub count_in_slot : CellSet → ℕ → ℕ
count_in_slot set j = sum_below 32 (λ i. if has_cell set i j then 1 else 0)

-- how many cells are in the set
abbrev pub cell_count : CellSet → ℕ
cell_count set = sum_below 32 (λ i. sum_below 32 (λ j. if has_cell set i j then 1 else 0))

-- each row below 32 has one set of slots, so that a set has one form only
pub record IsCellSet (set : CellSet) : Type 0 where
  pub count : length set.rows ≡ 32
  pub slots : All IsSlotSet set.rows

-- the cells of the set are cells of a stripe
abbrev pub IsInStripe : Geometry → CellSet → Type 0
IsInStripe g set = (i j : ℕ) → HasCell set i j → (i < g.r) × (j < g.n)
