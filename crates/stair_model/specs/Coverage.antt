-- Which erased cells of a stripe can be restored. A row with at most m of them is solved by its own parities, once. What is
-- left is restored as Li and Lee have it (STAIR Codes, FAST 2014): the cells of m whole chunks and, beside them, up to e_l
-- cells in a further chunk for each class l.
use Rattle.std.specs.Prelude.{◌≡◌, ℕ, ◌+◌, ◌-◌, ◌<◌, ◌≤◌, List, length, map, slice_index, All, Contains, nat_lt, if◌then◌else◌}
use Rattle.std.specs.List.{range_with_len}
use Rattle.std.specs.List.Sorted.{IsPermutation}
use Rattle.stair_model.specs.Geometry.{Geometry, classes, coverage}
use Rattle.stair_model.specs.Slots.{Slots, no_slots, slot_count}
use Rattle.stair_model.specs.CellSet.{CellSet, count_in_slot}

-- no number is above one before it
abbrev pub IsNonIncreasing : List ℕ → Type 0
IsNonIncreasing c = (p q : ℕ) → p ≤ q → q < length c → slice_index c q ≤ slice_index c p

-- how many cells are erased in each of the n chunks, in slot order
abbrev pub erased_counts : Geometry → CellSet → List ℕ
erased_counts g erased = map (count_in_slot erased) (range_with_len 0 g.n)

-- the chunks' counts, sorted downwards
pub record AreSortedCounts (g : Geometry) (erased : CellSet) (c : List ℕ) : Type 0 where
  pub permutation : IsPermutation (erased_counts g erased) c
  pub falling : IsNonIncreasing c

-- of falling counts the first m may be any; count m+k is within entry m'-1-k of the coverage vector, and later ones are 0
pub record AreWithinCoverage (g : Geometry) (c : List ℕ) : Type 0 where
  pub partial_chunks : (k : ℕ) → k < classes g → g.m + k < g.n →
      slice_index c (g.m + k) ≤ coverage g (classes g - 1 - k)
  pub intact_chunks : (p : ℕ) → g.m + classes g ≤ p → p < g.n → slice_index c p ≡ 0

-- the cells of m whole chunks and of further ones, each as many as its class covers: their sorted counts are within coverage
pub record HasCoveredChunks (g : Geometry) (cells : CellSet) : Type 0 where
  pub counts : List ℕ
  pub sorted : AreSortedCounts g cells counts
  pub within : AreWithinCoverage g counts

-- of the slots of a row, those that are left: all where there are more than m of them, and otherwise none
abbrev pub rest_of_row : Geometry → Slots → Slots
rest_of_row g slots = if nat_lt g.m (slot_count slots) then slots else no_slots

-- the rest: those of the cells that lie in a row with more than m of them
unfoldable pub rest : Geometry → CellSet → CellSet
rest g cells = record { rows = map (rest_of_row g) cells.rows }

-- the erased cells are covered: their rest is one of whole chunks and of further ones
abbrev pub IsCovered : Geometry → CellSet → Type 0
IsCovered g erased = HasCoveredChunks g (rest g erased)

-- an order of the n chunks in which the erased cells fall and are within coverage: chunk number p of it for p < m may be
-- erased whole, chunk m+k has at most e_{m'-1-k} erased cells, and later ones have none
pub record IsCoveredOrder (g : Geometry) (erased : CellSet) (order : List ℕ) : Type 0 where
  pub permutation : IsPermutation (range_with_len 0 g.n) order
  pub falling : IsNonIncreasing (map (count_in_slot erased) order)
  pub within : AreWithinCoverage g (map (count_in_slot erased) order)

-- each number below n stands at exactly one of the n places of the list
pub record HasEachOnce (n : ℕ) (order : List ℕ) : Type 0 where
  pub count : length order ≡ n
  pub below : All (λ j. j < n) order
  pub distinct : (p q : ℕ) → p < n → q < n → slice_index order p ≡ slice_index order q → p ≡ q
  pub reached : (j : ℕ) → j < n → Contains order j
