-- The cells that are no data: how many each chunk has, that they are covered, and what they cost.
use Rattle.std.proofs.Common.{◌≡◌, ℕ, ◌+◌, ◌-◌, ◌*◌, ◌<◌, ◌≤◌, ◌↔◌, List, slice_index, nat_lt, if◌then◌else◌, inl, inr, refl, ap, ap₂, ◌∙◌, arith}
use Rattle.std.proofs.lemmas.Bool.{cases_lt, lt-ltb, le-ltb, cond-true, cond-false}
use Rattle.std.specs.Prelude.{IsTrue}
use Rattle.stair_model.specs.Sum.{sum_below}
use Rattle.stair_model.specs.Geometry.{Geometry, IsWithinLimits, classes, coverage, data_chunks, global_cells, greatest_coverage}
use Rattle.stair_model.specs.Cell.{Data, is_parity, cell_at}
use Rattle.stair_model.specs.CellSet.{CellSet, has_cell, HasCell, IsInStripe, count_in_slot, cell_count}
use Rattle.stair_model.specs.Costs.{upstairs_cost}
use Rattle.stair_model.specs.Coverage.{AreSortedCounts, AreWithinCoverage, HasCoveredChunks}
use Rattle.stair_model.proofs.CellLaws.{parity_is_no_data, no_data_is_parity, coverage_le}
use Rattle.stair_model.proofs.DataLaws.{data_cell_tells}
use Rattle.stair_model.proofs.EncodingLaws.{above_is_data, data_is_above as above_globals}
use Rattle.stair_model.proofs.CountLaws.{sum_below_none, sum_below_same, sum_below_zeros, sum_below_tail, sum_below_constant, sum_below_marks, sum_below_list}
use Rattle.stair_model.proofs.CoverageLaws.{chunks_above, covered_from_counts, AreCountsInOrder-sorted}
use Rattle.stair_model.proofs.KnownSymbolLaws.{globals_of, globals_of_first, globals_of_last, globals_of_le}
use Rattle.stair_model.proofs.SetLaws.{mark_small, unmarked}
use Rattle.stair_model.proofs.SortedLaws.{mark, mark_above, mark_not_above, count_above, count_above-le}
use Rattle.stair_up.proofs.Costs.{one_if, sum_below_last, cell_count_is}

-- how many cells of chunk j are no data: the bottom ones
pub parities_of : Geometry → ℕ → ℕ
parities_of g j = if nat_lt j (data_chunks g) then globals_of g j else g.r

pub parities_of_data : (g : Geometry) (j : ℕ) → j < data_chunks g → parities_of g j ≡ globals_of g j
unfolding parities_of
parities_of_data g j below = cond-true _ _ _ (lt-ltb j (data_chunks g) below)

pub parities_of_parity : (g : Geometry) (j : ℕ) → data_chunks g ≤ j → parities_of g j ≡ g.r
unfolding parities_of
parities_of_parity g j from = cond-false _ _ _ (le-ltb j (data_chunks g) from)

parities_of_le : (g : Geometry) → IsWithinLimits g → (j : ℕ) → parities_of g j ≤ g.r
parities_of_le g limits j =
    elim (cases_lt j (data_chunks g)) [
      | inl data_chunk ↦ omega (arith, parities_of_data g j data_chunk, (globals_of_le g limits j).0)
      | inr parity ↦ omega (arith, parities_of_parity g j parity)
    ]

-- a cell above these is data
pub data_above : (g : Geometry) (i j : ℕ) → i < g.r - parities_of g j → (d : ℕ) × (cell_at g i j ≡ Data d)
data_above g i j above =
    elim (cases_lt j (data_chunks g)) [
      | inl data_chunk ↦ (_, above_is_data g i j data_chunk (omega (arith, parities_of_data g j data_chunk)))
      | inr parity ↦ absurd (omega (arith, parities_of_parity g j parity))
    ]

-- and no other
pub data_is_above : (g : Geometry) (i j d : ℕ) → i < g.r → cell_at g i j ≡ Data d → (j < data_chunks g) × (i < g.r - parities_of g j)
data_is_above g i j d row is =
    let below : j < data_chunks g = (data_cell_tells g i j d is).in_chunk in
    (below, omega (arith, parities_of_data g j below, above_globals g i j d row is))

-- the set of these cells
module _ (g : Geometry) (cells : CellSet) (limits : IsWithinLimits g) (inside : IsInStripe g cells)
    (members : (i j : ℕ) → i < g.r → j < g.n → HasCell cells i j ↔ IsTrue (is_parity (cell_at g i j))) where
  -- a chunk's rows from the first of them on
  counted : (j : ℕ) → j < g.n → count_in_slot cells j ≡ parities_of g j
  counted j chunk =
      let k = parities_of g j in
      let f : ℕ → ℕ = λ i. one_if (has_cell cells i j) in
      let within : k ≤ g.r = parities_of_le g limits j in
      let all : count_in_slot cells j ≡ sum_below g.r f =
      sum_below_tail g.r 32 f limits.rows.1
      (λ i from to. unmarked (has_cell cells i j) (λ has. let place = inside i j has in omega (arith, place.0))) in
      let top : sum_below (g.r - k) f ≡ 0 =
      sum_below_zeros (g.r - k) f
      (λ i above. unmarked (has_cell cells i j)
      (λ has. let is_data = data_above g i j above in
      parity_is_no_data (cell_at g i j) is_data.0 ((members i j (omega arith) chunk).0 has) is_data.1)) in
      let bottom : sum_below k (λ t. f (g.r - 1 - t)) ≡ k * 1 =
      sum_below_same k (λ t. f (g.r - 1 - t)) (λ t. 1)
      (λ t below.
      ap one_if ((members (g.r - 1 - t) j (omega arith) chunk).1
      (no_data_is_parity (cell_at g (g.r - 1 - t) j)
      (λ d is_data. let above = (data_is_above g (g.r - 1 - t) j d (omega arith) is_data).1 in omega (arith, above)))))
      ∙ sum_below_constant k 1 in
      omega (arith, all, sum_below_last g.r k f within, top, bottom)

  -- the first chunks have none, or fewer than a class
  few_before : (k j : ℕ) → k < classes g → j < g.n - (g.m + k) → count_in_slot cells j ≤ coverage g (classes g - 1 - k)
  few_before k j k_in before =
      let data_chunk : j < data_chunks g = omega arith in
      let count : count_in_slot cells j ≡ globals_of g j = counted j (omega arith) ∙ parities_of_data g j data_chunk in
      elim (cases_lt j (data_chunks g - classes g)) [
        | inl first ↦ omega (arith, count, globals_of_first g j first)
        | inr from ↦
            let rising = limits.covered_sectors.1 (j - (data_chunks g - classes g)) (classes g - 1 - k) 0 (omega arith) (omega arith) in
            omega (arith, count, globals_of_last g j from, rising)
      ]

  none_before : (j : ℕ) → j < g.n - (g.m + classes g) → count_in_slot cells j ≡ 0
  none_before j before =
      counted j (omega arith) ∙ parities_of_data g j (omega arith) ∙ globals_of_first g j (omega arith)

  -- where the first chunks are not above x, at most the others are
  at_most : (x k : ℕ) → k ≤ g.n → ((j : ℕ) → j < g.n - k → count_in_slot cells j ≤ x) → chunks_above cells g.n x ≤ k
  at_most x k within low =
      let f : ℕ → ℕ = λ j. mark x (count_in_slot cells j) in
      let first : sum_below (g.n - k) f ≡ 0 = sum_below_zeros (g.n - k) f (λ j below. mark_not_above x (count_in_slot cells j) (low j below)) in
      let last : sum_below k (λ t. f (g.n - 1 - t)) ≤ k =
      sum_below_marks k (λ t. f (g.n - 1 - t)) (λ t below. mark_small (nat_lt x (count_in_slot cells (g.n - 1 - t)))) in
      omega (arith, sum_below_last g.n k f within, first, last)

  pub parities_covered : HasCoveredChunks g cells
  parities_covered =
      covered_from_counts g cells
      (record {
        few = λ k below. at_most (coverage g (classes g - 1 - k)) (g.m + k) (omega (arith, limits.covered_chunks.1, limits.majority)) (λ j before. few_before k j below before);
        none = at_most 0 (g.m + classes g) (omega (arith, limits.covered_chunks.1, limits.majority)) (λ j before. omega (arith, none_before j before));
      })

  -- the m+1 chunks of row parity and of the last class have as many as the last class covers at least
  many_last : (t : ℕ) → t < g.m + 1 → greatest_coverage g ≤ count_in_slot cells (g.n - 1 - t)
  many_last t below =
      let j : ℕ = g.n - 1 - t in
      let last : greatest_coverage g ≤ g.r = (coverage_le g limits (classes g - 1) (omega (arith, limits.covered_chunks.0))).1 in
      let chunk : j < g.n = omega (arith, limits.majority) in
      elim (cases_lt j (data_chunks g)) [
        | inl data_chunk ↦
            let class : j - (data_chunks g - classes g) ≡ classes g - 1 = omega (arith, limits.covered_chunks.0, limits.covered_chunks.1, limits.majority) in
            omega (
              arith,
              counted j chunk,
              parities_of_data g j data_chunk,
              globals_of_last g j (omega (arith, limits.covered_chunks.0, limits.covered_chunks.1, limits.majority)),
              ap (coverage g) class,
            )
        | inr parity ↦ omega (arith, counted j chunk, parities_of_parity g j parity, last)
      ]

  -- so the m+1st count of the falling ones is what the last class covers
  pub height_is : (c : List ℕ) → AreSortedCounts g cells c → AreWithinCoverage g c → slice_index c g.m ≡ greatest_coverage g
  height_is c sorted within =
      let start : g.m + 0 ≡ g.m = omega arith in
      let last : coverage g (classes g - 1 - 0) ≡ greatest_coverage g = ap (coverage g) (omega arith) in
      let some : 1 ≤ greatest_coverage g = (coverage_le g limits (classes g - 1) (omega (arith, limits.covered_chunks.0))).0 in
      let most : slice_index c (g.m + 0) ≤ coverage g (classes g - 1 - 0) =
      within.partial_chunks 0 (omega (arith, limits.covered_chunks.0)) (omega (arith, limits.majority)) in
      elim (cases_lt (slice_index c g.m) (greatest_coverage g)) [
        | inl less ↦
            let x : ℕ = greatest_coverage g - 1 in
            let f : ℕ → ℕ = λ j. mark x (count_in_slot cells j) in
            let many : sum_below (g.m + 1) (λ t. f (g.n - 1 - t)) ≡ (g.m + 1) * 1 =
            sum_below_same (g.m + 1) (λ t. f (g.n - 1 - t)) (λ t. 1)
            (λ t below. mark_above x (count_in_slot cells (g.n - 1 - t)) (omega (arith, many_last t below)))
            ∙ sum_below_constant (g.m + 1) 1 in
            let above : count_above x c ≤ g.m = count_above-le x c sorted.falling g.m (omega arith) in
            absurd (omega (arith, (AreCountsInOrder-sorted g cells c sorted).counts x, sum_below_last g.n (g.m + 1) f (omega (arith, limits.majority)), many, above))
        | inr enough ↦ omega (arith, ap (slice_index c) start, last, most, enough)
      ]

  -- they are m row parities a row, and the global parities
  pub parity_count : cell_count cells ≡ g.m * g.r + global_cells g
  parity_count =
      let f : ℕ → ℕ = count_in_slot cells in
      let d : ℕ = data_chunks g in
      let e : ℕ = classes g in
      let rest : g.n - g.m ≡ d = refl in
      let parities : sum_below g.m (λ t. f (g.n - 1 - t)) ≡ g.m * g.r =
      sum_below_same g.m (λ t. f (g.n - 1 - t)) (λ t. g.r)
      (λ t below. counted (g.n - 1 - t) (omega arith) ∙ parities_of_parity g (g.n - 1 - t) (omega arith)) ∙ sum_below_constant g.m g.r in
      let globals : sum_below e (λ t. f (d - 1 - t)) ≡ sum_below e (λ t. coverage g (e - 1 - t)) =
      sum_below_same e (λ t. f (d - 1 - t)) (λ t. coverage g (e - 1 - t))
      (λ t below.
      let class : d - 1 - t - (d - e) ≡ e - 1 - t = omega (arith, limits.covered_chunks.1) in
      counted (d - 1 - t) (omega (arith, limits.majority)) ∙ parities_of_data g (d - 1 - t) (omega (arith, limits.covered_chunks.1))
      ∙ globals_of_last g (d - 1 - t) (omega (arith, limits.covered_chunks.1)) ∙ ap (coverage g) class) in
      let none : sum_below (d - e) f ≡ 0 =
      sum_below_zeros (d - e) f
      (λ j below. counted j (omega arith) ∙ parities_of_data g j (omega arith) ∙ globals_of_first g j below) in
      let turned = sum_below_last e e (coverage g) (omega arith) in
      let empty : e - e ≡ 0 = omega arith in
      let start : sum_below (e - e) (coverage g) ≡ 0 = ap (λ (k : ℕ). sum_below k (coverage g)) empty ∙ sum_below_none (coverage g) in
      let whole : sum_below e (coverage g) ≡ global_cells g = sum_below_list g.e in
      let data_part = sum_below_last d e f limits.covered_chunks.1 in
      let all = sum_below_last g.n g.m f (omega (arith, limits.majority)) in
      cell_count_is g cells limits inside
      ∙ put_together (sum_below g.n f) (sum_below (g.n - g.m) f) (sum_below g.m (λ t. f (g.n - 1 - t))) (g.m * g.r)
      (sum_below (d - e) f) (sum_below e (λ t. f (d - 1 - t))) (sum_below e (λ t. coverage g (e - 1 - t))) (sum_below (e - e) (coverage g))
      (sum_below e (coverage g)) (global_cells g) all parities data_part none globals turned start whole
    where
      put_together : (all data_sum parity_sum mr first last turned start whole s : ℕ) → data_sum + parity_sum ≡ all → parity_sum ≡ mr
          → first + last ≡ data_sum → first ≡ 0 → last ≡ turned → start + turned ≡ whole → start ≡ 0 → whole ≡ s → all ≡ mr + s
      put_together all data_sum parity_sum mr first last turned start whole s p1 p2 p3 p4 p5 p6 p7 p8 = omega arith

-- the cost in the words of the encoder
pub upstairs_cost_is : (g : Geometry) (height count : ℕ) → height ≡ greatest_coverage g → count ≡ g.m * g.r + global_cells g
    → data_chunks g * (g.r * height + count) ≡ upstairs_cost g
upstairs_cost_is g height count is_height is_count =
    ap₂ (λ (h k : ℕ). data_chunks g * (g.r * h + k)) is_height is_count
    ∙ both (data_chunks g) g.r (greatest_coverage g) (g.m * g.r + global_cells g)
  where
    both : (d r e k : ℕ) → d * (r * e + k) ≡ d * k + r * d * e
    both d r e k = omega arith
