-- The steps so far, and the erased cells of the chunks in another order.
use Rattle.std.proofs.Common.{◌≡◌, ℕ, zero, suc, ◌+◌, ◌-◌, ◌*◌, ◌<◌, ◌≤◌, Bool, cond, List, length, take, slice_index, sym, subst, ap, ◌∙◌, arith}
use Rattle.std.specs.List.{range_with_len}
use Rattle.std.proofs.lemmas.List.{get_or-take, length-take-le}
use Rattle.std.proofs.lemmas.List.FromFn.{length-map-range_with_len, length-range_with_len, get_or-range_with_len}
use Rattle.std.proofs.lemmas.List.Sorted.{sum_by-IsPermutation, length_permutation}
use Rattle.stair_model.specs.Sum.{sum_below}
use Rattle.stair_model.specs.Geometry.{Geometry, IsWithinLimits, data_chunks}
use Rattle.stair_model.specs.CellSet.{CellSet, has_cell, IsInStripe, count_in_slot, cell_count}
use Rattle.stair_model.specs.Coverage.{AreSortedCounts, erased_counts}
use Rattle.stair_model.proofs.CountLaws.{sum_below_none, sum_below_more, sum_below_same, sum_below_tail, sum_below_zeros, sum_below_by}
use Rattle.stair_model.proofs.GridLaws.{sum_below_exchange}
use Rattle.stair_model.proofs.SetLaws.{unmarked}
use Rattle.stair_model.proofs.CoverageLaws.{sorted_same}
use Rattle.stair_canon.specs.Order.{AreInOrder}
use Rattle.stair_up.specs.ErasedAlong.{erased_in_row, erased_in_last}
use Rattle.stair_canon.specs.declared.order.Order.{Order}
use Rattle.stair_canon.proofs.Columns.{sorted_counts, counts_of, counts_of_at}

-- ---- steps

-- no chunk yet
pub last_none : (steps chunk d sum left : ℕ) → sum ≡ 0 → steps ≡ steps + (0 * chunk + d * (sum + 0 * left))
last_none steps chunk d sum left none = rw none (omega arith)

-- virtual rows for one chunk more, and then the chunk
pub last_more : (old now mid new passed chunk d sum solved count left : ℕ) → now ≡ old + (passed * chunk + d * (sum + solved * (left + 1)))
    → mid ≡ now + d * (left + 1) * (count - solved) → new ≡ mid + chunk → solved ≤ count
    → new ≡ old + ((passed + 1) * chunk + d * (sum + count + count * left))
last_more old now mid new passed chunk d sum solved count left before rows last le = go old now mid new passed chunk d sum solved (count - solved) count left before rows last (omega arith)
  where
    go : (old now mid new passed chunk d sum solved more count left : ℕ) → now ≡ old + (passed * chunk + d * (sum + solved * (left + 1)))
        → mid ≡ now + d * (left + 1) * more → new ≡ mid + chunk → count ≡ solved + more
        → new ≡ old + ((passed + 1) * chunk + d * (sum + count + count * left))
    go old now mid new passed chunk d sum solved more count left before rows last is = rw is (omega (arith, before, rows, last))

-- all chunks
pub last_all : (old new passed d chunk sum solved left : ℕ) → new ≡ old + (passed * chunk + d * (sum + solved * left)) → passed ≡ d → left ≡ 0
    → new ≡ old + d * (chunk + sum)
last_all old new passed d chunk sum solved left before all none =
    let filled : new ≡ old + (d * chunk + d * (sum + solved * 0)) =
    subst (λ (k : ℕ). new ≡ old + (d * chunk + d * (sum + solved * k))) none
    (subst (λ (k : ℕ). new ≡ old + (k * chunk + d * (sum + solved * left))) all before) in
    omega (arith, filled)

-- cells of a row, one by one
pub cell_start : (steps d sum : ℕ) → sum ≡ 0 → steps ≡ steps + d * sum
cell_start steps d sum none = rw none (omega arith)

pub cell_none : (old now d sum next : ℕ) → now ≡ old + d * sum → next ≡ sum + 0 → now ≡ old + d * next
cell_none old now d sum next before is = rw is (omega (arith, before))

-- a stretch of erased cells, and a cell after it that isn't erased
pub stretch_counted : (f : ℕ → ℕ) (start k : ℕ) → ((p : ℕ) → start ≤ p → p < start + k → f p ≡ 1) → sum_below (start + k) f ≡ sum_below start f + k
stretch_counted f start zero ones =
    let none : start + 0 ≡ start = omega arith in
    let same : sum_below (start + 0) f ≡ sum_below start f = ap (λ n. sum_below n f) none in
    omega (arith, same)
stretch_counted f start (suc k) ones =
    let next : start + suc k ≡ suc (start + k) = omega arith in
    let same : sum_below (start + suc k) f ≡ sum_below (suc (start + k)) f = ap (λ n. sum_below n f) next in
    let last : f (start + k) ≡ 1 = ones (start + k) (omega arith) (omega arith) in
    let earlier : sum_below (start + k) f ≡ sum_below start f + k = stretch_counted f start k (λ p above below. ones p above (omega arith)) in
    let more : sum_below (suc (start + k)) f ≡ sum_below (start + k) f + f (start + k) = sum_below_more (start + k) f in
    omega (arith, same, last, earlier, more)

-- and between two places
pub stretch_between : (f : ℕ → ℕ) (from to : ℕ) → from ≤ to → ((p : ℕ) → from ≤ p → p < to → f p ≡ 1) → sum_below to f ≡ sum_below from f + (to - from)
stretch_between f from to rising ones =
    let end : from + (to - from) ≡ to = omega arith in
    sym (ap (λ n. sum_below n f) end) ∙ stretch_counted f from (to - from) (λ p above below. ones p above (omega arith))

-- and the steps for them; and for a row
pub row_more : (old now new d sum row next : ℕ) → now ≡ old + d * sum → new ≡ now + d * row → next ≡ sum + row → new ≡ old + d * next
row_more old now new d sum row next before step is = rw is (omega (arith, before, step))

-- all rows, after the last chunks
pub all_steps : (old mid new d chunk last rows total : ℕ) → mid ≡ old + d * (chunk + last) → new ≡ mid + d * rows → total ≡ rows + last
    → new ≡ old + d * (chunk + total)
all_steps old mid new d chunk last rows total first second is = rw is (omega (arith, first, second))

-- ---- sums

-- of a sum the last terms, from the end
pub sum_below_last : (n k : ℕ) (f : ℕ → ℕ) → k ≤ n → sum_below (n - k) f + sum_below k (λ t. f (n - 1 - t)) ≡ sum_below n f
sum_below_last n zero f within =
    let all : n - 0 ≡ n = omega arith in
    omega (arith, ap (λ (m : ℕ). sum_below m f) all, sum_below_none (λ t. f (n - 1 - t)))
sum_below_last n (suc k) f within =
    let before = sum_below_last n k f (omega arith) in
    let next : n - k ≡ suc (n - suc k) = omega arith in
    let place : n - 1 - k ≡ n - suc k = omega arith in
    omega (
      arith,
      before,
      ap (λ (m : ℕ). sum_below m f) next,
      sum_below_more (n - suc k) f,
      sum_below_more k (λ t. f (n - 1 - t)),
      ap f place,
    )

-- 1 where the test passes
abbrev pub one_if : Bool → ℕ
one_if b = cond b 1 0

-- ---- the erased cells, chunk by chunk in order

module _ (g : Geometry) (erased : CellSet) (limits : IsWithinLimits g) (inside : IsInStripe g erased) where
  slot_count_is : (j : ℕ) → count_in_slot erased j ≡ sum_below g.r (λ i. one_if (has_cell erased i j))
  slot_count_is j =
      sum_below_tail g.r 32 (λ i. one_if (has_cell erased i j)) limits.rows.1
      (λ i from to. unmarked (has_cell erased i j) (λ has. let place = inside i j has in omega (arith, place.0)))

  pub cell_count_is : cell_count erased ≡ sum_below g.n (count_in_slot erased)
  cell_count_is =
      sum_below_exchange 32 32 (λ i j. one_if (has_cell erased i j))
      ∙ sum_below_tail g.n 32 (count_in_slot erased) limits.devices.1
      (λ j from to.
      sum_below_zeros 32 (λ i. one_if (has_cell erased i j))
      (λ i below. unmarked (has_cell erased i j) (λ has. let place = inside i j has in omega (arith, place.1))))

module _ (g : Geometry) (order : Order) (limits : IsWithinLimits g) (inside : IsInStripe g order.erased)
    (in_order : AreInOrder g (count_in_slot order.erased) order.columns) where
  count : ℕ → ℕ
  count p = count_in_slot order.erased (slice_index order.columns p)

  long : g.n ≤ length order.columns
  long = omega (arith, in_order.long, limits.devices.1)

  -- the chunks in slot order, and in this order
  moved : sum_below g.n (count_in_slot order.erased) ≡ sum_below g.n count
  unfolding count
  moved =
      let xs = range_with_len 0 g.n in
      let ys = take g.n order.columns in
      let xs_long : length xs ≡ g.n = length-range_with_len 0 g.n in
      let ys_long : length ys ≡ g.n = length-take-le g.n order.columns long in
      sum_below_same g.n (count_in_slot order.erased) (λ k. count_in_slot order.erased (slice_index xs k))
      (λ k below. ap (count_in_slot order.erased) (omega (arith, get_or-range_with_len 0 g.n k 0 below)))
      ∙ ap (λ (n : ℕ). sum_below n (λ k. count_in_slot order.erased (slice_index xs k))) (sym xs_long)
      ∙ sum_below_by (count_in_slot order.erased) 0 xs
      ∙ sym (sum_by-IsPermutation (count_in_slot order.erased) xs ys in_order.permutation)
      ∙ sym (sum_below_by (count_in_slot order.erased) 0 ys)
      ∙ ap (λ (n : ℕ). sum_below n (λ k. count_in_slot order.erased (slice_index ys k))) ys_long
      ∙ sum_below_same g.n (λ k. count_in_slot order.erased (slice_index ys k))
      (λ p. count_in_slot order.erased (slice_index order.columns p))
      (λ k below. ap (count_in_slot order.erased) (get_or-take g.n order.columns k 0 below))

  -- the first m chunks row by row
  first_rows : sum_below g.m count ≡ sum_below g.r (erased_in_row order g.m)
  unfolding count
  first_rows =
      sum_below_same g.m (λ p. count_in_slot order.erased (slice_index order.columns p))
      (λ p. sum_below g.r (λ i. one_if (has_cell order.erased i (slice_index order.columns p))))
      (λ p below. slot_count_is g order.erased limits inside (slice_index order.columns p))
      ∙ sum_below_exchange g.m g.r (λ p i. one_if (has_cell order.erased i (slice_index order.columns p)))

  pub all_counted : sum_below g.r (erased_in_row order g.m) + erased_in_last order g.n (data_chunks g) ≡ cell_count order.erased
  unfolding count
  all_counted =
      let first : g.n - data_chunks g ≡ g.m = omega (arith, limits.majority) in
      let parts = sum_below_last g.n (data_chunks g) (λ p. count_in_slot order.erased (slice_index order.columns p)) (omega arith) in
      omega (
        arith,
        parts,
        ap (λ (m : ℕ). sum_below m (λ p. count_in_slot order.erased (slice_index order.columns p))) first,
        first_rows,
        moved,
        cell_count_is g order.erased limits inside,
      )

-- the count at a place of the order is that of each sorted list
pub count_at_is : (g : Geometry) (erased : CellSet) (columns c : List ℕ) → IsWithinLimits g → AreInOrder g (count_in_slot erased) columns
    → AreSortedCounts g erased c → (p : ℕ) → p < g.n → count_in_slot erased (slice_index columns p) ≡ slice_index c p
count_at_is g erased columns c limits order sorted p below =
    sym (counts_of_at g erased columns limits order p below)
    ∙ sorted_same g erased (counts_of g erased columns) c (sorted_counts g erased columns limits order) sorted p
    (omega (
      arith,
      length_permutation (erased_counts g erased) (counts_of g erased columns) (sorted_counts g erased columns limits order).permutation,
      many,
    ))
  where
    many : length (erased_counts g erased) ≡ g.n
    many = length-map-range_with_len (count_in_slot erased) 0 g.n
