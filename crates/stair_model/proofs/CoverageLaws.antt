-- Coverage by how many chunks have more erased cells than an entry of the coverage vector, and the laws that follow.
use Rattle.std.proofs.Common.{◌≡◌, ℕ, ◌+◌, ◌-◌, ◌<◌, ◌≤◌, cond, List, length, map, slice_index, sym, ap, ◌∙◌, inl, inr, arith}
use Rattle.std.specs.Prelude.{◌↔◌, IsTrue, nat_lt}
use Rattle.std.specs.List.{range_with_len}
use Rattle.std.specs.List.Sorted.{IsPermutation}
use Rattle.std.proofs.lemmas.Bool.{false≢true, cases_lt, cases_Bool, ltb-true, lt-ltb}
use Rattle.std.proofs.lemmas.List.FromFn.{length-map-range_with_len, fill_by_all}
use Rattle.std.proofs.lemmas.List.Sorted.{IsPermutation-map, length_permutation}
use Rattle.stair_model.specs.Sum.{sum_below}
use Rattle.stair_model.specs.Geometry.{Geometry, IsWithinLimits, classes, coverage}
use Rattle.stair_model.specs.Slots.{Slots, has_slot, HasSlot, slot_count}
use Rattle.stair_model.specs.CellSet.{CellSet, has_cell, HasCell, count_in_slot, IsInStripe}
use Rattle.stair_model.specs.Coverage.{IsNonIncreasing, erased_counts, AreSortedCounts, AreWithinCoverage, HasCoveredChunks, IsCoveredOrder}
use Rattle.stair_model.proofs.SetLaws.{mark_small, mark_le, unmarked}
use Rattle.stair_model.proofs.CountLaws.{sum_below_le, sum_below_longer, sum_below_marks, sum_below_zeros, sum_below_tail}
use Rattle.stair_model.proofs.SortedLaws.{mark, mark_not_above, count_above, count_above-le, le-from_count_above, count_above-permutation, count_above-map, sorted_by}

-- how many of the first n chunks have more than x erased cells
abbrev pub chunks_above : CellSet → ℕ → ℕ → ℕ
chunks_above erased n x = sum_below n (λ j. mark x (count_in_slot erased j))

chunks_above-le : (erased : CellSet) (n x : ℕ) → chunks_above erased n x ≤ n
chunks_above-le erased n x =
    sum_below_marks n (λ j. mark x (count_in_slot erased j)) (λ j below. mark_small (nat_lt x (count_in_slot erased j)))

-- few enough chunks have more erased cells than each entry of the coverage vector, and than none
pub record IsCoveredByCounts (g : Geometry) (erased : CellSet) : Type 0 where
  pub few : (k : ℕ) → k < classes g → chunks_above erased g.n (coverage g (classes g - 1 - k)) ≤ g.m + k
  pub none : chunks_above erased g.n 0 ≤ g.m + classes g

-- numbers that fall, and of which as many are above each number as chunks have more erased cells
pub record AreCountsInOrder (g : Geometry) (erased : CellSet) (c : List ℕ) : Type 0 where
  pub long : g.n ≤ length c
  pub falling : IsNonIncreasing c
  pub counts : (x : ℕ) → count_above x c ≡ chunks_above erased g.n x

module _ (g : Geometry) (erased : CellSet) (c : List ℕ) (ordered : AreCountsInOrder g erased c) where
  at_most : (p x : ℕ) → slice_index c p ≤ x → chunks_above erased g.n x ≤ p
  at_most p x within = omega (arith, count_above-le x c ordered.falling p within, ordered.counts x)

  pub counts_from_within : AreWithinCoverage g c → IsCoveredByCounts g erased
  counts_from_within within = record {
    few = λ k below.
        let x = coverage g (classes g - 1 - k) in
        elim (cases_lt (g.m + k) g.n) [
          | inl inside ↦ at_most (g.m + k) x (within.partial_chunks k below inside)
          | inr outside ↦ omega (arith, chunks_above-le erased g.n x)
        ];
    none =
        elim (cases_lt (g.m + classes g) g.n) [
          | inl inside ↦
              let zero_there : slice_index c (g.m + classes g) ≡ 0 = within.intact_chunks (g.m + classes g) (omega arith) inside in
              at_most (g.m + classes g) 0 (omega arith)
          | inr outside ↦ omega (arith, chunks_above-le erased g.n 0)
        ];
  }

  place_within : (p x : ℕ) → p < g.n → chunks_above erased g.n x ≤ p → slice_index c p ≤ x
  place_within p x inside few =
      le-from_count_above x c ordered.falling p (omega (arith, ordered.long)) (omega (arith, ordered.counts x))

  pub within_from_counts : IsCoveredByCounts g erased → AreWithinCoverage g c
  within_from_counts covered = record {
    partial_chunks = λ k below inside. place_within (g.m + k) (coverage g (classes g - 1 - k)) inside (covered.few k below);
    intact_chunks = λ p above inside.
        let few : chunks_above erased g.n 0 ≤ p = omega (arith, covered.none) in
        let small : slice_index c p ≤ 0 = place_within p 0 inside few in
        omega arith;
  }

-- the sorted counts are such numbers
pub AreCountsInOrder-sorted : (g : Geometry) (erased : CellSet) (c : List ℕ) → AreSortedCounts g erased c → AreCountsInOrder g erased c
AreCountsInOrder-sorted g erased c sorted = record {
  long = omega (arith, length_permutation (erased_counts g erased) c sorted.permutation, length-map-range_with_len (count_in_slot erased) 0 g.n);
  falling = sorted.falling;
  counts = λ x. count_above-permutation x (erased_counts g erased) c sorted.permutation ∙ count_above-map x (count_in_slot erased) g.n;
}

-- sorted counts of the same cells are the same, place by place
sorted_le : (g : Geometry) (erased : CellSet) (c d : List ℕ) → AreSortedCounts g erased c → AreSortedCounts g erased d
    → (p : ℕ) → p < length c → slice_index c p ≤ slice_index d p
sorted_le g erased c d first second p within =
    let x = slice_index d p in
    le-from_count_above x c first.falling p within
    (omega (
      arith,
      count_above-permutation x (erased_counts g erased) c first.permutation,
      count_above-permutation x (erased_counts g erased) d second.permutation,
      count_above-le x d second.falling p (omega arith),
    ))

pub sorted_same : (g : Geometry) (erased : CellSet) (c d : List ℕ) → AreSortedCounts g erased c → AreSortedCounts g erased d
    → (p : ℕ) → p < length c → slice_index c p ≡ slice_index d p
sorted_same g erased c d first second p within =
    let long : length d ≡ length c =
    length_permutation (erased_counts g erased) d second.permutation ∙ sym (length_permutation (erased_counts g erased) c first.permutation) in
    let up = sorted_le g erased c d first second p within in
    let down = sorted_le g erased d c second first p (omega (arith, long)) in
    omega (arith, up, down)

-- the chunks in order of their counts
sorted_chunks : (g : Geometry) (erased : CellSet)
    → (order : List ℕ) × IsPermutation (range_with_len 0 g.n) order × AreSortedCounts g erased (map (count_in_slot erased) order)
sorted_chunks g erased =
    let found = sorted_by (count_in_slot erased) (range_with_len 0 g.n) in (
      found.0,
      found.1,
      record {
        permutation = IsPermutation-map (count_in_slot erased) (range_with_len 0 g.n) found.0 found.1;
        falling = found.2;
      },
    )

pub counts_from_covered : (g : Geometry) (erased : CellSet) → HasCoveredChunks g erased → IsCoveredByCounts g erased
counts_from_covered g erased covered =
    counts_from_within g erased covered.counts (AreCountsInOrder-sorted g erased covered.counts covered.sorted) covered.within

pub covered_from_counts : (g : Geometry) (erased : CellSet) → IsCoveredByCounts g erased → HasCoveredChunks g erased
covered_from_counts g erased counts =
    let found = sorted_chunks g erased in
    let c = map (count_in_slot erased) found.0 in
    record { counts = c; sorted = found.2; within = within_from_counts g erased c (AreCountsInOrder-sorted g erased c found.2) counts }

-- every sorted list of the counts tells the same
pub covered_each : (g : Geometry) (erased : CellSet)
    → HasCoveredChunks g erased ↔ ((c : List ℕ) → AreSortedCounts g erased c → AreWithinCoverage g c)
covered_each g erased = (
  λ covered c sorted.
      within_from_counts g erased c (AreCountsInOrder-sorted g erased c sorted) (counts_from_covered g erased covered),
  λ each.
      let found = sorted_chunks g erased in
      let c = map (count_in_slot erased) found.0 in
      record { counts = c; sorted = found.2; within = each c found.2 },
)

-- and so does the order of the chunks
pub covered_order : (g : Geometry) (erased : CellSet) → HasCoveredChunks g erased → (order : List ℕ) × IsCoveredOrder g erased order
covered_order g erased covered =
    let found = sorted_chunks g erased in
    let c = map (count_in_slot erased) found.0 in (
      found.0,
      record {
        permutation = found.1;
        falling = found.2.falling;
        within = within_from_counts g erased c (AreCountsInOrder-sorted g erased c found.2) (counts_from_covered g erased covered);
      },
    )

pub covered_from_order : (g : Geometry) (erased : CellSet) (order : List ℕ) → IsCoveredOrder g erased order → HasCoveredChunks g erased
covered_from_order g erased order ordered = record {
  counts = map (count_in_slot erased) order;
  sorted =
      record {
        permutation = IsPermutation-map (count_in_slot erased) (range_with_len 0 g.n) order ordered.permutation;
        falling = ordered.falling;
      };
  within = ordered.within;
}

-- of fewer cells no chunk has more
count_in_slot-le : (fewer erased : CellSet) → ((i j : ℕ) → HasCell fewer i j → HasCell erased i j)
    → (j : ℕ) → count_in_slot fewer j ≤ count_in_slot erased j
count_in_slot-le fewer erased subset j =
    sum_below_le 32 (λ i. cond (has_cell fewer i j) 1 0) (λ i. cond (has_cell erased i j) 1 0)
    (λ i below. mark_le (has_cell fewer i j) (has_cell erased i j) (subset i j))

chunks_above-subset : (fewer erased : CellSet) → ((i j : ℕ) → HasCell fewer i j → HasCell erased i j)
    → (n x : ℕ) → chunks_above fewer n x ≤ chunks_above erased n x
chunks_above-subset fewer erased subset n x =
    sum_below_le n (λ j. mark x (count_in_slot fewer j)) (λ j. mark x (count_in_slot erased j))
    (λ j below.
    mark_le (nat_lt x (count_in_slot fewer j)) (nat_lt x (count_in_slot erased j))
    (λ above.
    let more : x < count_in_slot fewer j = ltb-true x (count_in_slot fewer j) above in
    lt-ltb x (count_in_slot erased j) (omega (arith, count_in_slot-le fewer erased subset j))))

pub covered_subset : (g : Geometry) (fewer erased : CellSet) → ((i j : ℕ) → HasCell fewer i j → HasCell erased i j)
    → HasCoveredChunks g erased → HasCoveredChunks g fewer
covered_subset g fewer erased subset covered =
    let counts = counts_from_covered g erased covered in
    covered_from_counts g fewer
    (record {
      few = λ k below.
          let x = coverage g (classes g - 1 - k) in
          omega (arith, counts.few k below, chunks_above-subset fewer erased subset g.n x);
      none = omega (arith, counts.none, chunks_above-subset fewer erased subset g.n 0);
    })

-- a chunk without erased cells counts none
pub count_in_slot-none : (erased : CellSet) (j : ℕ) → ((i : ℕ) → ¬ HasCell erased i j) → count_in_slot erased j ≡ 0
count_in_slot-none erased j none =
    sum_below_zeros 32 (λ i. cond (has_cell erased i j) 1 0) (λ i below. unmarked (has_cell erased i j) (none i))

above_in_lost : (erased : CellSet) (lost : Slots) → ((i j : ℕ) → HasCell erased i j → HasSlot lost j)
    → (x j : ℕ) → IsTrue (nat_lt x (count_in_slot erased j)) → HasSlot lost j
above_in_lost erased lost within x j above =
    elim (cases_Bool (has_slot lost j)) [
      | inl in_lost ↦ in_lost
      | inr outside ↦
          let more : x < count_in_slot erased j = ltb-true x (count_in_slot erased j) above in
          absurd (omega (
            arith,
            count_in_slot-none erased j
                (λ i has. false≢true (sym outside ∙ within i j has)),
          ))
    ]

-- cells of at most m chunks are covered
pub covered_chunks_lost : (g : Geometry) (erased : CellSet) (lost : Slots) → IsWithinLimits g → slot_count lost ≤ g.m
    → ((i j : ℕ) → HasCell erased i j → HasSlot lost j) → HasCoveredChunks g erased
covered_chunks_lost g erased lost limits few within =
    covered_from_counts g erased (record { few = λ k below. omega (arith, at_most (coverage g (classes g - 1 - k))); none = omega (arith, at_most 0) })
  where
    at_most : (x : ℕ) → chunks_above erased g.n x ≤ g.m
    at_most x =
        let inside : sum_below g.n (λ j. cond (has_slot lost j) 1 0) ≤ slot_count lost =
        sum_below_longer (λ j. cond (has_slot lost j) 1 0) g.n 32 limits.devices.1
        in
        let each : chunks_above erased g.n x ≤ sum_below g.n (λ j. cond (has_slot lost j) 1 0) =
        sum_below_le g.n (λ j. mark x (count_in_slot erased j)) (λ j. cond (has_slot lost j) 1 0)
        (λ j below. mark_le (nat_lt x (count_in_slot erased j)) (has_slot lost j) (above_in_lost erased lost within x j))
        in
        omega arith

-- no cells are covered
pub covered_none : (g : Geometry) (erased : CellSet) → ((i j : ℕ) → ¬ HasCell erased i j) → HasCoveredChunks g erased
covered_none g erased none =
    covered_from_counts g erased
    (record { few = λ k below. omega (arith, nowhere (coverage g (classes g - 1 - k))); none = omega (arith, nowhere 0) })
  where
    nowhere : (x : ℕ) → chunks_above erased g.n x ≡ 0
    nowhere x =
        sum_below_zeros g.n (λ j. mark x (count_in_slot erased j))
        (λ j below.
        mark_not_above x (count_in_slot erased j)
        (omega (arith, count_in_slot-none erased j (λ i. none i j))))

-- the counts of 32 slots, of cells in a stripe, fall like those of its chunks: further slots have none
pub AreCountsInOrder-slots : (g : Geometry) (erased : CellSet) (counts c : List ℕ) → g.n ≤ 32 → IsInStripe g erased → length counts ≡ 32
    → ((j : ℕ) → j < 32 → slice_index counts j ≡ count_in_slot erased j) → IsPermutation counts c → IsNonIncreasing c
    → AreCountsInOrder g erased c
AreCountsInOrder-slots g erased counts c few inside long each moved falling = record {
  long = omega (arith, length_permutation counts c moved);
  falling = falling;
  counts = λ x.
      count_above-permutation x counts c moved ∙ ap (count_above x) (fill_by_all (count_in_slot erased) counts 32 0 long each)
      ∙ count_above-map x (count_in_slot erased) 32 ∙ sum_below_tail g.n 32 (λ j. mark x (count_in_slot erased j)) few (outside x);
}
  where
    outside : (x j : ℕ) → g.n ≤ j → j < 32 → mark x (count_in_slot erased j) ≡ 0
    outside x j from to =
        let empty : count_in_slot erased j ≡ 0 =
        count_in_slot-none erased j
        (λ i has. let place = inside i j has in omega (arith, place.1))
        in
        mark_not_above x (count_in_slot erased j) (omega arith)

-- sorted counts are within coverage exactly where the cells are covered
pub covered_by_order : (g : Geometry) (erased : CellSet) (c : List ℕ) → AreCountsInOrder g erased c → AreWithinCoverage g c ↔ HasCoveredChunks g erased
covered_by_order g erased c ordered = (
  λ within. covered_from_counts g erased (counts_from_within g erased c ordered within),
  λ covered. within_from_counts g erased c ordered (counts_from_covered g erased covered),
)
