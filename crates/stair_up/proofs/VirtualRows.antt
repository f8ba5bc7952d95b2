-- Virtual symbols of the chunks from place m of the order up to one place, from those of the chunks after it and the
-- zeros of the intermediate chunks.
use Rattle.std.proofs.Common.{◌≡◌, ℕ, ◌+◌, ◌-◌, ◌*◌, ◌<◌, ◌≤◌, List, length, take, drop, slice_index, inl, inr, sym, subst, ap, ap₂, ◌∙◌, arith}
use Rattle.std.specs.Prelude.{All, Contains}
use Rattle.std.proofs.Math.Nat.{mul_comm}
use Rattle.std.proofs.lemmas.Bool.{cases_lt}
use Rattle.stair_model.specs.Geometry.{IsWithinLimits, classes, data_chunks}
use Rattle.stair_model.specs.Canonical.{canonical_chunks, canonical_rows}
use Rattle.stair_model.specs.CauchyCode.{AreDistinct, AreKnownPlaces}
use Rattle.stair_model.specs.CellSet.{CellSet, count_in_slot}
use Rattle.stair_model.specs.Coverage.{HasCoveredChunks}
use Rattle.stair_mds.specs.Solving.{AreWantedPlaces}
use Rattle.stair_canon.specs.Canonical.{CanonicalStripe}
use Rattle.stair_canon.specs.Solving.{SolvesRows, row_shape}
use Rattle.stair_canon.specs.Order.{AreInOrder}
use Rattle.stair_up.specs.SolveSteps.{IsFound, StaysFound, FindsVirtualRows, Keeps}
use Rattle.stair_mds.proofs.Stretches.{IsStretch, IsStretch-take, IsStretch-range, Contains-stretch, place_in_stretch, All-stretch, AreDistinct-stretch, known_stretch, wanted_stretch}
use Rattle.stair_canon.proofs.Grid.{rows_few}
use Rattle.stair_up.proofs.Finds.{rows_found, rows_stay, Keeps-changes}
use Rattle.stair_canon.proofs.Columns.{columns_once, count_le_greatest, class_covers, intermediate_at}

module _ (old : CanonicalStripe) (erased : CellSet) (columns : List ℕ) (limits : IsWithinLimits old.geometry)
    (order : AreInOrder old.geometry (count_in_slot erased) columns) (covered : HasCoveredChunks old.geometry erased)
    (place start end : ℕ) (from : old.geometry.m ≤ place) (to : place < old.geometry.n) (some : start < end)
    (above : end ≤ count_in_slot erased (slice_index columns place)) (n m : ℕ) (is_n : n ≡ old.geometry.n) (is_m : m ≡ old.geometry.m) where
  -- there are zeros enough
  fits : place + 1 + data_chunks old.geometry ≤ canonical_chunks old.geometry
  fits =
      omega (
        arith,
        limits.majority,
        (class_covers old.geometry erased columns limits order covered (place - old.geometry.m) place start (omega arith) to (omega arith)).0,
      )

  long : canonical_chunks old.geometry ≤ length columns
  long = (columns_once old.geometry (count_in_slot erased) columns limits order).long

  pub is_known : IsStretch (place + 1) (data_chunks old.geometry) columns
      (take (place + 1 + (n - m) - (place + 1)) (drop (place + 1) columns))
  is_known =
      IsStretch-range columns (place + 1) (data_chunks old.geometry) (place + 1) (place + 1 + (n - m)) (omega arith)
      (omega (arith, is_n, is_m)) (omega (arith, fits, long))

  pub is_wanted : IsStretch old.geometry.m (place + 1 - old.geometry.m) columns (take (place + 1 - m) (drop m columns))
  is_wanted =
      IsStretch-range columns old.geometry.m (place + 1 - old.geometry.m) m (place + 1) is_m (omega arith) (omega (arith, fits, long))

  pub may_know : AreKnownPlaces (data_chunks old.geometry) (canonical_chunks old.geometry)
      (take (place + 1 + (n - m) - (place + 1)) (drop (place + 1) columns))
  may_know =
      known_stretch (canonical_chunks old.geometry) (data_chunks old.geometry) (canonical_chunks old.geometry) (place + 1) columns _
      (columns_once old.geometry (count_in_slot erased) columns limits order) is_known fits

  pub may_want : AreWantedPlaces (row_shape old.geometry)
      (take (place + 1 + (n - m) - (place + 1)) (drop (place + 1) columns)) (take (place + 1 - m) (drop m columns))
  may_want =
      wanted_stretch (canonical_chunks old.geometry) (row_shape old.geometry) (place + 1) (data_chunks old.geometry) old.geometry.m
      (place + 1 - old.geometry.m) columns _ _
      (columns_once old.geometry (count_in_slot erased) columns limits order) is_known is_wanted fits (omega (arith, fits)) (inl (omega arith))

  few : old.geometry.r + end ≤ canonical_rows old.geometry
  few = omega (arith, above, count_le_greatest old.geometry erased columns limits order covered place from to)

  pub small : old.geometry.r + end ≤ 64
  small = omega (arith, few, rows_few old.geometry limits)

  -- the virtual rows from r + start on and below r + end, out of the numbers from r + start on
  module _ (numbers : List ℕ) (first count : ℕ) (is_first : first ≡ old.geometry.r + start) (is_count : count ≡ end - start)
      (long_enough : length numbers ≡ 64) (each : (k : ℕ) → k < 64 → slice_index numbers k ≡ first + k) where
    pub are_rows : IsStretch 0 (end - start) numbers (take count numbers)
    are_rows = IsStretch-take numbers 0 (end - start) count (omega arith) is_count (omega (arith, small, long_enough))

    number : (k : ℕ) → k < end - start → slice_index numbers k ≡ old.geometry.r + (start + k)
    number k below = omega (arith, each k (omega (arith, small)), is_first)

    -- each of them is row r + t for a t from start on and below end
    row_is : (i : ℕ) → Contains (take count numbers) i → (t : ℕ) × (start ≤ t) × (t < end) × (old.geometry.r + t ≡ i)
    row_is i one =
        let place = place_in_stretch 0 (end - start) numbers (take count numbers) are_rows i one in
        (start + place.0, omega arith, omega (arith, place.2), sym (number place.0 (omega (arith, place.2))) ∙ place.3)

    pub rows_in : All (λ row. row < canonical_rows old.geometry) (take count numbers)
    rows_in =
        All-stretch 0 (end - start) numbers (take count numbers) are_rows (λ row. row < canonical_rows old.geometry)
        (λ k low high. omega (arith, few, number k (omega (arith, high)), high))

    pub rows_distinct : AreDistinct (length (take count numbers)) (slice_index (take count numbers))
    rows_distinct =
        AreDistinct-stretch 0 (end - start) numbers (take count numbers) are_rows
        (λ s t s_from s_to t_from t_to same. omega (arith, s_to, t_to, number s (omega (arith, s_to)), number t (omega (arith, t_to)), same))

    module _ (new : CanonicalStripe)
        (solves : SolvesRows (take count numbers) (take (place + 1 + (n - m) - (place + 1)) (drop (place + 1) columns))
        (take (place + 1 - m) (drop m columns)) old new) where
      -- none of them has cells of the stripe
      pub keeps_rows : Keeps erased old new
      keeps_rows =
          Keeps-changes erased old new
          (λ i j. Contains (take count numbers) i × Contains (take (place + 1 - m) (drop m columns)) j) solves.changes
          (λ i j i_in j_in not_erased is_solved.
          let row = row_is i is_solved.0 in
          omega (arith, i_in, row.3))

      pub finds_rows : FindsVirtualRows erased columns place start end old new
      finds_rows x canonical given behind = (stays, found)
        where
          -- what is known: the chunks after, and zeros
          known_at : (h p : ℕ) → h < end → place + 1 ≤ p → p < place + 1 + data_chunks old.geometry
              → IsFound x old (old.geometry.r + h) (slice_index columns p)
          known_at h p below low high =
              elim (cases_lt p old.geometry.n) [
                | inl chunk ↦ behind p h (omega arith) chunk below
                | inr past ↦
                    let k : ℕ = p - old.geometry.n in
                    let covers =
                    class_covers old.geometry erased columns limits order covered k place h (omega (arith, limits.majority)) to (omega (arith, below, above)) in
                    let class : classes old.geometry - 1 - k ≡ canonical_chunks old.geometry - 1 - p = omega (arith, fits) in
                    let column : slice_index columns p ≡ old.geometry.n + (classes old.geometry - 1 - k) =
                    intermediate_at old.geometry (count_in_slot erased) columns limits order p past (omega (arith, fits)) ∙ ap (λ (l : ℕ). old.geometry.n + l) (sym class) in
                    subst (λ (j : ℕ). IsFound x old (old.geometry.r + h) j) (sym column)
                    (given.zeros (classes old.geometry - 1 - k) h (omega (arith, limits.covered_chunks.0)) covers.1)
              ]

          known : (row p : ℕ) → Contains (take count numbers) row → place + 1 ≤ p → p < place + 1 + data_chunks old.geometry
              → IsFound x old row (slice_index columns p)
          known row p one low high =
              let is = row_is row one in
              subst (λ (i : ℕ). IsFound x old i (slice_index columns p)) is.3 (known_at is.0 p is.2 low high)

          stays : StaysFound x old new
          stays =
              rows_stay x (take count numbers) columns _ _ (place + 1) (data_chunks old.geometry) old.geometry.m (place + 1 - old.geometry.m)
              old new is_known is_wanted canonical rows_in solves known

          found : (p h : ℕ) → old.geometry.m ≤ p → p < old.geometry.n → start ≤ h → h < end
              → IsFound x new (old.geometry.r + h) (slice_index columns p)
          found p h low high h_from h_to =
              elim (cases_lt place p) [
                | inl later ↦ stays (old.geometry.r + h) (slice_index columns p) (behind p h later high h_to)
                | inr earlier ↦
                    rows_found x (take count numbers) columns _ _ (place + 1) (data_chunks old.geometry) old.geometry.m
                    (place + 1 - old.geometry.m) old new is_known is_wanted canonical rows_in solves known (old.geometry.r + h) p
                    (subst (Contains (take count numbers))
                    (number (h - start) (omega (arith, h_to, h_from)) ∙ ap (λ (t : ℕ). old.geometry.r + t) (omega (arith, h_from)))
                    (Contains-stretch 0 (end - start) numbers (take count numbers) are_rows (h - start) (omega arith)
                    (omega (arith, h_to, h_from))))
                    low (omega arith)
              ]

    pub rows_cost : (steps : ℕ)
        → steps + length (take count numbers) * (length (take (place + 1 + (n - m) - (place + 1)) (drop (place + 1) columns))
        * length (take (place + 1 - m) (drop m columns)))
        ≡ steps + data_chunks old.geometry * (place + 1 - old.geometry.m) * (end - start)
    rows_cost steps =
        ap (λ (s : ℕ). steps + s)
        (ap₂ (λ (a b : ℕ). a * b) are_rows.many (ap₂ (λ (a b : ℕ). a * b) is_known.many is_wanted.many)
        ∙ mul_comm (end - start) (data_chunks old.geometry * (place + 1 - old.geometry.m)))

-- none of these rows
pub FindsVirtualRows-none : (erased : CellSet) (columns : List ℕ) (place from to : ℕ) (c : CanonicalStripe) → from ≡ to
    → FindsVirtualRows erased columns place from to c c
FindsVirtualRows-none erased columns place from to c none x canonical given behind =
    (λ i j found. found, λ p h low high above below. absurd (omega arith))
