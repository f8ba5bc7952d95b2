-- A chunk from its cells that aren't erased and its first virtual symbols.
use Rattle.std.proofs.Common.{◌≡◌, ℕ, ◌+◌, ◌-◌, ◌*◌, ◌<◌, ◌≤◌, ◌⊎◌, List, length, take, drop, slice_index, inl, inr, sym, subst, ap, ap₂, ◌∙◌, arith}
use Rattle.std.specs.Prelude.{Contains}
use Rattle.std.proofs.lemmas.Bool.{cases_lt}
use Rattle.std.proofs.lemmas.List.{get_or_default}
use Rattle.stair_model.specs.Geometry.{IsWithinLimits, greatest_coverage}
use Rattle.stair_model.specs.Canonical.{canonical_rows}
use Rattle.stair_model.specs.CauchyCode.{AreKnownPlaces}
use Rattle.stair_model.specs.CellSet.{CellSet, HasCell, count_in_slot}
use Rattle.stair_model.specs.Coverage.{HasEachOnce}
use Rattle.stair_model.proofs.OrderLaws.{HasEachOnce-permutation}
use Rattle.stair_mds.specs.Solving.{AreWantedPlaces}
use Rattle.stair_canon.specs.Canonical.{CanonicalStripe}
use Rattle.stair_canon.specs.Solving.{SolvesChunk, column_shape}
use Rattle.stair_canon.proofs.Grid.{rows_few}
use Rattle.stair_up.specs.RowsSteps.{AreRowsByNeed}
use Rattle.stair_up.specs.SolveSteps.{IsFound, FindsChunk, Keeps}
use Rattle.stair_mds.proofs.Stretches.{IsStretch, IsStretch-take, IsStretch-range, known_stretch, wanted_stretch, ArePlacesOnce, place_in_stretch}
use Rattle.stair_up.proofs.Finds.{chunk_found, chunk_stays, Keeps-changes}

module _ (old : CanonicalStripe) (erased : CellSet) (slot height : ℕ) (rows : List ℕ) (limits : IsWithinLimits old.geometry)
    (inside : (i : ℕ) → HasCell erased i slot → i < old.geometry.r) (slot_in : slot < old.geometry.n)
    (enough : count_in_slot erased slot ≤ height) (height_in : height ≤ greatest_coverage old.geometry)
    (r h : ℕ) (is_r : r ≡ old.geometry.r) (is_h : h ≡ height) (by_need : AreRowsByNeed erased slot old.geometry.r rows) where
  each : HasEachOnce 64 rows
  each = HasEachOnce-permutation 64 rows by_need.permutation

  few : canonical_rows old.geometry ≤ 64
  few = rows_few old.geometry limits

  -- the place of a row
  place : (p : ℕ) → p < 64 → (p < old.geometry.r) ⊎ ((old.geometry.r ≤ p) × (p < old.geometry.r + count_in_slot erased slot)) ⊎ (old.geometry.r + count_in_slot erased slot ≤ p)
  place p p_in =
      elim (cases_lt p old.geometry.r) [
        | inl real ↦ inl real
        | inr past ↦
            elim (cases_lt p (old.geometry.r + count_in_slot erased slot)) [
              | inl missing ↦ inr (inl (past, missing))
              | inr rest ↦ inr (inr rest)
            ]
      ]

  rows_once : ArePlacesOnce (old.geometry.r + height) (canonical_rows old.geometry) rows
  rows_once = record {
    long = omega (arith, each.count, few);
    below = λ p p_in.
        elim (place p (omega (arith, few))) [
          | inl real ↦ elim (by_need.known p real) [ inl held ↦ omega (arith, held.0) | inr first ↦ omega (arith, first.1) ]
          | inr (inl missing) ↦ omega (arith, inside (slice_index rows p) (by_need.wanted p missing.0 missing.1))
          | inr (inr rest) ↦ omega (arith, by_need.rest p rest (omega (arith, few)))
        ];
    distinct = λ i j i_in j_in same. each.distinct i j (omega (arith, few)) (omega (arith, few)) same;
  }

  pub is_known : IsStretch 0 old.geometry.r rows (take r rows)
  is_known = IsStretch-take rows 0 old.geometry.r r (omega arith) is_r (omega (arith, rows_once.long))

  pub is_wanted : IsStretch old.geometry.r height rows (take (r + h - r) (drop r rows))
  is_wanted = IsStretch-range rows old.geometry.r height r (r + h) is_r (omega arith) rows_once.long

  pub may_know : AreKnownPlaces old.geometry.r (canonical_rows old.geometry) (take r rows)
  may_know =
      known_stretch (old.geometry.r + height) old.geometry.r (canonical_rows old.geometry) 0 rows _ rows_once is_known (omega arith)

  pub may_want : AreWantedPlaces (column_shape old.geometry) (take r rows) (take (r + h - r) (drop r rows))
  may_want =
      wanted_stretch (old.geometry.r + height) (column_shape old.geometry) 0 old.geometry.r old.geometry.r height rows _ _
      rows_once is_known is_wanted (omega arith) (omega arith) (inr (omega arith))

  pub chunk_cost : (steps : ℕ) → steps + length (take r rows) * length (take (r + h - r) (drop r rows)) ≡ steps + old.geometry.r * height
  chunk_cost steps = ap (λ (s : ℕ). steps + s) (ap₂ (λ (a b : ℕ). a * b) is_known.many is_wanted.many)

  -- where each row stands
  place_of : (y : ℕ) → y < old.geometry.r + height → (p : ℕ) × (p < old.geometry.r + height) × (slice_index rows p ≡ y)
  place_of y y_in =
      let one = each.reached y (omega (arith, few)) in
      let is : slice_index rows one.0 ≡ y = get_or_default rows one.0 0 y one.1 ∙ one.2 in
      let p_in : one.0 < 64 = omega (arith, one.1, each.count) in
      elim (cases_lt one.0 (old.geometry.r + height)) [
        | inl within ↦ (one.0, within, is)
        | inr past ↦ absurd (omega (arith, by_need.rest one.0 (omega (arith, past)) p_in, is))
      ]

  module _ (column : ℕ) (new : CanonicalStripe) (is_column : column ≡ slot)
      (solves : SolvesChunk column (take r rows) (take (r + h - r) (drop r rows)) old new) where
    solves_slot : SolvesChunk slot (take r rows) (take (r + h - r) (drop r rows)) old new
    solves_slot = subst (λ (j : ℕ). SolvesChunk j (take r rows) (take (r + h - r) (drop r rows)) old new) is_column solves

    pub finds_chunk : FindsChunk erased slot height old new
    finds_chunk x canonical given virtual = (stays, found)
      where
        known : (p : ℕ) → 0 ≤ p → p < 0 + old.geometry.r → IsFound x old (slice_index rows p) slot
        known p low high =
            elim (by_need.known p (omega arith)) [
              | inl held ↦ given.held (slice_index rows p) slot held.0 slot_in held.1
              | inr first ↦
                  let is : old.geometry.r + (slice_index rows p - old.geometry.r) ≡ slice_index rows p = omega (arith, first.0) in
                  subst (λ (i : ℕ). IsFound x old i slot) is (virtual (slice_index rows p - old.geometry.r) (omega (arith, first.0, first.1)))
            ]

        stays : (i j : ℕ) → IsFound x old i j → IsFound x new i j
        stays =
            chunk_stays x slot rows _ _ 0 old.geometry.r old.geometry.r height old new is_known is_wanted canonical
            (omega (arith, slot_in)) solves_slot known

        found : (y : ℕ) → y < old.geometry.r + height → IsFound x new y slot
        found y y_in =
            let one = place_of y y_in in
            subst (λ (i : ℕ). IsFound x new i slot) one.2
            (elim (cases_lt one.0 old.geometry.r) [
              | inl real ↦ stays (slice_index rows one.0) slot (known one.0 (omega arith) (omega arith))
              | inr past ↦
                  chunk_found x slot rows _ _ 0 old.geometry.r old.geometry.r height old new is_known is_wanted canonical
                  (omega (arith, slot_in)) solves_slot known one.0 past (omega (arith, one.1))
            ])

    pub keeps_chunk : Keeps erased old new
    keeps_chunk =
        Keeps-changes erased old new (λ i j. Contains (take (r + h - r) (drop r rows)) i × (j ≡ slot)) solves_slot.changes
        (λ i j i_in j_in not_erased is_solved.
        let one = place_in_stretch old.geometry.r height rows _ is_wanted i is_solved.0 in
        elim (cases_lt one.0 (old.geometry.r + count_in_slot erased slot)) [
          | inl missing ↦
              not_erased (subst (λ (t : ℕ). HasCell erased i t) (sym is_solved.1)
              (subst (λ (s : ℕ). HasCell erased s slot) one.3 (by_need.wanted one.0 one.1 missing)))
          | inr rest ↦ omega (arith, one.1, one.3, i_in, by_need.rest one.0 rest (omega (arith, one.2, few)))
        ])
