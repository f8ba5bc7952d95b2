-- A row with at most m erased cells, from its other cells.
use Rattle.std.proofs.Common.{◌≡◌, ℕ, ◌+◌, ◌-◌, ◌<◌, ◌≤◌, Bool, true, false, List, length, map, take, drop, slice_index, inl, inr, refl, sym, subst, ap, ◌∙◌, arith}
use Rattle.std.specs.Prelude.{Contains, if◌then◌else◌}
use Rattle.std.specs.List.{range_with_len}
use Rattle.std.proofs.lemmas.Bool.{cases_lt, cases_eq, cases_Bool, false≢true, false_from_ne_true}
use Rattle.std.proofs.lemmas.List.{get_or-map, get_or-take, length-map, length-take-le}
use Rattle.std.proofs.lemmas.List.Sorted.{IsPermutation-map}
use Rattle.stair_model.specs.Geometry.{Geometry, IsWithinLimits, data_chunks}
use Rattle.stair_model.specs.Canonical.{canonical_chunks}
use Rattle.stair_model.specs.CauchyCode.{AreKnownPlaces}
use Rattle.stair_model.specs.CellSet.{CellSet, has_cell, HasCell, count_in_row, IsInStripe}
use Rattle.stair_model.specs.Codeword.{Word}
use Rattle.stair_model.specs.Coverage.{IsNonIncreasing}
use Rattle.stair_model.proofs.CountLaws.{sum_below_same, sum_below_tail}
use Rattle.stair_model.proofs.RestLaws.{in_rest}
use Rattle.stair_model.proofs.SortedLaws.{mark, count_above, count_above-le, count_above-map, count_above-permutation, le-from_count_above}
use Rattle.stair_mds.specs.Solving.{AreWantedPlaces}
use Rattle.stair_canon.specs.Canonical.{CanonicalStripe}
use Rattle.stair_canon.specs.Solving.{SolvesRow, row_shape}
use Rattle.stair_model.proofs.SetLaws.{unmarked}
use Rattle.stair_canon.specs.Order.{AreInOrder}
use Rattle.stair_up.specs.SolveSteps.{AreCanonical, IsFound, HasGiven, StaysFound, FindsLightRow, FindsLightRows, Keeps}
use Rattle.stair_canon.proofs.Columns.{chunk_at, place_of, columns_once, last_chunks, last_chunks_known}
use Rattle.stair_mds.proofs.Stretches.{ArePlacesOnce, IsStretch, IsStretch-take, wanted_stretch, place_in_stretch}
use Rattle.stair_up.proofs.Finds.{HasGiven-stays, Keeps-changes, row_found, row_stays}

-- 1 for an erased cell, and 0 for a held one
abbrev pub erased_mark : CellSet → ℕ → ℕ → ℕ
erased_mark erased row slot = if has_cell erased row slot then 1 else 0

mark_of_mark : (b : Bool) → mark 0 (if b then 1 else 0) ≡ (if b then 1 else 0)
mark_of_mark true = refl
mark_of_mark false = refl

marked-false : (b : Bool) → (if b then 1 else 0) ≤ 0 → b ≡ false
marked-false true above = absurd (omega arith)
marked-false false above = refl

-- an order of the columns by the marks of a row: erased cells first
module _ (g : Geometry) (erased : CellSet) (row : ℕ) (marks columns : List ℕ) (limits : IsWithinLimits g) (inside : IsInStripe g erased)
    (marked : (j : ℕ) → j < 32 → slice_index marks j ≡ erased_mark erased row j)
    (order : AreInOrder g (slice_index marks) columns) where
  first_marks : List ℕ
  first_marks = map (slice_index marks) (take g.n columns)

  first_long : length (take g.n columns) ≡ g.n
  first_long = length-take-le g.n columns (omega (arith, order.long, limits.devices.1))

  mark_at : (p : ℕ) → p < g.n → slice_index first_marks p ≡ erased_mark erased row (slice_index columns p)
  unfolding first_marks
  mark_at p below =
      get_or-map (slice_index marks) (take g.n columns) p 0 0 (omega (arith, first_long))
      ∙ ap (slice_index marks) (get_or-take g.n columns p 0 below)
      ∙ marked (slice_index columns p) (omega (arith, chunk_at g (slice_index marks) columns limits order p below, limits.devices.1))

  marks_long : length first_marks ≡ g.n
  unfolding first_marks
  marks_long = length-map (take g.n columns) (slice_index marks) ∙ first_long

  marks_fall : IsNonIncreasing first_marks
  marks_fall p q le within =
      let q_in : q < g.n = omega (arith, marks_long) in
      let at = λ (s : ℕ) (s_in : s < g.n).
      mark_at s s_in ∙ sym (marked (slice_index columns s) (omega (arith, chunk_at g (slice_index marks) columns limits order s s_in, limits.devices.1)))
      in
      omega (arith, at p (omega arith), at q q_in, order.falling p q le q_in)

  -- as many are marked as cells of the row are erased
  marks_above : count_above 0 first_marks ≡ count_in_row erased row
  unfolding first_marks
  marks_above =
      count_above-permutation 0 (map (slice_index marks) (range_with_len 0 g.n)) first_marks
      (IsPermutation-map (slice_index marks) (range_with_len 0 g.n) (take g.n columns) order.permutation)
      ∙ count_above-map 0 (slice_index marks) g.n
      ∙ sum_below_same g.n (λ j. mark 0 (slice_index marks j)) (erased_mark erased row)
      (λ j j_in. ap (mark 0) (marked j (omega (arith, limits.devices.1))) ∙ mark_of_mark (has_cell erased row j))
      ∙ sym (sum_below_tail g.n 32 (erased_mark erased row) limits.devices.1
      (λ j from to.
      ap (λ (b : Bool). if b then 1 else 0)
      (false_from_ne_true (has_cell erased row j) (λ has. let place = inside row j has in omega (arith, place.1)))))

  pub held_behind : (p : ℕ) → count_in_row erased row ≤ p → p < g.n → ¬ HasCell erased row (slice_index columns p)
  held_behind p behind below has =
      let low : slice_index first_marks p ≤ 0 =
      le-from_count_above 0 first_marks marks_fall p (omega (arith, marks_long)) (omega (arith, marks_above))
      in
      false≢true (sym (marked-false (has_cell erased row (slice_index columns p)) (omega (arith, mark_at p below))) ∙ has)

  pub erased_first : (p : ℕ) → p < count_in_row erased row → p < g.n → HasCell erased row (slice_index columns p)
  erased_first p before below =
      elim (cases_Bool (has_cell erased row (slice_index columns p))) [
        | inl has ↦ has
        | inr held ↦
            absurd (omega (
              arith,
              before,
              marks_above,
              count_above-le 0 first_marks marks_fall p
                  (omega (arith, mark_at p below, unmarked (has_cell erased row (slice_index columns p)) (λ has. false≢true (sym held ∙ has)))),
            ))
      ]

-- what a row with at most m erased cells is solved by: an order of the columns by its marks, and the places of its ends
pub record IsLightRow (g : Geometry) (erased : CellSet) (row : ℕ) (marks columns : List ℕ) (n m k : ℕ) : Type 0 where
  pub limits : IsWithinLimits g
  pub inside : IsInStripe g erased
  pub row_in : row < g.r
  pub light : count_in_row erased row ≤ g.m
  pub marked : (j : ℕ) → j < 32 → slice_index marks j ≡ erased_mark erased row j
  pub order : AreInOrder g (slice_index marks) columns
  pub is_n : n ≡ g.n
  pub is_m : m ≡ g.m
  pub is_k : k ≡ count_in_row erased row

module _ (old : CanonicalStripe) (erased : CellSet) (row : ℕ) (marks columns : List ℕ) (n m k : ℕ)
    (is : IsLightRow old.geometry erased row marks columns n m k) where
  once : ArePlacesOnce (canonical_chunks old.geometry) (canonical_chunks old.geometry) columns
  once = columns_once old.geometry (slice_index marks) columns is.limits is.order

  is_known : IsStretch old.geometry.m (data_chunks old.geometry) columns (take (n - m) (drop m columns))
  is_known = last_chunks old.geometry (slice_index marks) columns is.limits is.order n m is.is_n is.is_m

  is_wanted : IsStretch 0 (count_in_row erased row) columns (take k columns)
  is_wanted = IsStretch-take columns 0 (count_in_row erased row) k (omega arith) is.is_k (omega (arith, is.limits.majority, once.long))

  pub may_know : AreKnownPlaces (data_chunks old.geometry) (canonical_chunks old.geometry) (take (n - m) (drop m columns))
  may_know = last_chunks_known old.geometry (slice_index marks) columns is.limits is.order n m is.is_n is.is_m

  pub may_want : AreWantedPlaces (row_shape old.geometry) (take (n - m) (drop m columns)) (take k columns)
  may_want =
      wanted_stretch (canonical_chunks old.geometry) (row_shape old.geometry) old.geometry.m (data_chunks old.geometry) 0
      (count_in_row erased row) columns _ _ once is_known is_wanted (omega (arith, is.limits.majority)) (omega (arith, is.limits.majority))
      (inl (omega arith))

  module _ (new : CanonicalStripe) (solves : SolvesRow row (take (n - m) (drop m columns)) (take k columns) old new) where
    pub keeps_light_row : Keeps erased old new
    keeps_light_row =
        Keeps-changes erased old new (λ i j. (i ≡ row) × Contains (take k columns) j) solves.changes
        (λ i j i_in j_in not_erased is_solved.
        let one = place_in_stretch 0 (count_in_row erased row) columns _ is_wanted j is_solved.1 in
        let is_erased : HasCell erased row (slice_index columns one.0) =
        erased_first old.geometry erased row marks columns is.limits is.inside is.marked is.order one.0 (omega (arith, one.2))
        (omega (arith, one.2, is.limits.majority))
        in
        not_erased (subst (λ (s : ℕ). HasCell erased s j) (sym is_solved.0)
        (subst (λ (t : ℕ). HasCell erased row t) one.3 is_erased)))

    pub finds_light_row : FindsLightRow erased row old new
    finds_light_row x canonical given = (stays, found)
      where
        known : (p : ℕ) → old.geometry.m ≤ p → p < old.geometry.m + data_chunks old.geometry → IsFound x old row (slice_index columns p)
        known p low high =
            let p_in : p < old.geometry.n = omega (arith, is.limits.majority) in
            given.held row (slice_index columns p) is.row_in (chunk_at old.geometry (slice_index marks) columns is.limits is.order p p_in)
            (held_behind old.geometry erased row marks columns is.limits is.inside is.marked is.order p (omega arith) p_in)

        stays : StaysFound x old new
        stays =
            row_stays x row columns _ _ old.geometry.m (data_chunks old.geometry) 0 (count_in_row erased row) old new is_known is_wanted
            canonical (omega arith) solves known

        found : (j : ℕ) → j < old.geometry.n → IsFound x new row j
        found j j_in =
            let one = place_of old.geometry (slice_index marks) columns is.limits is.order j j_in in
            subst (λ (t : ℕ). IsFound x new row t) one.2
            (elim (cases_lt one.0 (count_in_row erased row)) [
              | inl first ↦
                  row_found x row columns _ _ old.geometry.m (data_chunks old.geometry) 0 (count_in_row erased row) old new is_known
                  is_wanted canonical (omega arith) solves known one.0 (omega arith) (omega arith)
              | inr behind ↦
                  stays row (slice_index columns one.0)
                  (given.held row (slice_index columns one.0) is.row_in
                  (chunk_at old.geometry (slice_index marks) columns is.limits is.order one.0 one.1)
                  (held_behind old.geometry erased row marks columns is.limits is.inside is.marked is.order one.0 behind one.1))
            ])

-- of the rows before this one those with at most m erased cells are found
abbrev pub FindsLightRowsBefore : CellSet → ℕ → CanonicalStripe → CanonicalStripe → Type 0
FindsLightRowsBefore erased row old new =
    (x : ℕ → Word) → AreCanonical old.geometry x → HasGiven old.geometry erased x old →
    StaysFound x old new
    × ((i j : ℕ) → i < row → count_in_row erased i ≤ old.geometry.m → j < old.geometry.n → IsFound x new i j)

pub FindsLightRowsBefore-none : (erased : CellSet) (c : CanonicalStripe) → FindsLightRowsBefore erased 0 c c
FindsLightRowsBefore-none erased c x canonical given = (λ i j found. found, λ i j none light j_in. absurd (omega arith))

module _ (erased : CellSet) (row : ℕ) (old mid : CanonicalStripe) (same : mid.geometry ≡ old.geometry)
    (before : FindsLightRowsBefore erased row old mid) where
  -- a row with more erased cells
  pub FindsLightRowsBefore-heavy : old.geometry.m < count_in_row erased row → FindsLightRowsBefore erased (row + 1) old mid
  FindsLightRowsBefore-heavy heavy x canonical given =
      let earlier = before x canonical given in (
        earlier.0,
        λ i j i_in light j_in.
            elim (cases_eq i row) [
              | inl here ↦ absurd (omega (arith, heavy, light, ap (count_in_row erased) here))
              | inr apart ↦ earlier.1 i j (omega arith) light j_in
            ],
      )

  -- a row that was solved
  pub FindsLightRowsBefore-more : (new : CanonicalStripe) → FindsLightRow erased row mid new → FindsLightRowsBefore erased (row + 1) old new
  FindsLightRowsBefore-more new finds x canonical given =
      let earlier = before x canonical given in
      let here : StaysFound x mid new × ((j : ℕ) → j < old.geometry.n → IsFound x new row j) =
      subst (λ (g : Geometry). AreCanonical g x → HasGiven g erased x mid → StaysFound x mid new × ((j : ℕ) → j < g.n → IsFound x new row j))
      same (finds x) canonical (HasGiven-stays old.geometry erased x old mid earlier.0 given)
      in (
        λ i j found. here.0 i j (earlier.0 i j found),
        λ i j i_in light j_in.
            elim (cases_eq i row) [
              | inl is_row ↦ subst (λ (s : ℕ). IsFound x new s j) (sym is_row) (here.1 j j_in)
              | inr apart ↦ here.0 i j (earlier.1 i j (omega arith) light j_in)
            ],
      )

  -- of all rows: what isn't found is the rest
  pub FindsLightRows-all : old.geometry.r ≤ row → FindsLightRows erased old mid
  FindsLightRows-all all x canonical given =
      let found = before x canonical given in
      let stays = HasGiven-stays old.geometry erased x old mid found.0 given in
      record {
        held = λ i j i_in j_in left.
            elim (cases_lt old.geometry.m (count_in_row erased i)) [
              | inl heavy ↦ stays.held i j i_in j_in (λ has. left ((in_rest old.geometry erased i j).1 (has, heavy)))
              | inr light ↦ found.1 i j (omega (arith, all)) light j_in
            ];
        zeros = stays.zeros;
      }
