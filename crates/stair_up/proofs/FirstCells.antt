-- The erased cells of a row in the first m chunks of the order, from all other chunks.
use Rattle.std.proofs.Common.{◌≡◌, ℕ, ◌+◌, ◌-◌, ◌*◌, ◌<◌, ◌≤◌, List, length, take, drop, slice_index, refl, inl, inr, sym, subst, ap, ap₂, arith}
use Rattle.std.specs.Prelude.{Contains}
use Rattle.std.proofs.lemmas.Bool.{cases_eq, cases_lt}
use Rattle.stair_model.specs.Geometry.{Geometry, IsWithinLimits, data_chunks}
use Rattle.stair_model.specs.Canonical.{canonical_chunks}
use Rattle.stair_model.specs.CauchyCode.{AreKnownPlaces}
use Rattle.stair_model.specs.CellSet.{CellSet, HasCell, count_in_slot}
use Rattle.stair_model.specs.Codeword.{Word}
use Rattle.stair_mds.specs.Solving.{AreWantedPlaces}
use Rattle.stair_canon.specs.Canonical.{CanonicalStripe}
use Rattle.stair_canon.specs.Solving.{SolvesRow, row_shape}
use Rattle.stair_canon.specs.Order.{AreInOrder}
use Rattle.stair_up.specs.SolveSteps.{AreCanonical, IsFound, HasGiven, StaysFound, FindsRow, FindsStretch, Keeps}
use Rattle.stair_mds.proofs.Stretches.{IsStretch, IsStretch-range, wanted_stretch, place_in_stretch}
use Rattle.stair_up.proofs.Finds.{row_found, row_stays, Keeps-changes}
use Rattle.stair_canon.proofs.Columns.{columns_once, chunk_at, last_chunks, last_chunks_known}

-- of a row whose cells in the chunks from place m on were found, those before this place are found too
abbrev pub FindsBefore : CellSet → List ℕ → ℕ → ℕ → CanonicalStripe → CanonicalStripe → Type 0
FindsBefore erased columns row place old new =
    (x : ℕ → Word) → AreCanonical old.geometry x → HasGiven old.geometry erased x old →
    ((p : ℕ) → old.geometry.m ≤ p → p < old.geometry.n → IsFound x old row (slice_index columns p)) →
    StaysFound x old new × ((p : ℕ) → p < place → IsFound x new row (slice_index columns p))

module _ (old : CanonicalStripe) (erased : CellSet) (columns : List ℕ) (limits : IsWithinLimits old.geometry)
    (order : AreInOrder old.geometry (count_in_slot erased) columns) (from to : ℕ) (rising : from ≤ to) (first : to ≤ old.geometry.m)
    (n m row : ℕ) (is_n : n ≡ old.geometry.n) (is_m : m ≡ old.geometry.m) (row_in : row < old.geometry.r) where
  long : canonical_chunks old.geometry ≤ length columns
  long = (columns_once old.geometry (count_in_slot erased) columns limits order).long

  pub is_known : IsStretch old.geometry.m (data_chunks old.geometry) columns (take (n - m) (drop m columns))
  is_known = last_chunks old.geometry (count_in_slot erased) columns limits order n m is_n is_m

  pub is_wanted : IsStretch from (to - from) columns (take (to - from) (drop from columns))
  is_wanted = IsStretch-range columns from (to - from) from to refl (omega arith) (omega (arith, limits.majority, long))

  pub may_know : AreKnownPlaces (data_chunks old.geometry) (canonical_chunks old.geometry) (take (n - m) (drop m columns))
  may_know = last_chunks_known old.geometry (count_in_slot erased) columns limits order n m is_n is_m

  pub may_want : AreWantedPlaces (row_shape old.geometry) (take (n - m) (drop m columns)) (take (to - from) (drop from columns))
  may_want =
      wanted_stretch (canonical_chunks old.geometry) (row_shape old.geometry) old.geometry.m (data_chunks old.geometry) from (to - from) columns _ _
      (columns_once old.geometry (count_in_slot erased) columns limits order) is_known is_wanted (omega (arith, limits.majority))
      (omega (arith, limits.majority)) (inl (omega arith))

  pub stretch_cost : (steps : ℕ) → steps + length (take (n - m) (drop m columns)) * length (take (to - from) (drop from columns))
      ≡ steps + data_chunks old.geometry * (to - from)
  stretch_cost steps = ap (λ (s : ℕ). steps + s) (ap₂ (λ (a b : ℕ). a * b) is_known.many is_wanted.many)

  module _ (new : CanonicalStripe)
      (solves : SolvesRow row (take (n - m) (drop m columns)) (take (to - from) (drop from columns)) old new) where
    pub keeps_stretch : ((p : ℕ) → from ≤ p → p < to → HasCell erased row (slice_index columns p)) → Keeps erased old new
    keeps_stretch are_erased =
        Keeps-changes erased old new (λ i j. (i ≡ row) × Contains (take (to - from) (drop from columns)) j) solves.changes
        (λ i j i_in j_in not_erased is_solved.
        let one = place_in_stretch from (to - from) columns _ is_wanted j is_solved.1 in
        not_erased (subst (λ (s : ℕ). HasCell erased s j) (sym is_solved.0)
        (subst (λ (t : ℕ). HasCell erased row t) one.3 (are_erased one.0 one.1 (omega (arith, one.2))))))

    pub finds_stretch : FindsStretch columns row from to old new
    finds_stretch x canonical known = (
      row_stays x row columns _ _ old.geometry.m (data_chunks old.geometry) from (to - from) old new is_known is_wanted canonical
          (omega arith) solves (λ p low high. known p low (omega (arith, limits.majority))),
      λ p above below.
          row_found x row columns _ _ old.geometry.m (data_chunks old.geometry) from (to - from) old new is_known is_wanted canonical
          (omega arith) solves (λ q low high. known q low (omega (arith, limits.majority))) p above (omega arith),
    )

-- no chunk
pub FindsStretch-none : (columns : List ℕ) (row from to : ℕ) (c : CanonicalStripe) → to ≤ from → FindsStretch columns row from to c c
FindsStretch-none columns row from to c none x canonical known = (λ i j found. found, λ p above below. absurd (omega arith))

-- none yet
pub FindsBefore-none : (erased : CellSet) (columns : List ℕ) (row : ℕ) (c : CanonicalStripe) → FindsBefore erased columns row 0 c c
FindsBefore-none erased columns row c x canonical given known = (λ i j found. found, λ p before. absurd (omega arith))

module _ (erased : CellSet) (columns : List ℕ) (row place : ℕ) (old mid : CanonicalStripe) (same : mid.geometry ≡ old.geometry)
    (before : FindsBefore erased columns row place old mid) where
  -- a cell that isn't erased
  pub FindsBefore-held : IsWithinLimits old.geometry → AreInOrder old.geometry (count_in_slot erased) columns → row < old.geometry.r → place < old.geometry.n
      → ¬ HasCell erased row (slice_index columns place) → FindsBefore erased columns row (place + 1) old mid
  FindsBefore-held limits order row_in place_in held x canonical given known =
      let earlier = before x canonical given known in (
        earlier.0,
        λ p below.
            elim (cases_eq p place) [
              | inl here ↦
                  subst (λ (t : ℕ). IsFound x mid row (slice_index columns t)) (sym here)
                  (earlier.0 row (slice_index columns place)
                  (given.held row (slice_index columns place) row_in (chunk_at old.geometry (count_in_slot erased) columns limits order place place_in) held))
              | inr apart ↦ earlier.1 p (omega arith)
            ],
      )

  -- cells that were solved
  pub FindsBefore-solved : (to : ℕ) (new : CanonicalStripe) → FindsStretch columns row place to mid new → FindsBefore erased columns row to old new
  FindsBefore-solved to new finds x canonical given known =
      let earlier = before x canonical given known in
      let further =
      finds x (subst (λ (g : Geometry). AreCanonical g x) (sym same) canonical)
      (subst (λ (g : Geometry). (p : ℕ) → g.m ≤ p → p < g.n → IsFound x mid row (slice_index columns p)) (sym same)
      (λ p low high. earlier.0 row (slice_index columns p) (known p low high))) in (
        λ i j found. further.0 i j (earlier.0 i j found),
        λ p below.
            elim (cases_lt p place) [
              | inl first ↦ further.0 row (slice_index columns p) (earlier.1 p first)
              | inr behind ↦ further.1 p behind below
            ],
      )

  -- all of them
  pub FindsRow-all : old.geometry.m ≤ place → FindsRow erased columns row old mid
  FindsRow-all all x canonical given known =
      let earlier = before x canonical given known in (
        earlier.0,
        λ p below.
            elim (cases_lt p old.geometry.m) [
              | inl first ↦ earlier.1 p (omega arith)
              | inr last ↦ earlier.0 row (slice_index columns p) (known p last below)
            ],
      )
