-- Covered erased cells are determined by the held ones, virtual row after virtual row: of n-m chunks with few erased cells,
-- those with at most h follow from their held cells and h virtual symbols, and virtual row h follows from these chunks and
-- the global zeros that stand in for all others.
use Rattle.std.proofs.Common.{◌≡◌, ℕ, zero, suc, ◌+◌, ◌-◌, ◌<◌, ◌≤◌, Bool, false, inl, inr, sym, ap, subst, ◌∙◌, arith, slice_index, List, nat_lt, if◌then◌else◌}
use Rattle.std.proofs.lemmas.Bool.{cases_lt, lt-ltb, le-ltb, cond-true, cond-false, false≢true, and_left, and_from}
use Rattle.std.specs.Prelude.{◌&&◌}
use Rattle.std.proofs.lemmas.List.{get_or-map}
use Rattle.std.proofs.lemmas.List.Elements.{All-get_or}
use Rattle.stair_model.specs.Sum.{sum_below}
use Rattle.stair_model.specs.CauchyCode.{AreDistinct}
use Rattle.stair_model.specs.Geometry.{Geometry, IsWithinLimits, classes, coverage, data_chunks, greatest_coverage}
use Rattle.stair_model.specs.CellSet.{CellSet, has_cell, HasCell, count_in_row, count_in_slot}
use Rattle.stair_model.specs.Coverage.{HasCoveredChunks, IsCovered, rest}
use Rattle.stair_model.specs.Stripe.{Stripe, IsStripeOf, IsWellFormed}
use Rattle.stair_model.specs.Codeword.{Word, IsCodeword}
use Rattle.stair_model.specs.Canonical.{canonical_chunks, canonical_rows, IsRowCodeword, IsColumnCodeword, IsCanonicalCodeword}
use Rattle.stair_model.specs.Restoring.{SameHeld}
use Rattle.stair_model.proofs.CountLaws.{sum_below_le, sum_below_longer, sum_below_tail}
use Rattle.stair_model.proofs.CellLaws.{coverage_le}
use Rattle.stair_model.proofs.CanonicalLaws.{coverage_le_greatest}
use Rattle.stair_model.proofs.PlaceLaws.{ArePlaces, same_from_places}
use Rattle.stair_model.proofs.AgreementLaws.{same_from_kept}
use Rattle.stair_model.proofs.OrderLaws.{HasEachOnce-permutation}
use Rattle.stair_model.proofs.CoverageLaws.{covered_order}
use Rattle.stair_model.proofs.RestLaws.{in_rest}
use Rattle.stair_model.proofs.EncodingLaws.{codewords_from_canonical}

-- ---- n-m chunks with few erased cells

-- n-m chunks, of which number k has at most e_{m'-1-k} erased cells, or none from k = m' on
pub record HaveFewErased (g : Geometry) (erased : CellSet) (chunk : ℕ → ℕ) : Type 0 where
  pub below : (k : ℕ) → k < data_chunks g → chunk k < g.n
  pub distinct : AreDistinct (data_chunks g) chunk
  pub few : (k : ℕ) → k < classes g → count_in_slot erased (chunk k) ≤ coverage g (classes g - 1 - k)
  pub none : (k : ℕ) → classes g ≤ k → k < data_chunks g → count_in_slot erased (chunk k) ≡ 0

-- erased cells of whole chunks and of further ones leave such chunks: those past the first m in order of their counts
pub few_erased : (g : Geometry) (erased : CellSet) → IsWithinLimits g → HasCoveredChunks g erased
    → (chunk : ℕ → ℕ) × HaveFewErased g erased chunk
few_erased g erased limits covered =
    let found = covered_order g erased covered in
    let order = found.0 in
    let once = HasEachOnce-permutation g.n order found.1.permutation in
    let at = λ (k : ℕ) (k_in : k < data_chunks g).
    get_or-map (count_in_slot erased) order (g.m + k) 0 0 (omega (arith, once.count)) in (
      λ k. slice_index order (g.m + k),
      record {
        below = λ k k_in. All-get_or (λ j. j < g.n) order (g.m + k) 0 (omega (arith, once.count)) once.below;
        distinct = λ k l k_in l_in same.
            let places = once.distinct (g.m + k) (g.m + l) (omega arith) (omega arith) same in omega arith;
        few = λ k k_in.
            let k_below : k < data_chunks g = omega (arith, limits.covered_chunks.1) in
            omega (arith, at k k_below, found.1.within.partial_chunks k k_in (omega arith));
        none = λ k from k_in. sym (at k k_in) ∙ found.1.within.intact_chunks (g.m + k) (omega arith) (omega arith);
      },
    )

-- ---- a chunk by its held cells and as many virtual symbols as it has erased cells

-- two chunks that agree at these agree everywhere
pub chunk_from_held : (g : Geometry) (erased : CellSet) (j : ℕ) (c d : ℕ → ℕ) (h b : ℕ) → IsWithinLimits g
    → IsColumnCodeword g c → IsColumnCodeword g d → count_in_slot erased j ≤ h → h ≤ greatest_coverage g
    → ((i : ℕ) → i < g.r → ¬ HasCell erased i j → c i ≡ d i)
    → ((t : ℕ) → t < h → c (g.r + t) ≡ d (g.r + t))
    → b < canonical_rows g → c b ≡ d b
chunk_from_held g erased j c d h b limits first second few h_in cells virtual within =
    let last = coverage_le g limits (classes g - 1) (omega (arith, limits.covered_chunks.0)) in
    same_from_kept g.r (canonical_rows g) (g.r + h) lost c d b (omega arith)
    (omega (arith, last.1, limits.rows.1))
    (omega (arith, lost_le, sum_below_longer mark g.r 32 limits.rows.1)) first second agree within
  where
    mark : ℕ → ℕ
    mark i = if has_cell erased i j then 1 else 0

    lost : ℕ → Bool
    lost i = nat_lt i g.r && has_cell erased i j

    lost_mark : ℕ → ℕ
    lost_mark i = if lost i then 1 else 0

    lost_le : sum_below (g.r + h) lost_mark ≤ sum_below g.r mark
    lost_le =
        let rows : sum_below (g.r + h) lost_mark ≡ sum_below g.r lost_mark =
        sum_below_tail g.r (g.r + h) lost_mark (omega arith) (λ i from to. cond-false _ _ _ (and_left _ (has_cell erased i j) (le-ltb i g.r from))) in
        let each : sum_below g.r lost_mark ≤ sum_below g.r mark =
        sum_below_le g.r lost_mark mark (λ i row. let e : lost_mark i ≡ mark i = ap (λ (b : Bool). if b && has_cell erased i j then 1 else 0) (lt-ltb i g.r row) in omega arith) in
        omega arith

    agree : (i : ℕ) → i < g.r + h → lost i ≡ false → c i ≡ d i
    agree i i_in kept =
        elim (cases_lt i g.r) [
          | inl row ↦ cells i row (λ has. false≢true (sym kept ∙ and_from _ _ (lt-ltb i g.r row) has))
          | inr past ↦
              let place : g.r + (i - g.r) ≡ i = omega arith in
              subst (λ (p : ℕ). c p ≡ d p) place (virtual (i - g.r) (omega arith))
        ]

-- ---- a row by the chunks with few enough erased cells, and the zeros that stand in for the others

-- chunk number k, or where it has more than h erased cells the intermediate chunk of its class
standing_in : Geometry → CellSet → (ℕ → ℕ) → ℕ → ℕ → ℕ
standing_in g erased chunk h k = if nat_lt h (count_in_slot erased (chunk k)) then g.n + (classes g - 1 - k) else chunk k

module _ (g : Geometry) (erased : CellSet) (chunk : ℕ → ℕ) (limits : IsWithinLimits g) (have : HaveFewErased g erased chunk) where
  stays : (h k : ℕ) → count_in_slot erased (chunk k) ≤ h → standing_in g erased chunk h k ≡ chunk k
  unfolding standing_in
  stays h k few = cond-false _ _ _ (le-ltb h (count_in_slot erased (chunk k)) few)

  goes : (h k : ℕ) → h < count_in_slot erased (chunk k) → standing_in g erased chunk h k ≡ g.n + (classes g - 1 - k)
  unfolding standing_in
  goes h k many = cond-true _ _ _ (lt-ltb h (count_in_slot erased (chunk k)) many)

  -- a chunk with more than h erased cells is one of the first m', and its class covers h
  class_in : (h k : ℕ) → k < data_chunks g → h < count_in_slot erased (chunk k)
      → (k < classes g) × (h < coverage g (classes g - 1 - k))
  class_in h k k_in many =
      elim (cases_lt k (classes g)) [
        | inl within ↦ (within, omega (arith, have.few k within))
        | inr past ↦ absurd (omega (arith, have.none k past k_in))
      ]

  row_places : (h : ℕ) → ArePlaces (data_chunks g) (canonical_chunks g) (standing_in g erased chunk h)
  row_places h = record {
    below = λ k k_in.
        elim (cases_lt h (count_in_slot erased (chunk k))) [
          | inl many ↦ omega (arith, goes h k many, (class_in h k k_in many).0)
          | inr few ↦ omega (arith, stays h k few, have.below k k_in)
        ];
    distinct = λ k l k_in l_in same.
        elim (cases_lt h (count_in_slot erased (chunk k))) [
          | inl many ↦
              elim (cases_lt h (count_in_slot erased (chunk l))) [
                | inl many' ↦ omega (arith, goes h k many, goes h l many', (class_in h k k_in many).0, (class_in h l l_in many').0)
                | inr few' ↦ absurd (omega (arith, goes h k many, stays h l few', have.below l l_in))
              ]
          | inr few ↦
              elim (cases_lt h (count_in_slot erased (chunk l))) [
                | inl many' ↦ absurd (omega (arith, stays h k few, goes h l many', have.below k k_in))
                | inr few' ↦ have.distinct k l k_in l_in (sym (stays h k few) ∙ same ∙ stays h l few')
              ]
        ];
  }

  -- two rows that agree at these agree everywhere
  pub row_from_few : (h : ℕ) (c d : ℕ → ℕ) (b : ℕ) → IsRowCodeword g c → IsRowCodeword g d
      → ((k : ℕ) → k < data_chunks g → count_in_slot erased (chunk k) ≤ h → c (chunk k) ≡ d (chunk k))
      → ((l : ℕ) → l < classes g → h < coverage g l → c (g.n + l) ≡ d (g.n + l))
      → b < canonical_chunks g → c b ≡ d b
  row_from_few h c d b first second chunks zeros within =
      same_from_places (data_chunks g) (canonical_chunks g) (standing_in g erased chunk h) c d b (omega arith)
      (omega (arith, limits.devices.1, limits.covered_chunks.1)) (row_places h) first second agree within
    where
      agree : (k : ℕ) → k < data_chunks g → c (standing_in g erased chunk h k) ≡ d (standing_in g erased chunk h k)
      agree k k_in =
          elim (cases_lt h (count_in_slot erased (chunk k))) [
            | inl many ↦
                let class = class_in h k k_in many in
                subst (λ (p : ℕ). c p ≡ d p) (sym (goes h k many)) (zeros (classes g - 1 - k) (omega (arith, class.0)) class.1)
            | inr few ↦ subst (λ (p : ℕ). c p ≡ d p) (sym (stays h k few)) (chunks k k_in few)
          ]

-- ---- canonical codewords, virtual row after virtual row

-- the held cells of two words are the same
abbrev pub SameHeldCells : Geometry → CellSet → Word → Word → Type 0
SameHeldCells g erased x y = (i j : ℕ) → i < g.r → j < g.n → ¬ HasCell erased i j → x i j ≡ y i j

module _ (g : Geometry) (erased : CellSet) (limits : IsWithinLimits g) (chunk : ℕ → ℕ)
    (have : HaveFewErased g erased chunk) (x y : Word) (first : IsCanonicalCodeword g x) (second : IsCanonicalCodeword g y)
    (cells : SameHeldCells g erased x y) where
  -- the first h virtual rows are the same in both
  abbrev SameTo : ℕ → Type 0
  SameTo h = (t j : ℕ) → t < h → j < canonical_chunks g → x (g.r + t) j ≡ y (g.r + t) j

  -- then so are the chunks with at most h erased cells
  chunk_same : (h : ℕ) → SameTo h → h ≤ greatest_coverage g → (j i : ℕ) → j < g.n → count_in_slot erased j ≤ h
      → i < canonical_rows g → x i j ≡ y i j
  chunk_same h earlier h_in j i j_in few i_in =
      chunk_from_held g erased j (λ t. x t j) (λ t. y t j) h i limits (first.chunks j (omega arith))
      (second.chunks j (omega arith)) few h_in (λ t row kept. cells t j row j_in kept) (λ t t_in. earlier t j t_in (omega arith)) i_in

  -- and the next virtual row
  virtual_row_same : (h : ℕ) → SameTo h → h < greatest_coverage g → (j : ℕ) → j < canonical_chunks g → x (g.r + h) j ≡ y (g.r + h) j
  virtual_row_same h earlier h_in j j_in =
      row_from_few g erased chunk limits have h (x (g.r + h)) (y (g.r + h)) j (first.rows (g.r + h) (omega arith))
      (second.rows (g.r + h) (omega arith))
      (λ k k_in few. chunk_same h earlier (omega arith) (chunk k) (g.r + h) (have.below k k_in) few (omega arith))
      (λ l l_in covers. first.zeros l h l_in covers ∙ sym (second.zeros l h l_in covers))
      j_in

  -- hence all of them are
  virtual_rows_same : (h : ℕ) → h ≤ greatest_coverage g → SameTo h
  virtual_rows_same zero fits t j before j_in = absurd (omega arith)
  virtual_rows_same (suc h) fits t j before j_in =
      elim (cases_lt t h) [
        | inl earlier ↦ virtual_rows_same h (omega arith) t j earlier j_in
        | inr last ↦
            let here : h ≡ t = omega arith in
            subst (λ (u : ℕ). x (g.r + u) j ≡ y (g.r + u) j) here
            (virtual_row_same h (virtual_rows_same h (omega arith)) (omega arith) j j_in)
      ]

  -- the held cells determine a canonical codeword
  pub canonical_restored : (i j : ℕ) → i < canonical_rows g → j < canonical_chunks g → x i j ≡ y i j
  canonical_restored i j i_in j_in =
      row_from_few g erased chunk limits have (greatest_coverage g) (x i) (y i) j (first.rows i i_in) (second.rows i i_in)
      (λ k k_in few.
      chunk_same (greatest_coverage g) (virtual_rows_same (greatest_coverage g) (omega arith)) (omega arith) (chunk k) i
      (have.below k k_in) few i_in)
      (λ l l_in covers. absurd (omega (arith, coverage_le_greatest g limits l l_in)))
      j_in

-- ---- rows with at most m erased cells

-- two rows that agree at the held cells agree everywhere
row_from_held : (g : Geometry) (erased : CellSet) (i : ℕ) (c d : ℕ → ℕ) (b : ℕ) → IsWithinLimits g → count_in_row erased i ≤ g.m
    → IsRowCodeword g c → IsRowCodeword g d → ((j : ℕ) → j < g.n → ¬ HasCell erased i j → c j ≡ d j)
    → b < canonical_chunks g → c b ≡ d b
row_from_held g erased i c d b limits few first second held within =
    same_from_kept (data_chunks g) (canonical_chunks g) g.n (has_cell erased i) c d b (omega arith)
    (omega (arith, limits.devices.1, limits.covered_chunks.1))
    (omega (arith, limits.majority, sum_below_longer (λ j. if has_cell erased i j then 1 else 0) g.n 32 limits.devices.1))
    first second (λ j j_in kept. held j j_in (λ has. false≢true (sym kept ∙ has))) within

-- so of canonical codewords with the same held cells only those of the rest may differ
pub rest_same : (g : Geometry) (erased : CellSet) (x y : Word) → IsWithinLimits g → IsCanonicalCodeword g x → IsCanonicalCodeword g y
    → SameHeldCells g erased x y → SameHeldCells g (rest g erased) x y
rest_same g erased x y limits first second cells i j i_in j_in kept =
    elim (cases_lt g.m (count_in_row erased i)) [
      | inl many ↦ cells i j i_in j_in (λ has. kept ((in_rest g erased i j).1 (has, many)))
      | inr few ↦
          row_from_held g erased i (x i) (y i) j limits few (first.rows i (omega arith)) (second.rows i (omega arith))
          (λ s s_in. cells i s i_in s_in) (omega arith)
    ]

-- ---- stripes

-- codewords with the same held cells are the same
pub restoring_determined : (g : Geometry) (erased : CellSet) (a b : Stripe) → IsWithinLimits g
    → IsCovered g erased → IsStripeOf g a → IsWellFormed a → IsCodeword g a → IsStripeOf g b → IsWellFormed b → IsCodeword g b
    → SameHeld g erased a b → a ≡ b
restoring_determined g erased a b limits covered a_of a_formed a_codeword b_of b_formed b_codeword same =
    let chunks = few_erased g (rest g erased) limits covered in
    codewords_from_canonical g a b limits a_of a_formed a_codeword b_of b_formed b_codeword
    (λ p x y p_in first second x_is y_is i j row chunk.
    canonical_restored g (rest g erased) limits chunks.0 chunks.1 x y first second
    (rest_same g erased x y limits first second
    (λ s c s_in c_in kept.
    x_is s c s_in c_in ∙ ap (λ (bytes : List ℕ). slice_index bytes p) (same s c s_in c_in kept) ∙ sym (y_is s c s_in c_in)))
    i j (omega arith) (omega arith))
