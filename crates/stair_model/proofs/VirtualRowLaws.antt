-- A canonical codeword by its data cells, virtual row after virtual row: they determine it, and may hold any bytes.
use Rattle.std.proofs.Common.{◌≡◌, ℕ, zero, suc, ◌+◌, ◌-◌, ◌<◌, ◌≤◌, inl, inr, refl, sym, ◌∙◌, ap, subst, arith, nat_lt, ◌==◌, if◌then◌else◌}
use Rattle.std.proofs.lemmas.Bool.{cases_lt, lt-ltb, le-ltb, eq-eqb, ne_eqb, cond-true, cond-false}
use Rattle.stair_model.specs.Field.{product}
use Rattle.stair_model.specs.Geometry.{Geometry, IsWithinLimits, classes, coverage, data_chunks, greatest_coverage}
use Rattle.stair_model.specs.Matrix.{row_coefficient, column_coefficient}
use Rattle.stair_model.specs.Codeword.{Word, row_sum}
use Rattle.stair_model.specs.Canonical.{canonical_chunks, canonical_rows, IsColumnCodeword, IsCanonicalCodeword}
use Rattle.stair_model.proofs.SumLaws.{field_sum_same}
use Rattle.stair_model.proofs.CanonicalLaws.{coverage_le_greatest, product_law}
use Rattle.stair_model.proofs.PlaceLaws.{same_codeword}
use Rattle.stair_model.proofs.KnownSymbolLaws.{globals_of, globals_of_le, chunk_determined, IsChunkThrough, chunk_through, row_determined, IsRowThrough, row_through}

-- ---- the data cells determine a canonical codeword

-- the data cells of two words are the same
abbrev pub SameDataCells : Geometry → Word → Word → Type 0
SameDataCells g x y = (i j : ℕ) → j < data_chunks g → i < g.r - globals_of g j → x i j ≡ y i j

-- where the virtual rows before it are the same in all data chunks, virtual row h is
virtual_row_same : (g : Geometry) (x y : Word) (h : ℕ) → IsWithinLimits g → IsCanonicalCodeword g x → IsCanonicalCodeword g y
    → SameDataCells g x y → ((t j : ℕ) → t < h → j < data_chunks g → x (g.r + t) j ≡ y (g.r + t) j)
    → h < greatest_coverage g → (j : ℕ) → j < data_chunks g → x (g.r + h) j ≡ y (g.r + h) j
virtual_row_same g x y h limits first second cells earlier h_in j j_in =
    row_determined g h (x (g.r + h)) (y (g.r + h)) j limits (first.rows (g.r + h) (omega arith)) (second.rows (g.r + h) (omega arith))
    (λ c c_in none.
    chunk_determined g c (λ i. x i c) (λ i. y i c) (g.r + h) limits (first.chunks c (omega arith)) (second.chunks c (omega arith))
    (λ i above. cells i c c_in above) (λ t t_in. earlier t c (omega arith) c_in) (omega arith))
    (λ l l_in covers. first.zeros l h l_in covers ∙ sym (second.zeros l h l_in covers))
    (omega arith)

virtual_rows_same : (g : Geometry) (x y : Word) → IsWithinLimits g → IsCanonicalCodeword g x → IsCanonicalCodeword g y
    → SameDataCells g x y → (h : ℕ) → h ≤ greatest_coverage g
    → (t j : ℕ) → t < h → j < data_chunks g → x (g.r + t) j ≡ y (g.r + t) j
virtual_rows_same g x y limits first second cells zero fits t j before chunk = absurd (omega arith)
virtual_rows_same g x y limits first second cells (suc h) fits t j before chunk =
    elim (cases_lt t h) [
      | inl earlier ↦ virtual_rows_same g x y limits first second cells h (omega arith) t j earlier chunk
      | inr last ↦
          let here : h ≡ t = omega arith in
          subst (λ (u : ℕ). x (g.r + u) j ≡ y (g.r + u) j) here
          (virtual_row_same g x y h limits first second cells
          (virtual_rows_same g x y limits first second cells h (omega arith)) (omega arith) j chunk)
    ]

-- the data cells determine a canonical codeword
pub canonical_determined : (g : Geometry) (x y : Word) → IsWithinLimits g → IsCanonicalCodeword g x → IsCanonicalCodeword g y
    → SameDataCells g x y → (i j : ℕ) → i < canonical_rows g → j < canonical_chunks g → x i j ≡ y i j
canonical_determined g x y limits first second cells i j i_in j_in =
    row_determined g (greatest_coverage g) (x i) (y i) j limits (first.rows i i_in) (second.rows i i_in)
    (λ c c_in none.
    chunk_determined g c (λ t. x t c) (λ t. y t c) i limits (first.chunks c (omega arith)) (second.chunks c (omega arith))
    (λ t above. cells t c c_in above)
    (λ t t_in. virtual_rows_same g x y limits first second cells (greatest_coverage g) (omega arith) t c (omega arith) c_in)
    i_in)
    (λ l l_in covers. absurd (omega (arith, coverage_le_greatest g limits l l_in)))
    j_in

-- ---- and they may hold any bytes

-- the chunks are codewords of the column code, and before virtual row h the global equations hold
record IsFilledTo (g : Geometry) (h : ℕ) (x : Word) : Type 0 where
  chunks : (j : ℕ) → IsColumnCodeword g (λ i. x i j)
  zeros : (l t : ℕ) → l < classes g → t < h → t < coverage g l → row_sum g x (g.r + t) (g.m + l) ≡ 0

-- row i with zeros past the data chunks
row_of : Geometry → Word → ℕ → ℕ → ℕ
row_of g x i j = if nat_lt j (data_chunks g) then x i j else 0

row_of_chunk : (g : Geometry) (x : Word) (i j : ℕ) → j < data_chunks g → row_of g x i j ≡ x i j
unfolding row_of
row_of_chunk g x i j chunk = cond-true _ _ _ (lt-ltb j (data_chunks g) chunk)

row_of_past : (g : Geometry) (x : Word) (i j : ℕ) → data_chunks g ≤ j → row_of g x i j ≡ 0
unfolding row_of
row_of_past g x i j past = cond-false _ _ _ (le-ltb j (data_chunks g) past)

-- v with another symbol at place p
changed : ℕ → ℕ → (ℕ → ℕ) → ℕ → ℕ
changed p b v i = if i == p then b else v i

changed_here : (p b : ℕ) (v : ℕ → ℕ) → changed p b v p ≡ b
unfolding changed
changed_here p b v = cond-true _ _ _ (eq-eqb p p refl)

changed_other : (p b : ℕ) (v : ℕ → ℕ) (i : ℕ) → (i ≡ p → ⊥) → changed p b v i ≡ v i
unfolding changed
changed_other p b v i other = cond-false _ _ _ (ne_eqb i p other)

-- one virtual row further
filled_further : (g : Geometry) (x : Word) (h : ℕ) → IsWithinLimits g → IsFilledTo g h x → h < greatest_coverage g
    → (y : Word) × IsFilledTo g (suc h) y × SameDataCells g y x
filled_further g x h limits filled h_in = (y, record { chunks = λ j. (chunk j).1.codeword; zeros = zeros }, cells)
  where
    row : (c : ℕ → ℕ) × IsRowThrough g h (row_of g x (g.r + h)) c
    row = row_through g h (row_of g x (g.r + h)) limits

    target : ℕ → ℕ → ℕ
    target j = changed (g.r + h) (row.0 j) (λ i. x i j)

    chunk : (j : ℕ) → (c : ℕ → ℕ) × IsChunkThrough g j (target j) c
    chunk j = chunk_through g j (target j) limits

    y : Word
    y i j = (chunk j).0 i

    cells : SameDataCells g y x
    cells i j j_in above =
        let same : target j i ≡ x i j = changed_other (g.r + h) (row.0 j) (λ t. x t j) i (λ e. omega arith) in
        (chunk j).1.cells i above (subst (λ (b : ℕ). b < 256) (sym same) ((filled.chunks j).bytes i (omega arith))) ∙ same

    -- a virtual symbol of another row, within the chunk's global parities
    apart : (t j : ℕ) → (t ≡ h → ⊥) → t < globals_of g j → y (g.r + t) j ≡ x (g.r + t) j
    apart t j other within =
        let same : target j (g.r + t) ≡ x (g.r + t) j =
        changed_other (g.r + h) (row.0 j) (λ i. x i j) (g.r + t) (λ e. other (omega arith))
        in
        (chunk j).1.virtual t within
        (subst (λ (b : ℕ). b < 256) (sym same) ((filled.chunks j).bytes (g.r + t) (omega (arith, (globals_of_le g limits j).1)))) ∙ same

    -- a chunk with no global parity of number h stays as it was
    whole : (j i : ℕ) → j < data_chunks g → globals_of g j ≤ h → i < canonical_rows g → y i j ≡ x i j
    whole j i j_in none i_in =
        chunk_determined g j (λ t. y t j) (λ t. x t j) i limits (chunk j).1.codeword (filled.chunks j)
        (λ t above. cells t j j_in above) (λ t t_in. apart t j (λ e. omega arith) t_in) i_in

    -- the earlier virtual rows are as they were
    before : (t j : ℕ) → t < h → j < data_chunks g → y (g.r + t) j ≡ x (g.r + t) j
    before t j t_in j_in =
        elim (cases_lt t (globals_of g j)) [
          | inl within ↦ apart t j (λ e. omega arith) within
          | inr past ↦ whole j (g.r + t) j_in (omega arith) (omega arith)
        ]

    -- virtual row h is the new row
    here : (j : ℕ) → j < data_chunks g → y (g.r + h) j ≡ row.0 j
    here j j_in =
        elim (cases_lt h (globals_of g j)) [
          | inl within ↦
              let same : target j (g.r + h) ≡ row.0 j = changed_here (g.r + h) (row.0 j) (λ i. x i j) in
              (chunk j).1.virtual h within
              (subst (λ (b : ℕ). b < 256) (sym same) (row.1.codeword.bytes j (omega arith))) ∙ same
          | inr none ↦
              let same : row_of g x (g.r + h) j ≡ x (g.r + h) j = row_of_chunk g x (g.r + h) j j_in in
              whole j (g.r + h) j_in none (omega arith)
              ∙ sym (row.1.chunks j j_in none
              (subst (λ (b : ℕ). b < 256) (sym same) ((filled.chunks j).bytes (g.r + h) (omega arith))) ∙ same)
        ]

    -- intermediate symbol l of the new row is zero
    zero_here : (l : ℕ) → l < classes g → h < coverage g l → row.0 (g.n + l) ≡ 0
    zero_here l l_in covers =
        let none : row_of g x (g.r + h) (g.n + l) ≡ 0 = row_of_past g x (g.r + h) (g.n + l) (omega arith) in
        row.1.zeros l l_in covers (omega arith) ∙ none

    sum_here : (l : ℕ) → l < classes g → h < coverage g l → row_sum g y (g.r + h) (g.m + l) ≡ 0
    sum_here l l_in covers =
        let place : data_chunks g + (g.m + l) ≡ g.n + l = omega (arith, limits.majority) in
        field_sum_same (data_chunks g) (λ j. product (row_coefficient g (g.m + l) j) (y (g.r + h) j))
        (λ j. product (row_coefficient g (g.m + l) j) (row.0 j))
        (λ j j_in. ap (product (row_coefficient g (g.m + l) j)) (here j j_in))
        ∙ sym (row.1.codeword.parity (g.m + l) (omega (arith, limits.majority)))
        ∙ ap row.0 place ∙ zero_here l l_in covers

    zeros : (l t : ℕ) → l < classes g → t < suc h → t < coverage g l → row_sum g y (g.r + t) (g.m + l) ≡ 0
    zeros l t l_in t_in covers =
        elim (cases_lt t h) [
          | inl earlier ↦
              field_sum_same (data_chunks g) (λ j. product (row_coefficient g (g.m + l) j) (y (g.r + t) j))
              (λ j. product (row_coefficient g (g.m + l) j) (x (g.r + t) j))
              (λ j j_in. ap (product (row_coefficient g (g.m + l) j)) (before t j earlier j_in))
              ∙ filled.zeros l t l_in earlier covers
          | inr last ↦
              let now : h ≡ t = omega arith in
              subst (λ (u : ℕ). row_sum g y (g.r + u) (g.m + l) ≡ 0) now (sum_here l l_in (omega arith))
        ]

-- chunks with any bytes in the data cells, by virtual row after virtual row
filled : (g : Geometry) (w : Word) → IsWithinLimits g → ((i j : ℕ) → w i j < 256) → (h : ℕ) → h ≤ greatest_coverage g
    → (x : Word) × IsFilledTo g h x × SameDataCells g x w
filled g w limits bytes zero fits =
    let chunk = λ (j : ℕ). chunk_through g j (λ i. w i j) limits in (
      λ i j. (chunk j).0 i,
      record { chunks = λ j. (chunk j).1.codeword; zeros = λ l t l_in t_in covers. absurd (omega arith) },
      λ i j j_in above. (chunk j).1.cells i above (bytes i j),
    )
filled g w limits bytes (suc h) fits =
    let earlier = filled g w limits bytes h (omega arith) in
    let further = filled_further g earlier.0 h limits earlier.1 (omega arith) in
    (further.0, further.1, λ i j j_in above. further.2 i j j_in above ∙ earlier.2 i j j_in above)

-- a word that is filled to the end has a canonical codeword with its data chunks: each row is extended by the row code
canonical_of_filled : (g : Geometry) (x : Word) → IsWithinLimits g → IsFilledTo g (greatest_coverage g) x
    → (y : Word) × IsCanonicalCodeword g y × ((i j : ℕ) → i < canonical_rows g → j < data_chunks g → y i j ≡ x i j)
canonical_of_filled g x limits filled = (y, record { rows = λ i i_in. (row i).1.codeword; chunks = chunks; zeros = zeros }, same)
  where
    row : (i : ℕ) → (c : ℕ → ℕ) × IsRowThrough g (greatest_coverage g) (x i) c
    row i = row_through g (greatest_coverage g) (x i) limits

    y : Word
    y i j = (row i).0 j

    same : (i j : ℕ) → i < canonical_rows g → j < data_chunks g → y i j ≡ x i j
    same i j i_in j_in = (row i).1.chunks j j_in (globals_of_le g limits j).1 ((filled.chunks j).bytes i i_in)

    -- the product law with rows and chunks exchanged
    chunks : (j : ℕ) → j < canonical_chunks g → IsColumnCodeword g (λ i. y i j)
    chunks =
        product_law g.r (canonical_rows g) (data_chunks g) (canonical_chunks g) (column_coefficient g) (row_coefficient g) (λ j i. y i j)
        (λ j j_in. same_codeword g.r (canonical_rows g) (column_coefficient g) (λ i. x i j) (λ i. y i j) (omega arith) (filled.chunks j)
        (λ i i_in. same i j i_in j_in))
        (λ i i_in. (row i).1.codeword)

    zeros : (l h : ℕ) → l < classes g → h < coverage g l → y (g.r + h) (g.n + l) ≡ 0
    zeros l h l_in covers =
        let fits : coverage g l ≤ greatest_coverage g = coverage_le_greatest g limits l l_in in
        let place : g.n + l ≡ data_chunks g + (g.m + l) = omega (arith, limits.majority) in
        ap (y (g.r + h)) place ∙ (row (g.r + h)).1.codeword.parity (g.m + l) (omega (arith, limits.majority))
        ∙ field_sum_same (data_chunks g) (λ j. product (row_coefficient g (g.m + l) j) (y (g.r + h) j))
        (λ j. product (row_coefficient g (g.m + l) j) (x (g.r + h) j))
        (λ j j_in. ap (product (row_coefficient g (g.m + l) j)) (same (g.r + h) j (omega arith) j_in))
        ∙ filled.zeros l h l_in (omega arith) covers

-- some canonical codeword has any bytes in its data cells
pub canonical_exists : (g : Geometry) (w : Word) → IsWithinLimits g → ((i j : ℕ) → w i j < 256)
    → (x : Word) × IsCanonicalCodeword g x × SameDataCells g x w
canonical_exists g w limits bytes =
    let chunks = filled g w limits bytes (greatest_coverage g) (omega arith) in
    let whole = canonical_of_filled g chunks.0 limits chunks.1 in
    (whole.0, whole.1, λ i j j_in above. whole.2 i j (omega arith) j_in ∙ chunks.2 i j j_in above)
