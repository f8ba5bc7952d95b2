-- From which symbols a chunk or a virtual row follows: a chunk from its data cells and as many virtual symbols as it holds
-- global parities, a virtual row from the chunks that hold no global parity of its number and the zeros of all others.
use Rattle.std.proofs.Common.{◌≡◌, ℕ, ◌+◌, ◌-◌, ◌<◌, ◌≤◌, inl, inr, sym, ◌∙◌, ap, subst, arith, nat_lt, if◌then◌else◌}
use Rattle.std.proofs.lemmas.Bool.{cases_lt, lt-ltb, le-ltb, cond-true, cond-false}
use Rattle.std.proofs.lemmas.List.{get_or_past}
use Rattle.stair_model.specs.Geometry.{Geometry, IsWithinLimits, classes, coverage, data_chunks, greatest_coverage}
use Rattle.stair_model.specs.Canonical.{canonical_chunks, canonical_rows, IsRowCodeword, IsColumnCodeword}
use Rattle.stair_model.proofs.CellLaws.{coverage_le}
use Rattle.stair_model.proofs.CanonicalLaws.{coverage_le_greatest}
use Rattle.stair_model.proofs.PlaceLaws.{ArePlaces, same_from_places, codeword_through, moved, moved_stays, moved_goes, moved_places}

-- ---- the global parities of a chunk

-- how many global parities chunk j holds
pub globals_of : Geometry → ℕ → ℕ
globals_of g j = if nat_lt j (data_chunks g - classes g) then 0 else coverage g (j - (data_chunks g - classes g))

-- a chunk before the last m' of the data chunks holds none
pub globals_of_first : (g : Geometry) (j : ℕ) → j < data_chunks g - classes g → globals_of g j ≡ 0
unfolding globals_of
globals_of_first g j before = cond-true _ _ _ (lt-ltb j (data_chunks g - classes g) before)

-- each later one holds those of its class
pub globals_of_last : (g : Geometry) (j : ℕ) → data_chunks g - classes g ≤ j
    → globals_of g j ≡ coverage g (j - (data_chunks g - classes g))
unfolding globals_of
globals_of_last g j from = cond-false _ _ _ (le-ltb j (data_chunks g - classes g) from)

globals_of_class : (g : Geometry) (l : ℕ) → globals_of g (data_chunks g - classes g + l) ≡ coverage g l
globals_of_class g l =
    let class : data_chunks g - classes g + l - (data_chunks g - classes g) ≡ l = omega arith in
    globals_of_last g (data_chunks g - classes g + l) (omega arith) ∙ ap (coverage g) class

-- a chunk holds no more than its rows, and no more than the last class
pub globals_of_le : (g : Geometry) → IsWithinLimits g → (j : ℕ) → (globals_of g j ≤ g.r) × (globals_of g j ≤ greatest_coverage g)
globals_of_le g limits j =
    elim (cases_lt j (data_chunks g - classes g)) [
      | inl before ↦ let none : globals_of g j ≡ 0 = globals_of_first g j before in (omega arith, omega arith)
      | inr from ↦
          let l : ℕ = j - (data_chunks g - classes g) in
          let count : globals_of g j ≡ coverage g l = globals_of_last g j from in
          elim (cases_lt l (classes g)) [
            | inl within ↦ (
              omega (arith, count, (coverage_le g limits l within).1),
              omega (arith, count, coverage_le_greatest g limits l within),
            )
            | inr past ↦
                let none : coverage g l ≡ 0 = get_or_past g.e l 0 past in
                (omega (arith, count, none), omega (arith, count, none))
          ]
    ]

-- the class of a chunk that holds a global parity
class_of_chunk : (g : Geometry) (h j : ℕ) → IsWithinLimits g → h < globals_of g j → j < data_chunks g
    → (l : ℕ) × (l < classes g) × (h < coverage g l) × (j ≡ data_chunks g - classes g + l)
class_of_chunk g h j limits holds within =
    elim (cases_lt j (data_chunks g - classes g)) [
      | inl before ↦ let none : globals_of g j ≡ 0 = globals_of_first g j before in absurd (omega arith)
      | inr from ↦
          let l : ℕ = j - (data_chunks g - classes g) in
          let count : globals_of g j ≡ coverage g l = globals_of_last g j from in
          (l, omega (arith, limits.covered_chunks.0), omega (arith, count), omega arith)
    ]

-- ---- a chunk by its data cells and as many virtual symbols as it holds global parities

-- the column code has room for bytes only
column_room : (g : Geometry) → IsWithinLimits g → canonical_rows g ≤ 256
column_room g limits =
    let last : greatest_coverage g ≤ g.r = (coverage_le g limits (classes g - 1) (omega (arith, limits.covered_chunks.0))).1 in
    omega (arith, last, limits.rows.1)

-- the places of these: the rows from the first global parity on have moved below the chunk
column_place : Geometry → ℕ → ℕ → ℕ
column_place g j = moved (g.r - globals_of g j) (λ i. i + 1) (globals_of g j)

column_places : (g : Geometry) (j : ℕ) → IsWithinLimits g → ArePlaces g.r (canonical_rows g) (column_place g j)
unfolding column_place
column_places g j limits =
    let fits = globals_of_le g limits j in
    moved_places g.r (canonical_rows g) (g.r - globals_of g j) (λ i. i + 1) (globals_of g j) (omega arith)
    (λ i row goes. (omega arith, omega (arith, fits.1)))

column_place_data : (g : Geometry) (j i : ℕ) → i < g.r - globals_of g j → column_place g j i ≡ i
unfolding column_place
column_place_data g j i above = moved_stays (g.r - globals_of g j) (λ t. t + 1) (globals_of g j) i (omega arith)

column_place_virtual : (g : Geometry) (j h i : ℕ) → IsWithinLimits g → h < globals_of g j → i ≡ g.r - globals_of g j + h
    → column_place g j i ≡ g.r + h
unfolding column_place
column_place_virtual g j h i limits within at =
    let fits = (globals_of_le g limits j).0 in
    let place : i + globals_of g j ≡ g.r + h = omega (arith, fits) in
    moved_goes (g.r - globals_of g j) (λ t. t + 1) (globals_of g j) i (omega arith) ∙ place

-- two chunks that agree at these agree everywhere
pub chunk_determined : (g : Geometry) (j : ℕ) (c d : ℕ → ℕ) (b : ℕ) → IsWithinLimits g → IsColumnCodeword g c → IsColumnCodeword g d
    → ((i : ℕ) → i < g.r - globals_of g j → c i ≡ d i)
    → ((h : ℕ) → h < globals_of g j → c (g.r + h) ≡ d (g.r + h))
    → b < canonical_rows g → c b ≡ d b
chunk_determined g j c d b limits first second cells virtual within =
    same_from_places g.r (canonical_rows g) (column_place g j) c d b (omega arith) (column_room g limits)
    (column_places g j limits) first second agree within
  where
    agree : (i : ℕ) → i < g.r → c (column_place g j i) ≡ d (column_place g j i)
    agree i row =
        elim (cases_lt i (g.r - globals_of g j)) [
          | inl above ↦ subst (λ (p : ℕ). c p ≡ d p) (sym (column_place_data g j i above)) (cells i above)
          | inr below ↦
              let h : ℕ = i - (g.r - globals_of g j) in
              let h_in : h < globals_of g j = omega (arith, (globals_of_le g limits j).0) in
              subst (λ (p : ℕ). c p ≡ d p) (sym (column_place_virtual g j h i limits h_in (omega arith))) (virtual h h_in)
        ]

-- c is a chunk that has the bytes of v there
pub record IsChunkThrough (g : Geometry) (j : ℕ) (v c : ℕ → ℕ) : Type 0 where
  pub codeword : IsColumnCodeword g c
  pub cells : (i : ℕ) → i < g.r - globals_of g j → v i < 256 → c i ≡ v i
  pub virtual : (h : ℕ) → h < globals_of g j → v (g.r + h) < 256 → c (g.r + h) ≡ v (g.r + h)

-- some chunk has any bytes there
pub chunk_through : (g : Geometry) (j : ℕ) (v : ℕ → ℕ) → IsWithinLimits g → (c : ℕ → ℕ) × IsChunkThrough g j v c
chunk_through g j v limits =
    let made =
    codeword_through g.r (canonical_rows g) (column_place g j) v (omega arith) (column_room g limits) (column_places g j limits)
    in (
      made.0,
      record {
        codeword = made.1;
        cells = λ i above byte. at made.0 made.2 i i (omega arith) (column_place_data g j i above) byte;
        virtual = λ h h_in byte.
            let i : ℕ = g.r - globals_of g j + h in
            at made.0 made.2 (g.r + h) i (omega (arith, (globals_of_le g limits j).0))
            (column_place_virtual g j h i limits h_in (omega arith)) byte;
      },
    )
  where
    at : (c : ℕ → ℕ) → ((i : ℕ) → i < g.r → v (column_place g j i) < 256 → c (column_place g j i) ≡ v (column_place g j i))
        → (p i : ℕ) → i < g.r → column_place g j i ≡ p → v p < 256 → c p ≡ v p
    at c made p i row place byte =
        subst (λ (q : ℕ). c q ≡ v q) place (made i row (subst (λ (q : ℕ). v q < 256) (sym place) byte))

-- ---- a virtual row by the chunks that hold no global parity of its number, and the zeros of those that hold one

-- the row code has room for bytes only
row_room : (g : Geometry) → IsWithinLimits g → canonical_chunks g ≤ 256
row_room g limits = omega (arith, limits.devices.1, limits.covered_chunks.1)

-- the places of these: chunks with such a global parity have moved to their intermediate chunks
row_place : Geometry → ℕ → ℕ → ℕ
row_place g h = moved h (globals_of g) (g.m + classes g)

row_places : (g : Geometry) (h : ℕ) → IsWithinLimits g → ArePlaces (data_chunks g) (canonical_chunks g) (row_place g h)
unfolding row_place
row_places g h limits =
    moved_places (data_chunks g) (canonical_chunks g) h (globals_of g) (g.m + classes g) (omega arith)
    (λ j within goes.
    let class = class_of_chunk g h j limits goes within in
    let at : j ≡ data_chunks g - classes g + class.0 = class.3 in
    (omega (arith, limits.covered_chunks.1), omega (arith, limits.majority)))

row_place_chunk : (g : Geometry) (h j : ℕ) → globals_of g j ≤ h → row_place g h j ≡ j
unfolding row_place
row_place_chunk g h j none = moved_stays h (globals_of g) (g.m + classes g) j none

row_place_zero : (g : Geometry) (h l : ℕ) → IsWithinLimits g → h < coverage g l
    → row_place g h (data_chunks g - classes g + l) ≡ g.n + l
unfolding row_place
row_place_zero g h l limits covers =
    let count : globals_of g (data_chunks g - classes g + l) ≡ coverage g l = globals_of_class g l in
    let place : data_chunks g - classes g + l + (g.m + classes g) ≡ g.n + l =
    omega (arith, limits.majority, limits.covered_chunks.1)
    in
    moved_goes h (globals_of g) (g.m + classes g) (data_chunks g - classes g + l) (omega arith) ∙ place

-- two rows that agree at these agree everywhere
pub row_determined : (g : Geometry) (h : ℕ) (c d : ℕ → ℕ) (b : ℕ) → IsWithinLimits g → IsRowCodeword g c → IsRowCodeword g d
    → ((j : ℕ) → j < data_chunks g → globals_of g j ≤ h → c j ≡ d j)
    → ((l : ℕ) → l < classes g → h < coverage g l → c (g.n + l) ≡ d (g.n + l))
    → b < canonical_chunks g → c b ≡ d b
row_determined g h c d b limits first second chunks zeros within =
    same_from_places (data_chunks g) (canonical_chunks g) (row_place g h) c d b (omega arith) (row_room g limits)
    (row_places g h limits) first second agree within
  where
    agree : (j : ℕ) → j < data_chunks g → c (row_place g h j) ≡ d (row_place g h j)
    agree j chunk =
        elim (cases_lt h (globals_of g j)) [
          | inl goes ↦
              let class = class_of_chunk g h j limits goes chunk in
              let place : row_place g h j ≡ g.n + class.0 = ap (row_place g h) class.3 ∙ row_place_zero g h class.0 limits class.2 in
              subst (λ (p : ℕ). c p ≡ d p) (sym place) (zeros class.0 class.1 class.2)
          | inr stays ↦ subst (λ (p : ℕ). c p ≡ d p) (sym (row_place_chunk g h j stays)) (chunks j chunk stays)
        ]

-- c is a row that has the bytes of v there
pub record IsRowThrough (g : Geometry) (h : ℕ) (v c : ℕ → ℕ) : Type 0 where
  pub codeword : IsRowCodeword g c
  pub chunks : (j : ℕ) → j < data_chunks g → globals_of g j ≤ h → v j < 256 → c j ≡ v j
  pub zeros : (l : ℕ) → l < classes g → h < coverage g l → v (g.n + l) < 256 → c (g.n + l) ≡ v (g.n + l)

-- some row has any bytes there
pub row_through : (g : Geometry) (h : ℕ) (v : ℕ → ℕ) → IsWithinLimits g → (c : ℕ → ℕ) × IsRowThrough g h v c
row_through g h v limits =
    let made =
    codeword_through (data_chunks g) (canonical_chunks g) (row_place g h) v (omega arith) (row_room g limits) (row_places g h limits)
    in (
      made.0,
      record {
        codeword = made.1;
        chunks = λ j chunk none byte. at made.0 made.2 j j chunk (row_place_chunk g h j none) byte;
        zeros = λ l l_in covers byte.
            at made.0 made.2 (g.n + l) (data_chunks g - classes g + l) (omega (arith, limits.covered_chunks.1))
            (row_place_zero g h l limits covers) byte;
      },
    )
  where
    at : (c : ℕ → ℕ) → ((j : ℕ) → j < data_chunks g → v (row_place g h j) < 256 → c (row_place g h j) ≡ v (row_place g h j))
        → (p j : ℕ) → j < data_chunks g → row_place g h j ≡ p → v p < 256 → c p ≡ v p
    at c made p j chunk place byte =
        subst (λ (q : ℕ). c q ≡ v q) place (made j chunk (subst (λ (q : ℕ). v q < 256) (sym place) byte))
