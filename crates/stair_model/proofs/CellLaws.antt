-- Laws of the cell layout.
use Rattle.std.proofs.Common.{◌≡◌, ℕ, zero, suc, ◌+◌, ◌-◌, ◌*◌, ◌<◌, ◌≤◌, ◌⊎◌, ◌↔◌, inl, inr, refl, sym, ◌∙◌, ap, ap₂, subst, arith, Bool, true, false, ◌&&◌, nat_le, nat_lt, if◌then◌else◌, mul-one, mul-zero, add-zero, add-one, add_assoc, le_refl}
use Rattle.std.specs.Prelude.{IsTrue}
use Rattle.std.proofs.lemmas.Bool.{cases_lt, cases_eq, le-leb, lt-leb, lt-ltb, le-ltb, true≢false, and_from, cond-true, cond-false}
use Rattle.std.proofs.lemmas.Bool.Decides.{nat_tests}
use Rattle.stair_model.specs.Sum.{sum_below}
use Rattle.stair_model.specs.Geometry.{Geometry, IsWithinLimits, classes, coverage, data_chunks, data_cells, global_cells}
use Rattle.stair_model.specs.Cell.{Cell, Data, Global, Parity, is_parity, global_chunk, global_row, class_of, is_global, data_in_row, data_before, cell_at}
use Rattle.stair_model.proofs.CountLaws.{sum_below_none, sum_below_more, sum_below_same, sum_below_add, sum_below_constant, sum_below_changed, sum_below_list}

-- ---- which cells are parities

-- a parity holds no data
pub parity_is_no_data : (c : Cell) (d : ℕ) → IsTrue (is_parity c) → ¬ (c ≡ Data d)
parity_is_no_data c d parity is = true≢false (sym parity ∙ ap is_parity is)

-- and a cell that holds none is a parity
pub no_data_is_parity : (c : Cell) → ((d : ℕ) → ¬ (c ≡ Data d)) → IsTrue (is_parity c)
no_data_is_parity (Data d) none = absurd (none d refl)
no_data_is_parity (Global l h) none = refl
no_data_is_parity (Parity k) none = refl

-- ---- which cells are global

-- the test is passed: the chunk holds global parities, and the row is one of its bottom rows
pub record IsAmongGlobals (g : Geometry) (i j : ℕ) : Type 0 where
  pub test : is_global g i j ≡ true
  pub chunk : global_chunk g 0 ≤ j
  pub row : global_row g (class_of g j) 0 ≤ i

-- the test fails: the chunk holds none, or the row is above them
pub record IsApartFromGlobals (g : Geometry) (i j : ℕ) : Type 0 where
  pub test : is_global g i j ≡ false
  pub why : (j < global_chunk g 0) ⊎ (i < global_row g (class_of g j) 0)

-- two tests at once, with what they tell
both_tell : (a b c d : ℕ)
    → (((nat_le a b && nat_le c d) ≡ true) × (a ≤ b) × (c ≤ d))
    ⊎ (((nat_le a b && nat_le c d) ≡ false) × ((b < a) ⊎ (d < c)))
both_tell a b c d = grind (arith, nat_tests)

pub is_global_tells : (g : Geometry) (i j : ℕ) → IsAmongGlobals g i j ⊎ IsApartFromGlobals g i j
is_global_tells g i j =
    elim (both_tell (global_chunk g 0) j (global_row g (class_of g j) 0) i) [
      | inl among ↦ inl (record { test = among.0; chunk = among.1; row = among.2 })
      | inr apart ↦ inr (record { test = apart.0; why = apart.1 })
    ]

-- 1 for a global parity, 0 for a data cell
abbrev pub global_mark : Geometry → ℕ → ℕ → ℕ
global_mark g i j = if is_global g i j then 1 else 0

-- 1 for a data cell, 0 for a global parity
abbrev pub data_mark : Geometry → ℕ → ℕ → ℕ
data_mark g i j = if is_global g i j then 0 else 1

-- the global parities among the first j cells of row i
abbrev pub globals_in_row : Geometry → ℕ → ℕ → ℕ
globals_in_row g i j = sum_below j (λ c. global_mark g i c)

-- a number passes a test or fails it
pub one_of_two : (b : Bool) → (if b then 0 else 1) + (if b then 1 else 0) ≡ 1
one_of_two true = refl
one_of_two false = refl

-- each of the first j cells of a row is data or global
pub row_split : (g : Geometry) (i j : ℕ) → data_in_row g i j + globals_in_row g i j ≡ j
row_split g i j =
    sym (sum_below_add j (λ c. data_mark g i c) (λ c. global_mark g i c))
    ∙ sum_below_same j (λ c. data_mark g i c + global_mark g i c) (λ c. 1) (λ c below. one_of_two (is_global g i c))
    ∙ sum_below_constant j 1
    ∙ mul-one j

-- the data cells and the global parities of the first i rows
abbrev pub data_in_rows : Geometry → ℕ → ℕ
data_in_rows g i = sum_below i (λ t. data_in_row g t (data_chunks g))

abbrev pub globals_in_rows : Geometry → ℕ → ℕ
globals_in_rows g i = sum_below i (λ t. globals_in_row g t (data_chunks g))

pub rows_split : (g : Geometry) (i : ℕ) → data_in_rows g i + globals_in_rows g i ≡ i * data_chunks g
rows_split g i =
    sym (sum_below_add i (λ t. data_in_row g t (data_chunks g)) (λ t. globals_in_row g t (data_chunks g)))
    ∙ sum_below_same i (λ t. data_in_row g t (data_chunks g) + globals_in_row g t (data_chunks g)) (λ t. data_chunks g)
    (λ t below. row_split g t (data_chunks g))
    ∙ sum_below_constant i (data_chunks g)

-- ---- the global parities before a cell

-- the rows of chunk c that have a cell before cell (i, j), row by row
abbrev rows_before : ℕ → ℕ → ℕ → ℕ
rows_before i j c = if nat_lt c j then i + 1 else i

rows_before_yes : (i j c : ℕ) → c < j → rows_before i j c ≡ i + 1
rows_before_yes i j c h = cond-true _ _ _ (lt-ltb c j h)

rows_before_no : (i j c : ℕ) → j ≤ c → rows_before i j c ≡ i
rows_before_no i j c h = cond-false _ _ _ (le-ltb c j h)

-- one cell further, only that cell's chunk has a row more
rows_before_other : (i j c : ℕ) → (c ≡ j → ⊥) → rows_before i (suc j) c ≡ rows_before i j c
rows_before_other i j c apart =
    elim (cases_lt c j) [
      | inl before ↦ rows_before_yes i (suc j) c (omega arith) ∙ sym (rows_before_yes i j c before)
      | inr after ↦ rows_before_no i (suc j) c (omega arith) ∙ sym (rows_before_no i j c after)
    ]

-- the chunk of a class, and the class of a chunk
chunk_of_class : (w p j : ℕ) → w - p + 0 ≤ j → j < w → p ≤ w → (j - (w - p) < p) × (w - p + (j - (w - p)) ≡ j)
chunk_of_class w p j from below fits = (omega arith, omega arith)

class_of_chunk : (first l j : ℕ) → first + l ≡ j → j - first ≡ l
class_of_chunk first l j e = omega arith

-- from the first of a class's rows on, one row more is one global parity more
one_more : (i bottom : ℕ) → bottom + 0 ≤ i → i + 1 - bottom ≡ i - bottom + 1
one_more i bottom h = omega arith

none_more : (i bottom : ℕ) → i < bottom + 0 → i + 1 - bottom ≡ i - bottom
none_more i bottom h = omega arith

-- the global parities of class l in the first rows of its chunk
abbrev class_rows : Geometry → ℕ → ℕ → ℕ
class_rows g l rows = rows - (g.r - coverage g l)

-- and before cell (i, j)
abbrev class_before : Geometry → ℕ → ℕ → ℕ → ℕ
class_before g i j l = class_rows g l (rows_before i j (global_chunk g l))

-- those of all classes
abbrev pub globals_before : Geometry → ℕ → ℕ → ℕ
globals_before g i j = sum_below (classes g) (class_before g i j)

-- a cell that isn't global, in the chunk of class l, is above that class's rows
above_class : (g : Geometry) (i j l : ℕ) → IsApartFromGlobals g i j → global_chunk g l ≡ j → i < g.r - coverage g l + 0
above_class g i j l apart here =
    elim apart.why [
      | inl before ↦ absurd (omega arith)
      | inr above ↦
          let class : class_of g j ≡ l = class_of_chunk (data_chunks g - classes g) l j here in
          subst (λ (c : ℕ). i < g.r - coverage g c + 0) class above
    ]

-- no class has more before the next cell than before this one, which isn't global
class_before_same : (g : Geometry) (i j : ℕ) → IsApartFromGlobals g i j → (l : ℕ) → class_before g i (suc j) l ≡ class_before g i j l
class_before_same g i j apart l =
    elim (cases_eq (global_chunk g l) j) [
      | inl here ↦
          ap (class_rows g l) (rows_before_yes i (suc j) (global_chunk g l) (omega arith))
          ∙ none_more i (g.r - coverage g l) (above_class g i j l apart here)
          ∙ ap (class_rows g l) (sym (rows_before_no i j (global_chunk g l) (omega arith)))
      | inr other ↦ ap (class_rows g l) (rows_before_other i j (global_chunk g l) other)
    ]

-- the class of a global cell has one more, and no other class has
class_before_grows : (g : Geometry) (i j : ℕ) → IsAmongGlobals g i j → global_chunk g (class_of g j) ≡ j
    → class_before g i (suc j) (class_of g j) ≡ class_before g i j (class_of g j) + 1
class_before_grows g i j among here =
    let k = class_of g j in
    ap (class_rows g k) (rows_before_yes i (suc j) (global_chunk g k) (omega (arith, here)))
    ∙ one_more i (g.r - coverage g k) among.row
    ∙ ap (λ rows. class_rows g k rows + 1) (sym (rows_before_no i j (global_chunk g k) (omega (arith, here))))

class_before_other : (g : Geometry) (i j l : ℕ) → (l ≡ class_of g j → ⊥) → class_before g i (suc j) l ≡ class_before g i j l
class_before_other g i j l other =
    ap (class_rows g l)
    (rows_before_other i j (global_chunk g l) (λ here. other (sym (class_of_chunk (data_chunks g - classes g) l j here))))

-- one cell further, the global parities grow by the cell's mark
pub globals_before_step : (g : Geometry) → classes g ≤ data_chunks g → (i j : ℕ) → j < data_chunks g
    → globals_before g i (suc j) ≡ globals_before g i j + global_mark g i j
globals_before_step g fits i j below =
    elim (is_global_tells g i j) [
      | inl among ↦
          let place = chunk_of_class (data_chunks g) (classes g) j among.chunk below fits in
          sum_below_changed (classes g) (class_of g j) 1 (class_before g i j) (class_before g i (suc j)) place.0
          (class_before_grows g i j among place.1)
          (λ l within other. class_before_other g i j l other)
          ∙ ap (λ mark. globals_before g i j + mark) (sym (cond-true (is_global g i j) 1 0 among.test))
      | inr apart ↦
          sum_below_same (classes g) (class_before g i (suc j)) (class_before g i j) (λ l within. class_before_same g i j apart l)
          ∙ sym (add-zero (globals_before g i j))
          ∙ ap (λ mark. globals_before g i j + mark) (sym (cond-false (is_global g i j) 1 0 apart.test))
    ]

-- along a row the global parities grow by the row's
globals_before_row : (g : Geometry) → classes g ≤ data_chunks g → (i j : ℕ) → j ≤ data_chunks g
    → globals_before g i j ≡ globals_before g i 0 + globals_in_row g i j
globals_before_row g fits i zero within =
    sym (add-zero (globals_before g i 0)) ∙ ap (λ c. globals_before g i 0 + c) (sym (sum_below_none (λ c. global_mark g i c)))
globals_before_row g fits i (suc j) within =
    globals_before_step g fits i j within
    ∙ ap (λ c. c + global_mark g i j) (globals_before_row g fits i j (omega arith))
    ∙ add_assoc (globals_before g i 0) (globals_in_row g i j) (global_mark g i j)
    ∙ ap (λ c. globals_before g i 0 + c) (sym (sum_below_more j (λ c. global_mark g i c)))

-- the end of a row is the start of the next
globals_before_turn : (g : Geometry) → classes g ≤ data_chunks g → (i : ℕ)
    → globals_before g (suc i) 0 ≡ globals_before g i (data_chunks g)
globals_before_turn g fits i =
    sum_below_same (classes g) (class_before g (suc i) 0) (class_before g i (data_chunks g))
    (λ l within. ap (class_rows g l)
    (rows_before_no (suc i) 0 (global_chunk g l) (omega arith)
    ∙ sym (add-one i)
    ∙ sym (rows_before_yes i (data_chunks g) (global_chunk g l) (last_chunks (data_chunks g) (classes g) l within fits))))
  where
    last_chunks : (w p l : ℕ) → l < p → p ≤ w → w - p + l < w
    last_chunks w p l within fits = omega arith

globals_before_start : (g : Geometry) → globals_before g 0 0 ≡ 0
globals_before_start g =
    sum_below_same (classes g) (class_before g 0 0) (λ l. 0)
    (λ l within. ap (class_rows g l) (rows_before_no 0 0 (global_chunk g l) (omega arith))
    ∙ nothing_left (g.r - coverage g l))
    ∙ sum_below_constant (classes g) 0
    ∙ mul-zero (classes g)
  where
    nothing_left : (n : ℕ) → 0 - n ≡ 0
    nothing_left n = omega arith

-- before a row stand the global parities of the rows above
globals_before_rows : (g : Geometry) → classes g ≤ data_chunks g → (i : ℕ) → globals_before g i 0 ≡ globals_in_rows g i
globals_before_rows g fits zero = globals_before_start g ∙ sym (sum_below_none (λ t. globals_in_row g t (data_chunks g)))
globals_before_rows g fits (suc i) =
    globals_before_turn g fits i
    ∙ globals_before_row g fits i (data_chunks g) (le_refl (data_chunks g))
    ∙ ap (λ c. c + globals_in_row g i (data_chunks g)) (globals_before_rows g fits i)
    ∙ sym (sum_below_more i (λ t. globals_in_row g t (data_chunks g)))

four_parts : (a b c d x y : ℕ) → a + c ≡ x → b + d ≡ y → (a + b) + (c + d) ≡ x + y
four_parts a b c d x y p q = omega arith

-- the data cells and the global parities before a cell are all the cells before it, of the chunks that aren't parity
pub cells_before : (g : Geometry) → IsWithinLimits g → (i j : ℕ) → j ≤ data_chunks g
    → data_before g i j + globals_before g i j ≡ i * data_chunks g + j
cells_before g limits i j within =
    let fits : classes g ≤ data_chunks g = limits.covered_chunks.1 in
    ap (λ c. data_before g i j + c)
    (globals_before_row g fits i j within ∙ ap (λ c. c + globals_in_row g i j) (globals_before_rows g fits i))
    ∙ four_parts (data_in_rows g i) (data_in_row g i j) (globals_in_rows g i) (globals_in_row g i j) (i * data_chunks g) j
    (rows_split g i) (row_split g i j)

-- a class's coverage is from 1 to the rows
pub coverage_le : (g : Geometry) → IsWithinLimits g → (l : ℕ) → l < classes g
    → (1 ≤ coverage g l) × (coverage g l ≤ g.r)
coverage_le g limits l within = limits.covered_sectors.0 l 0 within

-- all rows have as many global parities as the coverage vector's sum
globals_in_all : (g : Geometry) → IsWithinLimits g → globals_before g g.r 0 ≡ global_cells g
globals_in_all g limits =
    sum_below_same (classes g) (class_before g g.r 0) (coverage g)
    (λ l within. ap (class_rows g l) (rows_before_no g.r 0 (global_chunk g l) (omega arith))
    ∙ bottom_rows g.r (coverage g l) (coverage_le g limits l within).1)
    ∙ sum_below_list g.e
  where
    bottom_rows : (r c : ℕ) → c ≤ r → r - (r - c) ≡ c
    bottom_rows r c h = omega arith

-- the data cells of all rows are u
pub data_in_all : (g : Geometry) → IsWithinLimits g → data_before g g.r 0 ≡ data_cells g
data_in_all g limits =
    rest (data_before g g.r 0) (global_cells g) (g.r * data_chunks g)
    (ap (λ c. data_before g g.r 0 + c) (sym (globals_in_all g limits)) ∙ cells_before g limits g.r 0 (omega arith))
  where
    rest : (a b c : ℕ) → a + b ≡ c + 0 → a ≡ c - b
    rest a b c h = omega arith

-- ---- what a cell is

pub cell_at_parity : (g : Geometry) (i j : ℕ) → data_chunks g ≤ j → cell_at g i j ≡ Parity (j - data_chunks g)
cell_at_parity g i j h = cond-true _ _ _ (le-leb _ _ h)

pub cell_at_global : (g : Geometry) (i j : ℕ) → j < data_chunks g → is_global g i j ≡ true
    → cell_at g i j ≡ Global (class_of g j) (i - global_row g (class_of g j) 0)
cell_at_global g i j h test = cond-false _ _ _ (lt-leb _ _ h) ∙ cond-true _ _ _ test

pub cell_at_data : (g : Geometry) (i j : ℕ) → j < data_chunks g → is_global g i j ≡ false
    → cell_at g i j ≡ Data (data_before g i j)
cell_at_data g i j h test = cond-false _ _ _ (lt-leb _ _ h) ∙ cond-false _ _ _ test

-- the three kinds of a cell
pub data KindOfCell (g : Geometry) (i j : ℕ) : Type 0 where
  OfParity : data_chunks g ≤ j → cell_at g i j ≡ Parity (j - data_chunks g) → KindOfCell g i j
  OfGlobal : j < data_chunks g → IsAmongGlobals g i j
      → cell_at g i j ≡ Global (class_of g j) (i - global_row g (class_of g j) 0) → KindOfCell g i j
  OfData : j < data_chunks g → IsApartFromGlobals g i j → cell_at g i j ≡ Data (data_before g i j) → KindOfCell g i j

pub kind_of_cell : (g : Geometry) (i j : ℕ) → KindOfCell g i j
kind_of_cell g i j =
    elim (cases_lt j (data_chunks g)) [
      | inl below ↦
          elim (is_global_tells g i j) [
            | inl among ↦ OfGlobal below among (cell_at_global g i j below among.test)
            | inr apart ↦ OfData below apart (cell_at_data g i j below apart.test)
          ]
      | inr from ↦ OfParity from (cell_at_parity g i j from)
    ]

-- cell (i, n-m+k) is parity k of row i, and no other cell is
pub parity_law : (g : Geometry) (i j k : ℕ) → IsWithinLimits g → i < g.r → j < g.n
    → (cell_at g i j ≡ Parity k) ↔ ((k < g.m) × (j ≡ data_chunks g + k))
parity_law g i j k limits row chunk = (is_parity, from_place)
  where
    is_parity : cell_at g i j ≡ Parity k → (k < g.m) × (j ≡ data_chunks g + k)
    is_parity e =
        elim (kind_of_cell g i j) [
          | OfParity from is ↦ let number : j - data_chunks g ≡ k = cc in (omega arith, omega arith)
          | OfGlobal below place is ↦ absurd (cc)
          | OfData below place is ↦ absurd (cc)
        ]

    from_place : (k < g.m) × (j ≡ data_chunks g + k) → cell_at g i j ≡ Parity k
    from_place place =
        let at : j ≡ data_chunks g + k = place.1 in
        let number : j - data_chunks g ≡ k = omega arith in
        cell_at_parity g i j (omega arith) ∙ ap Parity number

-- the bottom e_l cells of chunk n-m-m'+l are the global parities of class l, from the top down, and no other cell is
pub global_law : (g : Geometry) (i j l h : ℕ) → IsWithinLimits g → i < g.r → j < g.n
    → (cell_at g i j ≡ Global l h) ↔ ((l < classes g) × (h < coverage g l) × (i ≡ global_row g l h) × (j ≡ global_chunk g l))
global_law g i j l h limits row chunk = (is_global_cell, from_place)
  where
    place_of_row : (r c i h : ℕ) → c ≤ r → i < r → r - c + 0 ≤ i → i - (r - c + 0) ≡ h → (h < c) × (i ≡ r - c + h)
    place_of_row r c i h fits row low number = (omega arith, omega arith)

    is_global_cell : cell_at g i j ≡ Global l h
        → (l < classes g) × (h < coverage g l) × (i ≡ global_row g l h) × (j ≡ global_chunk g l)
    is_global_cell e =
        elim (kind_of_cell g i j) [
          | OfParity from is ↦ absurd (cc)
          | OfGlobal below place is ↦
              let class : class_of g j ≡ l = cc in
              let number : i - global_row g (class_of g j) 0 ≡ h = cc in
              let at = chunk_of_class (data_chunks g) (classes g) j place.chunk below limits.covered_chunks.1 in
              let in_class : class_of g j < classes g = at.0 in
              let rows = place_of_row g.r (coverage g (class_of g j)) i h (coverage_le g limits (class_of g j) in_class).1 row place.row number in (
                subst (λ (c : ℕ). c < classes g) class in_class,
                subst (λ (c : ℕ). h < coverage g c) class rows.0,
                subst (λ (c : ℕ). i ≡ global_row g c h) class rows.1,
                subst (λ (c : ℕ). j ≡ global_chunk g c) class (sym at.1),
              )
          | OfData below place is ↦ absurd (cc)
        ]

    place_of_chunk : (w p l : ℕ) → l < p → p ≤ w → (w - p + l < w) × (w - p + l - (w - p) ≡ l) × (w - p + 0 ≤ w - p + l)
    place_of_chunk w p l within fits = (omega arith, omega arith, omega arith)

    number_of_row : (first h : ℕ) → (first + 0 ≤ first + h) × (first + h - (first + 0) ≡ h)
    number_of_row first h = (omega arith, omega arith)

    from_place : (l < classes g) × (h < coverage g l) × (i ≡ global_row g l h) × (j ≡ global_chunk g l)
        → cell_at g i j ≡ Global l h
    from_place p =
        let place = place_of_chunk (data_chunks g) (classes g) l p.0 limits.covered_chunks.1 in
        let rows = number_of_row (g.r - coverage g l) h in
        let class : class_of g (global_chunk g l) ≡ l = place.1 in
        let test : is_global g (global_row g l h) (global_chunk g l) ≡ true =
        and_from _ _ (le-leb _ _ place.2)
        (subst (λ (c : ℕ). nat_le (global_row g c 0) (global_row g l h) ≡ true) (sym class) (le-leb _ _ rows.0))
        in
        ap₂ (λ a b. cell_at g a b) p.2 p.3
        ∙ cell_at_global g (global_row g l h) (global_chunk g l) place.0 test
        ∙ ap (λ c. Global c (global_row g l h - global_row g c 0)) class
        ∙ ap (Global l) rows.1
