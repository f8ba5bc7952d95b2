-- Laws of the numbers of data cells and of the places of blocks.
use Rattle.std.proofs.Common.{◌≡◌, ℕ, suc, ◌+◌, ◌-◌, ◌*◌, ◌/◌, ◌%◌, ◌<◌, ◌≤◌, ◌⊎◌, inl, inr, refl, sym, ◌∙◌, ap, ap₂, subst, subst₂, arith, Bool, true, false, mul_comm, le_trans, lt_irrefl, add-zero, div-add-mod'}
use Rattle.std.proofs.lemmas.Bool.{cases_order, cond-true, cond-false}
use Rattle.std.proofs.lemmas.Nat.{div_below, mod_below, mul-add-lt, div-mul-add, mod-mul-add}
use Rattle.stair_model.specs.Geometry.{Geometry, IsWithinLimits, data_chunks, data_cells, block_count}
use Rattle.stair_model.specs.Cell.{Data, is_global, data_in_row, data_before, cell_at, IsPlaceOf}
use Rattle.stair_model.proofs.CountLaws.{sum_below_none, sum_below_more, sum_below_longer, sum_below_cell}
use Rattle.stair_model.proofs.CellLaws.{data_mark, data_in_rows, data_in_all, cell_at_data, OfParity, OfGlobal, OfData, kind_of_cell}

-- ---- how the numbers grow

-- along a row the numbers don't fall
data_before_along : (g : Geometry) (i j k : ℕ) → j ≤ k → data_before g i j ≤ data_before g i k
data_before_along g i j k le = larger (data_in_rows g i) (data_in_row g i j) (data_in_row g i k) (sum_below_longer (λ c. data_mark g i c) j k le)
  where
    larger : (a b c : ℕ) → b ≤ c → a + b ≤ a + c
    larger a b c h = omega arith

-- a row starts with the data cells above it
data_before_start : (g : Geometry) (i : ℕ) → data_before g i 0 ≡ data_in_rows g i
data_before_start g i = ap (λ c. data_in_rows g i + c) (sum_below_none (λ c. data_mark g i c)) ∙ add-zero (data_in_rows g i)

-- a cell of a row comes before each later row
data_before_below : (g : Geometry) (i j k : ℕ) → j ≤ data_chunks g → i < k → data_before g i j ≤ data_before g k 0
data_before_below g i j k within below =
    le_trans (data_before_along g i j (data_chunks g) within)
    (subst (λ (c : ℕ). c ≤ data_before g k 0) (sum_below_more i (λ t. data_in_row g t (data_chunks g)))
    (subst (λ (c : ℕ). data_in_rows g (suc i) ≤ c) (sym (data_before_start g k))
    (sum_below_longer (λ t. data_in_row g t (data_chunks g)) (suc i) k below)))

-- after a data cell the numbers are one more
data_before_step : (g : Geometry) (i j : ℕ) → is_global g i j ≡ false
    → data_before g i (suc j) ≡ suc (data_before g i j)
data_before_step g i j test =
    ap (λ c. data_in_rows g i + c) (sum_below_more j (λ c. data_mark g i c) ∙ ap (λ c. data_in_row g i j + c) (cond-false (is_global g i j) 0 1 test))
    ∙ one_more (data_in_rows g i) (data_in_row g i j)
  where
    one_more : (a b : ℕ) → a + (b + 1) ≡ suc (a + b)
    one_more a b = omega arith

-- after a global parity they are the same
data_before_still : (g : Geometry) (i j : ℕ) → is_global g i j ≡ true → data_before g i (suc j) ≡ data_before g i j
data_before_still g i j test =
    ap (λ c. data_in_rows g i + c)
    (sum_below_more j (λ c. data_mark g i c)
    ∙ ap (λ c. data_in_row g i j + c) (cond-true (is_global g i j) 0 1 test)
    ∙ add-zero (data_in_row g i j))

-- ---- the numbers of data cells

-- what a cell with a number is
pub record IsDataCell (g : Geometry) (i j d : ℕ) : Type 0 where
  pub in_chunk : j < data_chunks g
  pub test : is_global g i j ≡ false
  pub number : data_before g i j ≡ d

pub data_cell_tells : (g : Geometry) (i j d : ℕ) → cell_at g i j ≡ Data d → IsDataCell g i j d
data_cell_tells g i j d e =
    elim (kind_of_cell g i j) [
      | OfParity from is ↦ absurd (cc)
      | OfGlobal below place is ↦ absurd (cc)
      | OfData below place is ↦ record { in_chunk = below; test = place.test; number = cc }
    ]

-- the numbers are below u
pub data_in_range : (g : Geometry) (i j d : ℕ) → IsWithinLimits g → i < g.r → cell_at g i j ≡ Data d
    → (d < data_cells g) × (j < data_chunks g)
data_in_range g i j d limits row e =
    let here = data_cell_tells g i j d e in
    let next : data_before g i (suc j) ≡ suc d = data_before_step g i j here.test ∙ ap suc here.number in (
      subst (λ (c : ℕ). c ≤ data_cells g) next
          (subst (λ (c : ℕ). data_before g i (suc j) ≤ c) (data_in_all g limits) (data_before_below g i (suc j) g.r here.in_chunk row)),
      here.in_chunk,
    )

-- each number below u is a cell's
pub data_reached : (g : Geometry) (d : ℕ) → IsWithinLimits g → d < data_cells g
    → (i : ℕ) × (j : ℕ) × (i < g.r) × (j < g.n) × (cell_at g i j ≡ Data d)
data_reached g d limits below =
    let in_all : d < data_in_rows g g.r = subst (λ (c : ℕ). d < c) (sym (data_in_all g limits) ∙ data_before_start g g.r) below in
    let cell = sum_below_cell g.r (data_chunks g) d (data_mark g) in_all in
    let i = cell.0 in
    let j = cell.1 in
    let at = cell.2 in
    let up = data_before_step g i j in
    let still = data_before_still g i j in
    let step = last_step (is_global g i j) (data_before g i j) (data_before g i (suc j)) d up still at.from at.to in
    (i, j, at.in_rows, in_row_of g.n g.m j at.in_columns, cell_at_data g i j at.in_columns step.0 ∙ ap Data step.1)
  where
    -- where the count goes past d, it goes up by one, from d
    last_step : (test : Bool) (now next d : ℕ) → (test ≡ false → next ≡ suc now) → (test ≡ true → next ≡ now)
        → now ≤ d → d < next → (test ≡ false) × (now ≡ d)
    last_step true now next d up still from to = let e : next ≡ now = still refl in absurd (omega arith)
    last_step false now next d up still from to = let e : next ≡ suc now = up refl in (refl, omega arith)

    in_row_of : (n m j : ℕ) → j < n - m → j < n
    in_row_of n m j h = omega arith

-- a data cell's number is less than that of each later one
data_before_later : (g : Geometry) (i j k l : ℕ) → j < data_chunks g → is_global g i j ≡ false
    → (i < k) ⊎ ((i ≡ k) × (j < l)) → data_before g i j < data_before g k l
data_before_later g i j k l within test later =
    subst (λ (c : ℕ). c ≤ data_before g k l) (data_before_step g i j test) (past later)
  where
    past : (i < k) ⊎ ((i ≡ k) × (j < l)) → data_before g i (suc j) ≤ data_before g k l
    past (inl above) = le_trans (data_before_below g i (suc j) k within above) (data_before_along g k 0 l (omega arith))
    past (inr along) = subst (λ (t : ℕ). data_before g i (suc j) ≤ data_before g t l) along.0 (data_before_along g i (suc j) l along.1)

-- the data cells are numbered row by row
pub data_order : (g : Geometry) (i j k l d e : ℕ) → cell_at g i j ≡ Data d → cell_at g k l ≡ Data e
    → (i < k) ⊎ ((i ≡ k) × (j < l)) → d < e
data_order g i j k l d e is_d is_e later =
    let here = data_cell_tells g i j d is_d in
    let there = data_cell_tells g k l e is_e in
    subst₂ (λ (x y : ℕ). x < y) here.number there.number (data_before_later g i j k l here.in_chunk here.test later)

-- two cells with one number are one cell
pub data_once : (g : Geometry) (i j k l d : ℕ) → cell_at g i j ≡ Data d → cell_at g k l ≡ Data d → (i ≡ k) × (j ≡ l)
data_once g i j k l d e f =
    elim (cases_order i k) [
      | inl row ↦
          elim (cases_order j l) [
            | inl chunk ↦ (row, chunk)
            | inr (inl before) ↦ first (inr (row, before))
            | inr (inr after) ↦ second (inr (sym row, after))
          ]
      | inr (inl before) ↦ first (inl before)
      | inr (inr after) ↦ second (inl after)
    ]
  where
    first : (i < k) ⊎ ((i ≡ k) × (j < l)) → (i ≡ k) × (j ≡ l)
    first later = absurd (lt_irrefl d (data_order g i j k l d d e f later))

    second : (k < i) ⊎ ((k ≡ i) × (l < j)) → (i ≡ k) × (j ≡ l)
    second later = absurd (lt_irrefl d (data_order g k l i j d d f e later))

-- ---- the places of blocks

-- each block has a place
pub block_has_place : (g : Geometry) (b : ℕ) → IsWithinLimits g → b < block_count g
    → (stripe : ℕ) × (row : ℕ) × (chunk : ℕ) × (stripe < g.stripes) × IsPlaceOf g b stripe row chunk
block_has_place g b limits below =
    let cell = data_reached g (b % data_cells g) limits (mod_below b (data_cells g) limits.blocks) in (
      b / data_cells g,
      cell.0,
      cell.1,
      div_below b (data_cells g) g.stripes limits.blocks (subst (λ (c : ℕ). b < c) (mul_comm (data_cells g) g.stripes) below),
      record { in_stripe = refl; row_in = cell.2; chunk_in = cell.3; at = cell.4 },
    )

-- and no other
pub place_once : (g : Geometry) (b stripe row chunk stripe' row' chunk' : ℕ) → IsPlaceOf g b stripe row chunk
    → IsPlaceOf g b stripe' row' chunk' → (stripe ≡ stripe') × (row ≡ row') × (chunk ≡ chunk')
place_once g b stripe row chunk stripe' row' chunk' p q =
    let cell = data_once g row chunk row' chunk' (b % data_cells g) p.at q.at in
    (p.in_stripe ∙ sym q.in_stripe, cell.0, cell.1)

-- two blocks of one place are one block
pub block_once : (g : Geometry) (b c stripe row chunk : ℕ) → IsPlaceOf g b stripe row chunk
    → IsPlaceOf g c stripe row chunk → b ≡ c
block_once g b c stripe row chunk p q =
    let cells : Data (b % data_cells g) ≡ Data (c % data_cells g) = sym p.at ∙ q.at in
    let number : b % data_cells g ≡ c % data_cells g = cc in
    sym (div-add-mod' b (data_cells g))
    ∙ ap₂ (λ x y. x * data_cells g + y) (sym p.in_stripe ∙ q.in_stripe) number
    ∙ div-add-mod' c (data_cells g)

-- each data cell of each stripe is a block's place
pub place_has_block : (g : Geometry) (stripe row chunk d : ℕ) → IsWithinLimits g → stripe < g.stripes → row < g.r
    → chunk < g.n → cell_at g row chunk ≡ Data d → (b : ℕ) × (b < block_count g) × IsPlaceOf g b stripe row chunk
place_has_block g stripe row chunk d limits in_array in_rows in_chunks e =
    let below : d < data_cells g = (data_in_range g row chunk d limits in_rows e).0 in (
      stripe * data_cells g + d,
      mul-add-lt stripe (data_cells g) d g.stripes in_array below,
      record {
        in_stripe = sym (div-mul-add stripe (data_cells g) d below);
        row_in = in_rows;
        chunk_in = in_chunks;
        at = e ∙ ap Data (sym (mod-mul-add stripe (data_cells g) d below));
      },
    )
