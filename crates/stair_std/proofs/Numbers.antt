-- The cells of a stripe by their numbers, row by row.
use Rattle.std.proofs.Common.{◌≡◌, ◌≢◌, ℕ, ◌+◌, ◌*◌, ◌/◌, ◌%◌, ◌<◌, ◌≤◌, true, false, if◌then◌else◌, List, inl, inr, refl, sym, ◌∙◌, ap, ap₂, subst, arith, add-zero, add-one, mul-one, div-add-mod'}
use Rattle.std.proofs.lemmas.Bool.{cond-true, cond-false, true≢false}
use Rattle.std.proofs.lemmas.List.{get_or-set_same, get_or-set_other, length-set}
use Rattle.std.proofs.lemmas.Nat.{div-mul-add, mod-mul-add, div_below, mod_below}
use Rattle.stair_model.specs.Sum.{sum_below}
use Rattle.stair_model.specs.Geometry.{Geometry, IsWithinLimits, data_chunks, data_cells}
use Rattle.stair_model.specs.Cell.{Data, cell_at, is_global, data_in_row, data_before, is_parity}
use Rattle.stair_model.specs.Stripe.{Stripe, IsStripeOf, IsWellFormed, cell, with_cell}
use Rattle.stair_model.proofs.CountLaws.{sum_below_more, sum_below_same, sum_below_add, sum_below_constant, sum_below_longer, sum_below_tail}
use Rattle.stair_model.proofs.CellLaws.{one_of_two, data_mark, is_global_tells, data_in_all, cell_at_parity, cell_at_global, cell_at_data, OfParity, OfGlobal, OfData, kind_of_cell}
use Rattle.stair_model.proofs.DataLaws.{data_cell_tells, data_once}
use Rattle.stair_model.proofs.GridLaws.{sum_below_rows}
use Rattle.stair_model.proofs.StripeLaws.{number_in}
use Rattle.stair_std.specs.Cells.{cell_of_number, is_parity_number, parities_before, blocks_before, bytes_of}
use Rattle.stair_std.specs.Coefficients.{parity_cells}

-- ---- places

-- the cell of this number is in this row of this slot's chunk
pub record IsNumberOf (g : Geometry) (c row slot : ℕ) : Type 0 where
  pub row_is : row ≡ c / g.n
  pub slot_is : slot ≡ c % g.n
  pub within : c < g.r * g.n

-- the row and the slot of a number make the number
pub number_at : (g : Geometry) (stripe : Stripe) (c row slot : ℕ) → IsStripeOf g stripe → row ≡ c / g.n → slot ≡ c % g.n
    → row * stripe.chunks + slot ≡ c
number_at g stripe c row slot of row_is slot_is =
    ap₂ (λ (a b : ℕ). a * b + slot) row_is of.chunks ∙ ap (λ (s : ℕ). c / g.n * g.n + s) slot_is ∙ div-add-mod' c g.n

-- the bytes of a cell
pub bytes_at : (g : Geometry) (stripe : Stripe) (c row slot : ℕ) → IsStripeOf g stripe → row ≡ c / g.n → slot ≡ c % g.n
    → cell stripe row slot ≡ bytes_of stripe c
bytes_at g stripe c row slot of row_is slot_is = ap (bytes_of stripe) (number_at g stripe c row slot of row_is slot_is)

pub bytes_at-number : (g : Geometry) (stripe : Stripe) (c : ℕ) → IsStripeOf g stripe → cell stripe (c / g.n) (c % g.n) ≡ bytes_of stripe c
bytes_at-number g stripe c of = bytes_at g stripe c (c / g.n) (c % g.n) of refl refl

-- what the cell is
pub cell_at-number : (g : Geometry) (c row slot : ℕ) → row ≡ c / g.n → slot ≡ c % g.n → cell_at g row slot ≡ cell_of_number g c
cell_at-number g c row slot row_is slot_is = ap₂ (cell_at g) row_is slot_is

-- and the other way round
pub row_of_number : (g : Geometry) (i j : ℕ) → j < g.n → i ≡ (i * g.n + j) / g.n
row_of_number g i j chunk = sym (div-mul-add i g.n j chunk)

pub slot_of_number : (g : Geometry) (i j : ℕ) → j < g.n → j ≡ (i * g.n + j) % g.n
slot_of_number g i j chunk = sym (mod-mul-add i g.n j chunk)

pub cell_of-number : (g : Geometry) (i j : ℕ) → j < g.n → cell_at g i j ≡ cell_of_number g (i * g.n + j)
cell_of-number g i j chunk = cell_at-number g (i * g.n + j) i j (row_of_number g i j chunk) (slot_of_number g i j chunk)

pub bytes_of-number : (g : Geometry) (stripe : Stripe) (i j : ℕ) → IsStripeOf g stripe → j < g.n
    → cell stripe i j ≡ bytes_of stripe (i * g.n + j)
bytes_of-number g stripe i j of chunk =
    bytes_at g stripe (i * g.n + j) i j of (row_of_number g i j chunk) (slot_of_number g i j chunk)

-- so a cell has its number
pub IsNumberOf-at : (g : Geometry) (row slot : ℕ) → row < g.r → slot < g.n → IsNumberOf g (row * g.n + slot) row slot
IsNumberOf-at g row slot row_below slot_below = record {
  row_is = row_of_number g row slot slot_below;
  slot_is = slot_of_number g row slot slot_below;
  within = number_in g row slot row_below slot_below;
}

-- after the last cell of a row comes the first one of the next
pub next_row : (row slot n : ℕ) → slot ≡ n → row * n + slot ≡ (row + 1) * n + 0
next_row row slot n end = omega arith

pub next_slot : (row slot n : ℕ) → row * n + (slot + 1) ≡ row * n + slot + 1
next_slot row slot n = omega arith

pub row_in : (g : Geometry) (c : ℕ) → IsWithinLimits g → c < g.r * g.n → c / g.n < g.r
row_in g c limits within = div_below c g.n g.r (omega (arith, limits.devices.0)) within

pub slot_in : (g : Geometry) (c : ℕ) → IsWithinLimits g → c % g.n < g.n
slot_in g c limits = mod_below c g.n (omega (arith, limits.devices.0))

-- ---- writing

pub bytes_of-put : (g : Geometry) (stripe : Stripe) (c row slot : ℕ) (bytes : List ℕ) → IsStripeOf g stripe → row ≡ c / g.n
    → slot ≡ c % g.n → c < g.r * g.n → IsWellFormed (with_cell stripe row slot bytes)
    → bytes_of (with_cell stripe row slot bytes) c ≡ bytes
bytes_of-put g stripe c row slot bytes of row_is slot_is within formed =
    let number : row * stripe.chunks + slot ≡ c = number_at g stripe c row slot of row_is slot_is in
    let count : stripe.rows * stripe.chunks ≡ g.r * g.n = ap₂ (λ (a b : ℕ). a * b) of.rows of.chunks in
    ap (bytes_of (with_cell stripe row slot bytes)) (sym number)
    ∙ get_or-set_same stripe.cells (row * stripe.chunks + slot) bytes _
    (omega (arith, formed.count, length-set stripe.cells (row * stripe.chunks + slot) bytes, number, count))

pub bytes_of-kept : (g : Geometry) (stripe : Stripe) (c t row slot : ℕ) (bytes : List ℕ) → IsStripeOf g stripe → row ≡ c / g.n
    → slot ≡ c % g.n → t ≢ c → bytes_of (with_cell stripe row slot bytes) t ≡ bytes_of stripe t
bytes_of-kept g stripe c t row slot bytes of row_is slot_is other =
    get_or-set_other stripe.cells (row * stripe.chunks + slot) t bytes _
    (λ same. other (same ∙ number_at g stripe c row slot of row_is slot_is))

-- ---- counts

-- 1 for a data cell
abbrev block_mark : Geometry → ℕ → ℕ
block_mark g c = if is_parity_number g c then 0 else 1

-- the same of a cell by its row and chunk
mark_at : (g : Geometry) (i j : ℕ) → j < g.n → block_mark g (i * g.n + j) ≡ (if is_parity (cell_at g i j) then 0 else 1)
mark_at g i j chunk = ap (λ c. if is_parity c then 0 else 1) (sym (cell_of-number g i j chunk))

mark_of_data_chunk : (g : Geometry) (i j : ℕ) → j < data_chunks g → block_mark g (i * g.n + j) ≡ data_mark g i j
mark_of_data_chunk g i j within =
    mark_at g i j (omega arith)
    ∙ elim (is_global_tells g i j) as (λ _. (if is_parity (cell_at g i j) then 0 else 1) ≡ data_mark g i j) [
      | inl among ↦
          ap (λ c. if is_parity c then 0 else 1) (cell_at_global g i j within among.test)
          ∙ sym (cond-true (is_global g i j) 0 1 among.test)
      | inr apart ↦
          ap (λ c. if is_parity c then 0 else 1) (cell_at_data g i j within apart.test)
          ∙ sym (cond-false (is_global g i j) 0 1 apart.test)
    ]

mark_of_parity_chunk : (g : Geometry) (i j : ℕ) → data_chunks g ≤ j → j < g.n → block_mark g (i * g.n + j) ≡ 0
mark_of_parity_chunk g i j from chunk =
    mark_at g i j chunk ∙ ap (λ c. if is_parity c then 0 else 1) (cell_at_parity g i j from)

-- of the first j cells of a row
blocks_in_row : (g : Geometry) (i j : ℕ) → j ≤ data_chunks g → sum_below j (λ c. block_mark g (i * g.n + c)) ≡ data_in_row g i j
blocks_in_row g i j within =
    sum_below_same j (λ c. block_mark g (i * g.n + c)) (λ c. data_mark g i c)
    (λ c below. mark_of_data_chunk g i c (omega arith))

blocks_in_whole_row : (g : Geometry) (i : ℕ)
    → sum_below g.n (λ c. block_mark g (i * g.n + c)) ≡ data_in_row g i (data_chunks g)
blocks_in_whole_row g i =
    sum_below_tail (data_chunks g) g.n (λ c. block_mark g (i * g.n + c)) (omega arith)
    (λ c from within. mark_of_parity_chunk g i c from within)
    ∙ blocks_in_row g i (data_chunks g) (omega arith)

-- the number of a data cell counts the data cells before it
pub blocks_before-is : (g : Geometry) (i j : ℕ) → j ≤ data_chunks g → blocks_before g (i * g.n + j) ≡ data_before g i j
blocks_before-is g i j within =
    sum_below_rows i g.n j (block_mark g)
    ∙ ap₂ (λ (a b : ℕ). a + b)
    (sum_below_same i (λ t. sum_below g.n (λ c. block_mark g (t * g.n + c))) (λ t. data_in_row g t (data_chunks g))
    (λ t below. blocks_in_whole_row g t))
    (blocks_in_row g i j within)

pub blocks_in_all : (g : Geometry) → IsWithinLimits g → blocks_before g (g.r * g.n) ≡ data_cells g
blocks_in_all g limits =
    ap (blocks_before g) (sym (add-zero (g.r * g.n))) ∙ blocks_before-is g g.r 0 (omega arith) ∙ data_in_all g limits

-- each cell is a parity or a data cell
pub counts_split : (g : Geometry) (c : ℕ) → parities_before g c + blocks_before g c ≡ c
counts_split g c =
    sym (sum_below_add c (λ t. if is_parity_number g t then 1 else 0) (block_mark g))
    ∙ sum_below_same c (λ t. (if is_parity_number g t then 1 else 0) + block_mark g t) (λ t. 1)
    (λ t below. omega (arith, one_of_two (is_parity_number g t)))
    ∙ sum_below_constant c 1
    ∙ mul-one c

pub parities_in_all : (g : Geometry) → IsWithinLimits g → parities_before g (g.r * g.n) ≡ parity_cells g
parities_in_all g limits = omega (arith, counts_split g (g.r * g.n), blocks_in_all g limits)

-- ---- one cell more

pub parities_before-parity : (g : Geometry) (c : ℕ) → is_parity_number g c ≡ true → parities_before g (c + 1) ≡ parities_before g c + 1
parities_before-parity g c is =
    ap (parities_before g) (add-one c) ∙ sum_below_more c (λ t. if is_parity_number g t then 1 else 0)
    ∙ ap (λ m. parities_before g c + m) (cond-true (is_parity_number g c) 1 0 is)

pub parities_before-block : (g : Geometry) (c : ℕ) → is_parity_number g c ≡ false → parities_before g (c + 1) ≡ parities_before g c
parities_before-block g c is =
    ap (parities_before g) (add-one c) ∙ sum_below_more c (λ t. if is_parity_number g t then 1 else 0)
    ∙ ap (λ m. parities_before g c + m) (cond-false (is_parity_number g c) 1 0 is) ∙ add-zero (parities_before g c)

pub blocks_before-block : (g : Geometry) (c : ℕ) → is_parity_number g c ≡ false → blocks_before g (c + 1) ≡ blocks_before g c + 1
blocks_before-block g c is =
    ap (blocks_before g) (add-one c) ∙ sum_below_more c (block_mark g)
    ∙ ap (λ m. blocks_before g c + m) (cond-false (is_parity_number g c) 0 1 is)

-- a parity comes before the end, and a data cell's number is below u
pub parity_in : (g : Geometry) (c : ℕ) → IsWithinLimits g → c < g.r * g.n → is_parity_number g c ≡ true
    → parities_before g c < parity_cells g
parity_in g c limits within is =
    omega (
      arith,
      parities_before-parity g c is,
      sum_below_longer (λ t. if is_parity_number g t then 1 else 0) (c + 1) (g.r * g.n) (omega arith),
      parities_in_all g limits,
    )

pub block_in : (g : Geometry) (c : ℕ) → IsWithinLimits g → c < g.r * g.n → is_parity_number g c ≡ false
    → blocks_before g c < data_cells g
block_in g c limits within is =
    omega (
      arith,
      blocks_before-block g c is,
      sum_below_longer (block_mark g) (c + 1) (g.r * g.n) (omega arith),
      blocks_in_all g limits,
    )

-- ---- the numbers of data cells

-- a data cell is the one of its number
pub block_number : (g : Geometry) (c d : ℕ) → cell_of_number g c ≡ Data d → d ≡ blocks_before g c
block_number g c d is =
    let here = data_cell_tells g (c / g.n) (c % g.n) d is in
    sym here.number ∙ sym (blocks_before-is g (c / g.n) (c % g.n) (omega (arith, here.in_chunk)))
    ∙ ap (blocks_before g) (div-add-mod' c g.n)

-- a cell that is no parity is a data cell
pub block_cell : (g : Geometry) (c : ℕ) → is_parity_number g c ≡ false → cell_of_number g c ≡ Data (blocks_before g c)
block_cell g c is_data =
    elim (kind_of_cell g (c / g.n) (c % g.n)) [
      | OfParity from is ↦ absurd (true≢false (sym (ap is_parity is) ∙ is_data))
      | OfGlobal below place is ↦ absurd (true≢false (sym (ap is_parity is) ∙ is_data))
      | OfData below place is ↦ is ∙ ap Data (block_number g c (data_before g (c / g.n) (c % g.n)) is)
    ]

pub is_block : (g : Geometry) (c d : ℕ) → cell_of_number g c ≡ Data d → is_parity_number g c ≡ false
is_block g c d is = ap is_parity is

-- two data cells of one number are one
pub block_once : (g : Geometry) (c t : ℕ) → is_parity_number g c ≡ false → is_parity_number g t ≡ false
    → blocks_before g c ≡ blocks_before g t → c ≡ t
block_once g c t c_is t_is same =
    let both = data_once g (c / g.n) (c % g.n) (t / g.n) (t % g.n) (blocks_before g t) (block_cell g c c_is ∙ ap Data same) (block_cell g t t_is) in
    sym (div-add-mod' c g.n) ∙ ap₂ (λ (a b : ℕ). a * g.n + b) both.0 both.1 ∙ div-add-mod' t g.n
