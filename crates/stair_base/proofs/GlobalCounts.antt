-- The global parities before a cell, class by class.
use Rattle.std.proofs.Common.{◌≡◌, ℕ, ◌+◌, ◌-◌, ◌*◌, ◌<◌, ◌≤◌, false, sym, ap, ap₂, ◌∙◌, arith, add-one}
use Rattle.std.proofs.lemmas.Bool.{cond_below, cond_above}
use Rattle.stair_model.specs.Sum.{sum_below}
use Rattle.stair_model.specs.Geometry.{Geometry, IsWithinLimits, coverage, data_chunks}
use Rattle.stair_model.specs.Cell.{global_chunk, cell_at, is_global, data_before, Data}
use Rattle.stair_model.proofs.CountLaws.{sum_below_none, sum_below_more}
use Rattle.stair_model.proofs.CellLaws.{cells_before, cell_at_data}
use Rattle.stair_base.specs.Globals.{rows_before, globals_before}

-- the global parities of class l before cell (i, j)
abbrev pub of_class : Geometry → ℕ → ℕ → ℕ → ℕ
of_class g i j l = rows_before i j (global_chunk g l) - (g.r - coverage g l)

-- so many of the first n classes come before cell (i, j)
pub record HasCounted (g : Geometry) (i j n count : ℕ) : Type 0 where
  pub so_far : count ≡ sum_below n (of_class g i j)
  pub small : count ≤ 32 * n

pub HasCounted-none : (g : Geometry) (i j : ℕ) → HasCounted g i j 0 0
HasCounted-none g i j = record { so_far = sym (sum_below_none (of_class g i j)); small = omega arith }

pub HasCounted-more : (g : Geometry) (i j n count more : ℕ) → HasCounted g i j n count
    → more ≡ of_class g i j n → more ≤ 32 → HasCounted g i j (n + 1) (count + more)
HasCounted-more g i j n count more counted is few = record {
  so_far = ap₂ (λ (a b : ℕ). a + b) counted.so_far is ∙ sym (sum_below_more n (of_class g i j)) ∙ ap (λ k. sum_below k (of_class g i j)) (sym (add-one n));
  small = omega (arith, counted.small);
}

pub rows_before-passed : (i j c rows : ℕ) → c < j → rows ≡ i + 1 → rows ≡ rows_before i j c
rows_before-passed i j c rows passed is = is ∙ cond_below c j (i + 1) i passed

pub rows_before-ahead : (i j c rows : ℕ) → j ≤ c → rows ≡ i → rows ≡ rows_before i j c
rows_before-ahead i j c rows ahead is = cond_above c j (i + 1) i rows ahead is

-- a data cell's number, by its place among the data chunks and the global parities before it
pub data_at : (g : Geometry) → IsWithinLimits g → (i j place globals : ℕ) → j < data_chunks g → is_global g i j ≡ false
    → place ≡ i * data_chunks g + j → globals ≡ globals_before g i j → (globals ≤ place) × (Data (place - globals) ≡ cell_at g i j)
data_at g limits i j place globals in_data not_global place_is globals_is =
    let split : data_before g i j + globals_before g i j ≡ i * data_chunks g + j = cells_before g limits i j (omega arith) in
    (omega arith, ap Data (omega arith) ∙ sym (cell_at_data g i j in_data not_global))
