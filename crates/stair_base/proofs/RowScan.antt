-- The blocks of a stripe, row by row.
use Rattle.std.proofs.Common.{◌≡◌, ℕ, ◌+◌, ◌-◌, ◌<◌, ◌≤◌, sym, ap, ◌∙◌, arith, add-one, add-zero, mul-one}
use Rattle.std.proofs.lemmas.Bool.{cond-true, cond-false}
use Rattle.stair_model.specs.Geometry.{Geometry, IsWithinLimits, data_chunks, data_cells}
use Rattle.stair_model.specs.Cell.{Data, is_global, cell_at, data_before, data_in_row}
use Rattle.stair_model.proofs.CountLaws.{sum_below_none, sum_below_more, sum_below_same, sum_below_constant, sum_below_tail}
use Rattle.stair_model.proofs.CellLaws.{data_mark, data_in_rows, data_in_all, cell_at_data}
use Rattle.stair_base.specs.PlaceSteps.{HasBlocksFirst}

-- along its blocks, a row has counted each
blocks_along : (g : Geometry) (i count j : ℕ) → HasBlocksFirst g i count → j ≤ count → data_in_row g i j ≡ j
blocks_along g i count j has within =
    sum_below_same j (data_mark g i) (λ c. 1) (λ c below. cond-false (is_global g i c) 0 1 (has.blocks c (omega arith)))
    ∙ sum_below_constant j 1
    ∙ mul-one j

-- and no more past them
blocks_of_row : (g : Geometry) (i count : ℕ) → HasBlocksFirst g i count → data_in_row g i (data_chunks g) ≡ count
blocks_of_row g i count has =
    sum_below_tail count (data_chunks g) (data_mark g i) has.within (λ c from below. cond-true (is_global g i c) 0 1 (has.globals c from below))
    ∙ blocks_along g i count count has (omega arith)

-- past the rows so far, so many blocks are left before block d of the stripe
pub record IsLeft (g : Geometry) (d row left : ℕ) : Type 0 where
  pub counted : left + data_in_rows g row ≡ d

pub IsLeft-none : (g : Geometry) (d left : ℕ) → left ≡ d → IsLeft g d 0 left
IsLeft-none g d left is = record {
  counted = ap (λ (a : ℕ). left + a) (sum_below_none (λ t. data_in_row g t (data_chunks g))) ∙ add-zero left ∙ is;
}

pub IsLeft-more : (g : Geometry) (d row left blocks count : ℕ) → IsLeft g d row left → HasBlocksFirst g row count → blocks ≡ count
    → blocks ≤ left → IsLeft g d (row + 1) (left - blocks)
IsLeft-more g d row left blocks count so_far has is past =
    let next : data_in_rows g (row + 1) ≡ data_in_rows g row + count =
    ap (data_in_rows g) (add-one row)
    ∙ sum_below_more row (λ t. data_in_row g t (data_chunks g))
    ∙ ap (λ (a : ℕ). data_in_rows g row + a) (blocks_of_row g row count has)
    in
    record { counted = moved left blocks count (data_in_rows g row) (data_in_rows g (row + 1)) d so_far.counted is past next }
  where
    moved : (left blocks count before after d : ℕ) → left + before ≡ d → blocks ≡ count → blocks ≤ left → after ≡ before + count
        → left - blocks + after ≡ d
    moved left blocks count before after d whole is past next = omega arith

-- in the row of block d they are the blocks before it
pub IsLeft-found : (g : Geometry) (d row left count : ℕ) → IsLeft g d row left → HasBlocksFirst g row count → left < count
    → (left < data_chunks g) × (cell_at g row left ≡ Data d)
IsLeft-found g d row left count so_far has here =
    let in_data : left < data_chunks g = omega (arith, has.within) in
    let number : data_before g row left ≡ d =
    ap (λ (a : ℕ). data_in_rows g row + a) (blocks_along g row count left has (omega arith))
    ∙ turned (data_in_rows g row) left d so_far.counted
    in
    (in_data, cell_at_data g row left in_data (has.blocks left here) ∙ ap Data number)
  where
    turned : (a b c : ℕ) → b + a ≡ c → a + b ≡ c
    turned a b c h = omega arith

-- no block lies past all rows
pub IsLeft-all : (g : Geometry) (d row left : ℕ) → IsWithinLimits g → d < data_cells g → row ≡ g.r → IsLeft g d row left → ⊥
IsLeft-all g d row left limits below last so_far =
    let all : data_in_rows g row ≡ data_cells g =
    ap (data_in_rows g) last
    ∙ sym (ap (λ (a : ℕ). data_in_rows g g.r + a) (sum_below_none (data_mark g g.r)) ∙ add-zero (data_in_rows g g.r))
    ∙ data_in_all g limits
    in
    over left (data_in_rows g row) (data_cells g) d all so_far.counted below
  where
    over : (left rows u d : ℕ) → rows ≡ u → left + rows ≡ d → d < u → ⊥
    over left rows u d all is below = omega arith
