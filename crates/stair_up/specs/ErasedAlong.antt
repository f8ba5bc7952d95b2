-- How many cells are erased in a part of an order.
use Rattle.std.specs.Prelude.{ℕ, ◌-◌, slice_index, if◌then◌else◌}
use Rattle.stair_model.specs.CellSet.{has_cell}
use Rattle.stair_model.specs.Sum.{sum_below}
use Rattle.stair_canon.specs.Order.{count_at}
use Rattle.stair_canon.specs.declared.order.Order.{Order}

-- how many cells of row i are erased in the first chunks of the order
abbrev pub erased_in_row : Order → ℕ → ℕ → ℕ
erased_in_row order places i = sum_below places
    (λ p. if has_cell order.erased i (slice_index order.columns p) then 1 else 0)

-- how many cells are erased in the last of the n chunks of the order
abbrev pub erased_in_last : Order → ℕ → ℕ → ℕ
erased_in_last order n many = sum_below many (λ t. count_at order (n - 1 - t))
