-- A parity of the blocks of a stripe, as it is summed up cell by cell.
use Rattle.std.specs.Prelude.{ℕ, ◌*◌, ◌==◌, not, if◌then◌else◌}
use Rattle.stair_model.specs.Field.{product}
use Rattle.stair_model.specs.Geometry.{Geometry}
use Rattle.stair_model.specs.Stripe.{Stripe}
use Rattle.stair_model.specs.Sum.{field_sum, sum_below}
use Rattle.stair_std.specs.Cells.{is_parity_number, blocks_before, byte_of_number}
use Rattle.stair_std.specs.Coefficients.{Coefficients, coefficient_of}

-- byte p of the cell of this number where it is a data cell, or 0
abbrev pub block_byte : Geometry → Stripe → ℕ → ℕ → ℕ
block_byte g stripe p t = if is_parity_number g t then 0 else byte_of_number stripe p t

-- byte p of this parity: the sum over the data cells of coefficient times block
abbrev pub parity_byte : Coefficients → Stripe → ℕ → ℕ → ℕ
parity_byte c stripe p parity =
    field_sum (c.geometry.r * c.geometry.n)
    (λ t. product (coefficient_of c parity (blocks_before c.geometry t))
    (block_byte c.geometry stripe p t))

-- 1 where the coefficient isn't zero
abbrev pub step_of : ℕ → ℕ
step_of by = if not (by == 0) then 1 else 0

-- a step for each data cell over which this parity's coefficient isn't zero
abbrev pub step_at : Coefficients → ℕ → ℕ → ℕ
step_at c parity t =
    if is_parity_number c.geometry t then 0 else step_of
    (coefficient_of c parity (blocks_before c.geometry t))

abbrev pub parity_steps : Coefficients → ℕ → ℕ
parity_steps c parity = sum_below (c.geometry.r * c.geometry.n) (step_at c parity)
