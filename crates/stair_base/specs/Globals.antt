-- How many global parities come before a cell, as they are counted.
use Rattle.std.specs.Prelude.{ℕ, ◌+◌, ◌-◌, nat_lt, if◌then◌else◌}
use Rattle.stair_model.specs.Cell.{global_chunk}
use Rattle.stair_model.specs.Geometry.{Geometry, classes, coverage}
use Rattle.stair_model.specs.Sum.{sum_below}

-- the rows of chunk c that have a cell before cell (i, j), row by row
abbrev pub rows_before : ℕ → ℕ → ℕ → ℕ
rows_before i j c = if nat_lt c j then i + 1 else i

-- how many global parities come before cell (i, j), class by class: those rows of its chunk, less the rows above its parities
abbrev pub globals_before : Geometry → ℕ → ℕ → ℕ
globals_before g i j = sum_below (classes g) (λ l. rows_before i j (global_chunk g l) -
    (g.r - coverage g l))
