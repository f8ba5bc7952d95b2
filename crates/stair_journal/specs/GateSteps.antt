-- The cells that are marked in the bitmap of a gate.
use Rattle.std.specs.Prelude.{◌≡◌, ◌+◌, ◌-◌, ◌*◌, ◌/◌, ◌%◌, ◌<◌, ℕ, List, slice_index}
use Rattle.std.specs.Int.{bit_at}
use Rattle.stair_model.specs.Geometry.{Geometry}

-- in these bytes of a gate, cell number c is marked
abbrev pub IsMarked : List ℕ → ℕ → Type 0
IsMarked bytes c = bit_at (slice_index bytes (16 + c / 8)) (7 - c % 8) ≡ 1

-- cell (i, j) lies in a chunk of the array, and is marked
abbrev pub IsMarkedIn : Geometry → List ℕ → ℕ → ℕ → Type 0
IsMarkedIn g bytes i j = (j < g.n) × IsMarked bytes (i * g.n + j)

-- cell (i, j) is one of the stripe, and is marked
abbrev pub IsMarkedCell : Geometry → List ℕ → ℕ → ℕ → Type 0
IsMarkedCell g bytes i j = (i < g.r) × IsMarkedIn g bytes i j
