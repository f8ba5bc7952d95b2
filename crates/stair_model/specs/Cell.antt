-- What each cell of a stripe holds. Cell (i, j) is row i of chunk j.
use Rattle.std.specs.Prelude.{◌≡◌, ℕ, ◌+◌, ◌-◌, ◌/◌, ◌%◌, ◌<◌, Bool, true, false, ◌&&◌, nat_le, if◌then◌else◌}
use Rattle.stair_model.specs.Sum.{sum_below}
use Rattle.stair_model.specs.Geometry.{Geometry, classes, coverage, data_chunks, data_cells}

pub data Cell : Type 0 where
  -- data cell d
  Data : ℕ → Cell
  -- global parity h of class l
  Global : ℕ → ℕ → Cell
  -- row parity k
  Parity : ℕ → Cell

-- whether it is a row parity or a global parity
abbrev pub is_parity : Cell → Bool
is_parity (Data d) = false
is_parity (Global l h) = true
is_parity (Parity k) = true

-- the chunk whose bottom cells are the global parities of class l
abbrev pub global_chunk : Geometry → ℕ → ℕ
global_chunk g l = data_chunks g - classes g + l

-- the row of global parity h of class l
abbrev pub global_row : Geometry → ℕ → ℕ → ℕ
global_row g l h = g.r - coverage g l + h

-- the class of a chunk from the first that holds global parities on
abbrev pub class_of : Geometry → ℕ → ℕ
class_of g j = j - (data_chunks g - classes g)

-- whether a cell of a chunk below n-m is a global parity
abbrev pub is_global : Geometry → ℕ → ℕ → Bool
is_global g i j = nat_le (global_chunk g 0) j && nat_le (global_row g (class_of g j) 0) i

-- the data cells among the first j cells of row i
abbrev pub data_in_row : Geometry → ℕ → ℕ → ℕ
data_in_row g i j = sum_below j (λ c. if is_global g i c then 0 else 1)

-- how many data cells come before cell (i, j), row by row
abbrev pub data_before : Geometry → ℕ → ℕ → ℕ
data_before g i j = sum_below i (λ t. data_in_row g t (data_chunks g)) + data_in_row g i j

abbrev pub cell_at : Geometry → ℕ → ℕ → Cell
cell_at g i j =
    if nat_le (data_chunks g) j then Parity (j - data_chunks g)
    else (if is_global g i j then Global (class_of g j) (i - global_row g (class_of g j) 0)
    else Data (data_before g i j))

-- where block b lies: data cell b mod u of stripe b div u
pub record IsPlaceOf (g : Geometry) (b stripe row chunk : ℕ) : Type 0 where
  pub in_stripe : stripe ≡ b / data_cells g
  pub row_in : row < g.r
  pub chunk_in : chunk < g.n
  pub at : cell_at g row chunk ≡ Data (b % data_cells g)
