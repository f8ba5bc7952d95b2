-- The 512 bytes of a gate.
use Rattle.std.specs.Prelude.{◌≡◌, ◌+◌, ◌-◌, ◌*◌, ◌/◌, ◌%◌, ◌^◌, ◌++◌, ◌∷◌, [], ℕ, Bool, List, codes, map, replicate, if◌then◌else◌}
use Rattle.std.specs.Int.{w32, to_be_bytes}
use Rattle.std.specs.List.{range_with_len}
use Rattle.stair_model.specs.CellSet.{CellSet, has_cell}
use Rattle.stair_model.specs.Geometry.{Geometry}
use Rattle.stair_model.specs.Sum.{sum_below}
use Rattle.stair_rack.specs.Sector.{Cell, Good}
use Rattle.stair_journal.specs.Redo.{IsRedo}
use Rattle.stair_journal.specs.declared.redo.Redo.{Redo}

-- whether the set has cell number c: cell (i, j) has number i·n + j
abbrev pub has_number : Geometry → CellSet → ℕ → Bool
has_number g cells c = has_cell cells (c / g.n) (c % g.n)

-- byte q of the bitmap: cell number 8·q + p is its bit 7 - p, counted from the lowest
unfoldable pub bitmap_byte : Geometry → CellSet → ℕ → ℕ
bitmap_byte g cells q =
    sum_below 8 (λ p. if has_number g cells (8 * q + p) then 2 ^ (7 - p) else 0)

unfoldable pub bitmap : Geometry → CellSet → List ℕ
bitmap g cells = map (bitmap_byte g cells) (range_with_len 0 128)

-- bytes 0 to 7
abbrev pub MAGIC : List ℕ
MAGIC = codes "STAIRGT1"

-- an open gate: byte 8 is 1, bytes 12 to 15 are the stripe, big-endian, and bytes 16 to 143 the bitmap of its cells
unfoldable pub open_gate : Geometry → Redo → List ℕ
open_gate g redo = MAGIC ++ (1 ∷ 0 ∷ 0 ∷ 0 ∷ []
    ++ (to_be_bytes w32 redo.stripe ++ (bitmap g redo.cells ++ replicate 368 0)))

-- a closed gate: all is zero after the first eight bytes
unfoldable pub closed_gate : List ℕ
closed_gate = MAGIC ++ replicate 504 0

-- The gate in this cell reads open with this redo. Any other cell reads as closed.
pub record IsOpenWith (g : Geometry) (cell : Cell) (redo : Redo) : Type 0 where
  pub good : cell ≡ Good (open_gate g redo)
  pub formed : IsRedo g redo

abbrev pub ReadsClosed : Geometry → Cell → Type 0
ReadsClosed g cell = (redo : Redo) → ¬ IsOpenWith g cell redo
