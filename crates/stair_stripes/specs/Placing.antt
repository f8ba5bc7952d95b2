-- What placing writes, by slot and sector.
use Rattle.std.specs.Prelude.{◌-◌, ℕ, List, Option, Some, None, if◌then◌else◌, nat_lt}
use Rattle.stair_model.specs.CellSet.{has_cell}
use Rattle.stair_model.specs.Device.{cell_sector}
use Rattle.stair_model.specs.Geometry.{Geometry}
use Rattle.stair_model.specs.Stripe.{Stripe, cell}
use Rattle.stair_rack.specs.Placed.{Writes}
use Rattle.stair_journal.specs.declared.redo.Redo.{Redo}

-- on slot j, to row i of its chunk of the stripe, this cell where it is one of the redo's
abbrev pub placed_cell : Redo → Stripe → ℕ → ℕ → Option (List ℕ)
placed_cell redo stripe j i = if has_cell redo.cells i j then Some (cell stripe i j) else None

abbrev pub cell_writes : Geometry → Redo → Stripe → Writes
cell_writes g redo stripe j k =
    if nat_lt k (cell_sector g redo.stripe 0) then None
    else placed_cell redo stripe j (k - cell_sector g redo.stripe 0)
