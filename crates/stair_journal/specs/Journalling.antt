-- What the journal's phases write, by slot and sector.
use Rattle.std.specs.Prelude.{◌-◌, ◌/◌, ◌%◌, ◌==◌, ℕ, List, Option, Some, None, if◌then◌else◌, nat_lt}
use Rattle.stair_model.specs.Device.{body_start, gate_sector}
use Rattle.stair_model.specs.Geometry.{Geometry}
use Rattle.stair_model.specs.Stripe.{Stripe, cell}
use Rattle.stair_rack.specs.Placed.{Writes}
use Rattle.stair_journal.specs.Gate.{has_number}
use Rattle.stair_journal.specs.declared.redo.Redo.{Redo}

-- on each slot, to the sector of the body that is for cell number c, this cell of the stripe where it is one of the redo's
abbrev pub body_cell : Geometry → Redo → Stripe → ℕ → Option (List ℕ)
body_cell g redo stripe c =
    if has_number g redo.cells c then Some (cell stripe (c / g.n) (c % g.n)) else None

abbrev pub body_writes : Geometry → Redo → Stripe → Writes
body_writes g redo stripe j k =
    if nat_lt k body_start then None else body_cell g redo stripe (k - body_start)

-- on each slot, this gate
abbrev pub gate_writes : List ℕ → Writes
gate_writes gate j k = if k == gate_sector then Some gate else None
