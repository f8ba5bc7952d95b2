-- Facts that follow a medium out of its slot.
use Rattle.std.specs.Prelude.{ℕ, All}
use Rattle.stair_rack.specs.Sector.{Cell, Leaves}
use Rattle.stair_rack.specs.Media.{Medium}
use Rattle.stair_rack.specs.History.{SlotState}

-- The medium's cells have Q, sector by sector.
abbrev pub HasCells : (ℕ → Cell → Type 0) → Medium → Type 0
HasCells Q m = (k : ℕ) → Q k (m.cell k)

-- Of the slot's medium and of all its removed ones Q holds: of each cell that a crash may leave of the medium inside, with
-- Base of the cell under its unsynced writes, and of each cell of a removed one.
pub record EachMedium (Q Base : ℕ → Cell → Type 0) (b : SlotState) : Type 0 where
  pub inside : (k : ℕ) → Leaves (Q k) (Base k) (b.sector k)
  pub removed : All (HasCells Q) b.removed
