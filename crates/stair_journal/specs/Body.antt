-- The body of a redo: a sector for each of its cells.
use Rattle.std.specs.Prelude.{◌≡◌, ℕ, List}
use Rattle.stair_model.specs.CellSet.{HasCell}
use Rattle.stair_model.specs.Device.{body_sector}
use Rattle.stair_model.specs.Geometry.{Geometry}
use Rattle.stair_model.specs.Stripe.{Stripe, cell}
use Rattle.stair_rack.specs.Sector.{Cell, Good, Damaged}
use Rattle.stair_journal.specs.declared.redo.Redo.{Redo}

-- the cell has these bytes, or it is damaged
pub data IsOrDamaged (bytes : List ℕ) (cell : Cell) : Type 0 where
  Holds : cell ≡ Good bytes → IsOrDamaged bytes cell
  Harmed : cell ≡ Damaged → IsOrDamaged bytes cell

-- of a medium with these cells, each body cell of the redo is that cell of the stripe, or damaged
abbrev pub HasBody : Geometry → Redo → Stripe → (ℕ → Cell) → Type 0
HasBody g redo stripe cells = (i k : ℕ) → HasCell redo.cells i k
    → IsOrDamaged (cell stripe i k) (cells (body_sector g i k))
