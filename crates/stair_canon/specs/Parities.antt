-- The cells that encoding fills in.
use Rattle.std.specs.Prelude.{ℕ, ◌<◌, ◌↔◌, IsTrue}
use Rattle.stair_model.specs.Cell.{cell_at, is_parity}
use Rattle.stair_model.specs.CellSet.{CellSet, HasCell, IsInStripe}
use Rattle.stair_model.specs.Geometry.{Geometry}

-- the row parities and the global parities of a stripe, and no other cells
pub record AreParities (g : Geometry) (cells : CellSet) : Type 0 where
  pub inside : IsInStripe g cells
  pub members :
      (i j : ℕ) → i < g.r → j < g.n → HasCell cells i j ↔ IsTrue (is_parity (cell_at g i j))
