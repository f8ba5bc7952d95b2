-- What a redo is of.
use Rattle.std.specs.Prelude.{◌<◌, ℕ}
use Rattle.stair_model.specs.CellSet.{HasCell, IsCellSet, IsInStripe}
use Rattle.stair_model.specs.Geometry.{Geometry}
use Rattle.stair_journal.specs.declared.redo.Redo.{Redo}

-- the redo is of a stripe of the array, and has at least one of its cells
pub record IsRedo (g : Geometry) (redo : Redo) : Type 0 where
  pub stripe_in : redo.stripe < g.stripes
  pub formed : IsCellSet redo.cells
  pub inside : IsInStripe g redo.cells
  pub row : ℕ
  pub slot : ℕ
  pub some : HasCell redo.cells row slot
