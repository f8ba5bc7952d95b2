-- Redos of stripe 0: of all its cells, and of the dependents of one.
use Rattle.std.proofs.Common.{◌≡◌, ℕ, ◌<◌, arith}
use Rattle.std.specs.Prelude.{◌↔◌}
use Rattle.stair_model.specs.Cell.{Data, cell_at}
use Rattle.stair_model.specs.CellSet.{CellSet, HasCell, IsCellSet}
use Rattle.stair_model.specs.Dependents.{AreDependents}
use Rattle.stair_model.specs.Geometry.{Geometry, IsWithinLimits}
use Rattle.stair_model.proofs.DependentLaws.{dependent_itself}
use Rattle.stair_journal.specs.Redo.{IsRedo}

-- each stripe has a cell
pub redo_of_all :
    (g : Geometry) (cells : CellSet) → IsWithinLimits g → ((i j : ℕ) → HasCell cells i j ↔ ((i < g.r) × (j < g.n))) → IsCellSet cells
    → IsRedo g (record { stripe = 0; cells = cells })
redo_of_all g cells limits members formed = record {
  stripe_in = omega (arith, limits.size.0);
  formed = formed;
  inside = λ i j. (members i j).0;
  row = 0;
  slot = 0;
  some = (members 0 0).1 (omega (arith, limits.rows.0), omega (arith, limits.devices.0));
}

-- a data cell is one of its dependents
pub redo_of_dependents :
    (g : Geometry) (d row slot : ℕ) (cells : CellSet) → IsWithinLimits g → row < g.r → slot < g.n → cell_at g row slot ≡ Data d →
    AreDependents g d cells → IsCellSet cells → IsRedo g (record { stripe = 0; cells = cells })
redo_of_dependents g d row slot cells limits row_in slot_in is dependents formed = record {
  stripe_in = omega (arith, limits.size.0);
  formed = formed;
  inside = λ i j has. let dependent = (dependents i j).0 has in (dependent.row, dependent.chunk);
  row = row;
  slot = slot;
  some = (dependents row slot).1 (dependent_itself g d row slot row_in slot_in is);
}
