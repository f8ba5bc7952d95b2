-- the cells of the rows before this one are in the set
use Rattle.stair_base.proofs.CellRows.{HasRows}
use Rattle.stair_base.proofs.geometry.Geometry.cells.Given as goal

abbrev pub invariant-loop-row : goal.invariant-loop-row
invariant-loop-row l = HasRows l.self.n l.row l.cells
