-- The blocks of the rows so far aren't left.
use Rattle.std.proofs.Common.{◌%◌}
use Rattle.stair_model.specs.Geometry.{data_cells}
use Rattle.stair_base.proofs.RowScan.{IsLeft}
use Rattle.stair_base.proofs.geometry.Geometry.place_of.Given as goal

abbrev pub invariant-loop-row : goal.invariant-loop-row
invariant-loop-row l = IsLeft l.self (l.fn.block % data_cells l.self) l.row l.left
