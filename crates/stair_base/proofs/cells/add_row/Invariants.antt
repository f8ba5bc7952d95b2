-- the cells in the slots before this one were added
use Rattle.stair_base.proofs.CellRows.{AddsRow}
use Rattle.stair_base.proofs.cells.add_row.Given as goal

abbrev pub invariant-loop-slot : goal.invariant-loop-slot
invariant-loop-slot l = AddsRow l.row l.slot l.initial.cells l.cells
