-- The cells of the set so far are stored.
use Rattle.stair_canon.proofs.Storing.{HasStoredOf}
use Rattle.stair_canon.proofs.canon.Canon.store_cells.Given as goal

abbrev pub invariant-loop-row : goal.invariant-loop-row
invariant-loop-row l = HasStoredOf l.self.geometry l.cells l.self l.fn.stripe l.stripe l.row 0

abbrev pub invariant-loop-slot : goal.invariant-loop-slot
invariant-loop-slot l = HasStoredOf l.self.geometry l.cells l.self l.fn.stripe l.stripe l.row l.slot
