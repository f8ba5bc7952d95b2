-- Of the cells so far those that are no data are in the set.
use Rattle.stair_canon.proofs.ParityCells.{HasParitiesBefore}
use Rattle.stair_canon.proofs.parities.parities.Given as goal

abbrev pub invariant-loop-row : goal.invariant-loop-row
invariant-loop-row l = HasParitiesBefore l.geometry l.cells l.row 0

abbrev pub invariant-loop-slot : goal.invariant-loop-slot
invariant-loop-slot l = HasParitiesBefore l.geometry l.cells l.row l.slot
