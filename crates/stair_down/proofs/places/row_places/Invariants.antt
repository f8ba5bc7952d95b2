-- The pairs of the classes so far are set.
use Rattle.stair_down.proofs.RowPlaces.{HasPairs}
use Rattle.stair_down.proofs.places.row_places.Given as goal

abbrev pub invariant-loop-class : goal.invariant-loop-class
invariant-loop-class l = HasPairs l.geometry l.row l.known l.wanted l.class
