-- The rows so far stand as virtual ones.
use Rattle.stair_down.proofs.ChunkPlaces.{HasMoved}
use Rattle.stair_down.proofs.places.chunk_places.Given as goal

abbrev pub invariant-loop-row : goal.invariant-loop-row
invariant-loop-row l = HasMoved l.rows l.covered l.known l.row
