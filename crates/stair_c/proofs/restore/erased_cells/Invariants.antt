-- the erased cells of the chunks before this one are in the set
use Rattle.stair_c.proofs.ErasedLemmas.{HasErasedChunks}
use Rattle.stair_c.proofs.restore.erased_cells.Given as goal

abbrev pub invariant-loop-slot : goal.invariant-loop-slot
invariant-loop-slot l = HasErasedChunks l.geometry l.count l.erased l.stripe l.slot l.cells
