-- the erased cells in the rows before this one were added
use Rattle.stair_c.proofs.ErasedLemmas.{AddsErased}
use Rattle.stair_c.proofs.restore.add_chunk.Given as goal

abbrev pub invariant-loop-row : goal.invariant-loop-row
invariant-loop-row l = AddsErased l.geometry l.count l.erased l.stripe l.slot l.row l.initial.cells l.cells
