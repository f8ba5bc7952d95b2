-- The rows before the first erased one of a chunk are held.
use Rattle.std.proofs.Common.{arith}
use Rattle.stair_c.proofs.restore.store_cells.Goals as goal

pub store_chunk-requires-clause-before : goal.store_chunk-requires-clause-before
store_chunk-requires-clause-before c i before =
    c.loop-slot.invariant.held i c.loop-slot.slot (omega (arith, before, c.held_rows-from.ensures.within))
    (omega (arith, c.loop-slot-test.true, c.n-slot-end.ensures.value)) (c.held_rows-from.ensures.held i before)
