-- The rows before the parities of a chunk are data.
use Rattle.std.proofs.Common.{arith}
use Rattle.stair_c.proofs.stripes.store_parities.Goals as goal

pub store_chunk-requires-clause-before : goal.store_chunk-requires-clause-before
store_chunk-requires-clause-before c i before =
    let held = c.data_rows-from.ensures.data i before in
    c.loop-slot.invariant.data_held i c.loop-slot.slot held.0 (omega (arith, before, c.data_rows-from.ensures.within))
    (omega (arith, c.loop-slot-test.true, c.n-slot-end.ensures.value)) held.1
