-- The record has room for so many calls.
use Rattle.std.proofs.Common.{arith}
use Rattle.std.proofs.lemmas.List.{length-reverse}
use Rattle.stair_memrack.proofs.rack.MemRack.made.Goals as goal

pub overflow_cast-result : goal.overflow_cast-result
overflow_cast-result c =
    omega (arith, c.self.invariant.record_is.within, c.self.invariant.record_is.room_fits, length-reverse c.self.inside.log.items)
