-- the slots below this one
use Rattle.stair_memrack.specs.Origin.{AreBlankOrigins}
use Rattle.stair_memrack.proofs.origin.blank_origins.Given as goal

abbrev pub invariant-loop-slot : goal.invariant-loop-slot
invariant-loop-slot l = AreBlankOrigins l.slot l.media l.sectors l.made.items
