-- The bytes so far, with zeros after them.
use Rattle.std.proofs.Common.{◌≡◌, ◌-◌, ◌++◌, take, replicate}
use Rattle.stair_super.proofs.reading.widened.Given as goal

abbrev pub invariant-loop-l : goal.invariant-loop-l
invariant-loop-l l = l.e ≡ take l.l l.bytes ++ replicate (32 - l.l) 0
