-- The entries so far, with zeros after them.
use Rattle.std.proofs.Common.{◌≡◌, ◌-◌, ◌++◌, take, replicate}
use Rattle.stair_base.proofs.geometry.padded_coverage.Given as goal

abbrev pub invariant-loop-l : goal.invariant-loop-l
invariant-loop-l l = l.coverage ≡ take l.l l.e ++ replicate (32 - l.l) 0
