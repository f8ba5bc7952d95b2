-- The entries so far.
use Rattle.std.proofs.Common.{◌≡◌, ◌++◌, take}
use Rattle.stair_super.proofs.writing.put_coverage.Given as goal

abbrev pub invariant-loop-l : goal.invariant-loop-l
invariant-loop-l l = l.page ≡ l.initial.page ++ take l.l l.geometry.e
