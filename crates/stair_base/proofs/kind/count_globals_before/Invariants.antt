-- The global parities of the classes so far.
use Rattle.stair_base.proofs.GlobalCounts.{HasCounted}
use Rattle.stair_base.proofs.kind.count_globals_before.Given as goal

abbrev pub invariant-loop-l : goal.invariant-loop-l
invariant-loop-l l = HasCounted l.geometry l.row l.slot l.l l.count
