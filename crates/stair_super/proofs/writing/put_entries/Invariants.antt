-- The slots so far.
use Rattle.std.proofs.Common.{◌≡◌, ◌++◌}
use Rattle.stair_super.specs.Spelling.{entries}
use Rattle.stair_super.proofs.writing.put_entries.Given as goal

abbrev pub invariant-loop-j : goal.invariant-loop-j
invariant-loop-j l = l.page ≡ l.initial.page ++ entries l.block l.j
