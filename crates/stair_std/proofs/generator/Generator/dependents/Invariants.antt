-- The dependents among the cells so far.
use Rattle.std.proofs.Common.{◌+◌, ◌*◌}
use Rattle.stair_std.proofs.DependentCells.{HasDependents}
use Rattle.stair_std.proofs.generator.Generator.dependents.Given as goal

abbrev pub invariant-loop-i : goal.invariant-loop-i
invariant-loop-i l = HasDependents l.geometry l.block (l.i * l.geometry.n + 0) l.dependents

abbrev pub invariant-loop-j : goal.invariant-loop-j
invariant-loop-j l = HasDependents l.geometry l.block (l.i * l.geometry.n + l.j) l.dependents
