-- The parities among the cells so far.
use Rattle.std.proofs.Common.{◌+◌, ◌*◌}
use Rattle.stair_std.proofs.Updating.{HasChanged}
use Rattle.stair_std.proofs.generator.Generator.update.Given as goal

abbrev pub invariant-loop-i : goal.invariant-loop-i
invariant-loop-i g l =
    HasChanged l.geometry l.block l.change l.fn.stripe l.fn.steps (l.i * l.geometry.n + 0) l.stripe l.steps

abbrev pub invariant-loop-j : goal.invariant-loop-j
invariant-loop-j g l =
    HasChanged l.geometry l.block l.change l.fn.stripe l.fn.steps (l.i * l.geometry.n + l.j) l.stripe l.steps
