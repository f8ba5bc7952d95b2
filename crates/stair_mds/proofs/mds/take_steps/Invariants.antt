use Rattle.std.proofs.Common.{◌≡◌, ◌+◌}
use Rattle.stair_mds.proofs.mds.take_steps.Given as goal

abbrev pub invariant-loop-step : goal.invariant-loop-step
invariant-loop-step g l = l.steps ≡ l.initial.steps + l._step
