-- The sum and the steps of the cells so far.
use Rattle.std.proofs.Common.{◌+◌, ◌*◌}
use Rattle.stair_std.proofs.Summing.{HasSummed}
use Rattle.stair_std.proofs.coefficients.Coefficients.parity.Given as goal

abbrev pub invariant-loop-row : goal.invariant-loop-row
invariant-loop-row g l = HasSummed l.self l.parity l.stripe l.fn.steps (l.row * l.self.geometry.n + 0) l.steps l.sum

abbrev pub invariant-loop-slot : goal.invariant-loop-slot
invariant-loop-slot g l = HasSummed l.self l.parity l.stripe l.fn.steps (l.row * l.self.geometry.n + l.slot) l.steps l.sum
