-- The parities so far.
use Rattle.std.proofs.Common.{◌+◌, ◌*◌}
use Rattle.stair_std.proofs.Encoding.{HasEncoded}
use Rattle.stair_std.proofs.standard.encode_standard.Given as goal

abbrev pub invariant-loop-row : goal.invariant-loop-row
invariant-loop-row g l =
    HasEncoded l.coefficients l.fn.stripe l.fn.steps (l.row * l.coefficients.geometry.n + 0) l.stripe l.steps

abbrev pub invariant-loop-slot : goal.invariant-loop-slot
invariant-loop-slot g l =
    HasEncoded l.coefficients l.fn.stripe l.fn.steps (l.row * l.coefficients.geometry.n + l.slot) l.stripe l.steps
