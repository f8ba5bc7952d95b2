-- The bytes so far agree.
use Rattle.std.proofs.Common.{◌≡◌, ℕ, ◌<◌, slice_index}
use Rattle.stair_base.proofs.equations.first_difference.Given as goal

abbrev pub invariant-loop-p : goal.invariant-loop-p
invariant-loop-p l = (q : ℕ) → q < l.p → slice_index l.a q ≡ slice_index l.b q
