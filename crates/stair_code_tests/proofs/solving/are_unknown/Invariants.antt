-- The wanted places so far aren't known.
use Rattle.std.proofs.Common.{◌≢◌, ℕ, ◌<◌, length, slice_index}
use Rattle.stair_code_tests.proofs.solving.are_unknown.Given as goal

abbrev pub invariant-loop-i : goal.invariant-loop-i
invariant-loop-i l = (j : ℕ) → j < l.i → (k : ℕ) → k < length l.known → slice_index l.known k ≢ slice_index l.wanted j
