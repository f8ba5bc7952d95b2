-- The symbols stay as many.
use Rattle.std.proofs.Common.{◌≡◌, length}
use Rattle.stair_code_tests.proofs.solving.filled.Given as goal

abbrev pub invariant-loop-place : goal.invariant-loop-place
invariant-loop-place l = length l.work ≡ length l.codeword
