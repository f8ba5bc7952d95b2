-- The factors so far.
use Rattle.std.proofs.Common.{◌≡◌, ◌+◌, ◌*◌, length}
use Rattle.stair_code_tests.proofs.field.up_to_7_sums_of_up_to_32_multiples.Given as goal

abbrev pub invariant-loop-d : goal.invariant-loop-d
invariant-loop-d g l = length l.factors.items ≡ 32 * l.d

abbrev pub invariant-loop-i : goal.invariant-loop-i
invariant-loop-i g l = length l.factors.items ≡ 32 * l.d + l.i
