use Rattle.std.proofs.Common.{◌≡◌, length}
use Rattle.stair_bench.proofs.rounds.check_of_copying.Given as goal

abbrev pub invariant-loop-round : goal.invariant-loop-round
invariant-loop-round l = length l.into ≡ l.held

abbrev pub invariant-loop-place : goal.invariant-loop-place
invariant-loop-place l = length l.into ≡ l.held
