use Rattle.std.proofs.Common.{◌≡◌, length}
use Rattle.stair_bench.proofs.rounds.symbols_of.Given as goal

abbrev pub invariant-loop-place : goal.invariant-loop-place
invariant-loop-place l = length l.symbols ≡ l.total
