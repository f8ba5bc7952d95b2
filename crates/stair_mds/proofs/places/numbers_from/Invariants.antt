-- The numbers so far.
use Rattle.std.proofs.Common.{◌≡◌, ℕ, ◌+◌, ◌<◌, length, slice_index}
use Rattle.stair_mds.proofs.places.numbers_from.Given as goal

abbrev pub invariant-loop-k : goal.invariant-loop-k
invariant-loop-k l = record {
  long : length l.numbers ≡ 64;
  so_far : (k : ℕ) → k < l.k → slice_index l.numbers k ≡ l.first + k;
}
