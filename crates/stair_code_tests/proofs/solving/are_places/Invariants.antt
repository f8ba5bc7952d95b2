-- The places so far are below the total, none of them twice.
use Rattle.std.proofs.Common.{◌≢◌, ℕ, ◌<◌, slice_index}
use Rattle.stair_code_tests.proofs.solving.are_places.Given as goal

abbrev pub invariant-loop-i : goal.invariant-loop-i
invariant-loop-i l = record {
  below : (k : ℕ) → k < l.i → slice_index l.places k < l.total;
  apart : (j : ℕ) → j < l.i → (k : ℕ) → k < j → slice_index l.places k ≢ slice_index l.places j;
}
