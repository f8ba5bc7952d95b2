-- The weights of the places so far.
use Rattle.std.proofs.Common.{◌≡◌, ℕ, ◌<◌, length, slice_index}
use Rattle.stair_mds.specs.Lagrange.{weight}
use Rattle.stair_mds.proofs.mds.Mds.with_places.Given as goal

abbrev pub invariant-loop-place : goal.invariant-loop-place
invariant-loop-place l = record {
  count : length l.weights.items ≡ l.place;
  each : (p : ℕ) → p < l.place → slice_index l.weights.items p ≡ weight l.held p;
}
