-- The parts of the known places so far.
use Rattle.std.proofs.Common.{◌≡◌, ℕ, ◌<◌, length, slice_index}
use Rattle.stair_mds.specs.Lagrange.{known_part}
use Rattle.stair_mds.proofs.coefficients.known_parts.Given as goal

abbrev pub invariant-loop-i : goal.invariant-loop-i
invariant-loop-i l = record {
  long : length l.parts ≡ 32;
  so_far : (k : ℕ) → k < l.i → slice_index l.parts k ≡ known_part (length l.known) l.known k;
}
