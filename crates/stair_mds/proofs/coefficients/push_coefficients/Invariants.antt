-- The coefficients of the known places so far stand after those that were there.
use Rattle.std.proofs.Common.{◌≡◌, ℕ, ◌+◌, ◌<◌, ◌≤◌, length, slice_index, vec_len}
use Rattle.std.specs.Vec.{vec_capacity}
use Rattle.stair_mds.specs.Lagrange.{solving}
use Rattle.stair_mds.proofs.coefficients.push_coefficients.Given as goal

abbrev pub invariant-loop-i : goal.invariant-loop-i
invariant-loop-i l = record {
  count : vec_len l.coefficients ≡ vec_len l.initial.coefficients + l.i;
  capacity : vec_capacity l.initial.coefficients ≤ vec_capacity l.coefficients;
  kept :
      (k : ℕ) → k < vec_len l.initial.coefficients →
      slice_index l.coefficients.items k ≡ slice_index l.initial.coefficients.items k;
  added :
      (i : ℕ) → i < l.i →
      slice_index l.coefficients.items (vec_len l.initial.coefficients + i) ≡ solving (length l.known) l.known i l.wanted;
}
