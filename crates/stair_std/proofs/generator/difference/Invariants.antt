-- The bytes below p are done, and the others are those of the new block.
use Rattle.std.proofs.Common.{◌≡◌, ℕ, ◌<◌, ◌≤◌}
use Rattle.std.specs.Prelude.{bit_xor, slice_index}
use Rattle.stair_std.proofs.generator.difference.Given as goal

abbrev pub invariant-loop-p : goal.invariant-loop-p
invariant-loop-p l =
    ((q : ℕ) → q < l.p → slice_index l.byte-items q ≡ bit_xor (slice_index l.initial.byte-items q) (slice_index l.old q))
    × ((q : ℕ) → l.p ≤ q → slice_index l.byte-items q ≡ slice_index l.initial.byte-items q)
