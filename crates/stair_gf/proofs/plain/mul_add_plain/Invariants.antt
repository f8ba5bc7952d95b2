-- The bytes below k are done, and the others are as they were.
use Rattle.std.proofs.Common.{◌≡◌, ℕ, ◌<◌, ◌≤◌}
use Rattle.std.specs.Prelude.{bit_xor, slice_index}
use Rattle.stair_model.specs.Field.{product}
use Rattle.stair_gf.proofs.plain.mul_add_plain.Given as goal

abbrev pub invariant-loop-k : goal.invariant-loop-k
invariant-loop-k l =
    ((j : ℕ) → j < l.k → slice_index l.into j ≡ bit_xor (slice_index l.initial.into j) (product l.by (slice_index l.from j)))
    × ((j : ℕ) → l.k ≤ j → slice_index l.into j ≡ slice_index l.initial.into j)
