-- What a call that adds a multiple of one list of bytes to another makes of it.
use Rattle.std.specs.Prelude.{◌≡◌, ℕ, ◌<◌, ◌≤◌, List, length, slice_index, bit_xor}
use Rattle.stair_model.specs.Field.{product}

-- new is old with by·from added at each byte
pub record AddsMultiple (old new from : List ℕ) (by : ℕ) : Type 0 where
  pub same_length : length new ≡ length old
  pub bytes : (k : ℕ) → k < length old → slice_index new k
      ≡ bit_xor (slice_index old k) (product by (slice_index from k))

-- new is old with by·from added at the bytes from start up to end; the others are those of old
pub record AddsMultipleWithin (old new from : List ℕ) (by start end : ℕ) : Type 0 where
  pub same_length : length new ≡ length old
  pub added : (k : ℕ) → start ≤ k → k < end
      → slice_index new k ≡ bit_xor (slice_index old k) (product by (slice_index from k))
  pub below : (k : ℕ) → k < start → slice_index new k ≡ slice_index old k
  pub above : (k : ℕ) → end ≤ k → slice_index new k ≡ slice_index old k
