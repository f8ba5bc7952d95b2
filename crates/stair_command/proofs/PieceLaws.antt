-- A piece of a stripe, which is written as one step.
use Rattle.std.proofs.Common.{◌≡◌, ◌+◌, ◌-◌, ◌*◌, ◌/◌, ◌%◌, ◌<◌, ◌≤◌, ℕ, zero, suc, List, drop, length, mod-lt, arith, refl}
use Rattle.std.specs.Simd.{first_chunks}
use Rattle.std.proofs.lemmas.Nat.{mul-lt}
use Rattle.stair_model.specs.Geometry.{Geometry, IsWithinLimits, block_count, data_cells}
use Rattle.stair_model.specs.Stripe.{SECTOR}
use Rattle.stair_array.specs.Arrays.{blocks_of}
use Rattle.stair_state.specs.Blocks.{AreOfOneStripe}
use Rattle.stair_command.specs.Pieces.{piece_blocks}

-- ---- the bytes

pub chunks_count : (n : ℕ) (bytes : List ℕ) → length (first_chunks SECTOR n bytes) ≡ n
chunks_count zero bytes = refl
chunks_count (suc n) bytes = omega (arith, chunks_count n (drop SECTOR bytes))

pub blocks_counted : (bytes : List ℕ) → length (blocks_of bytes) ≡ length bytes / SECTOR
blocks_counted bytes = chunks_count (length bytes / SECTOR) bytes

-- ---- the blocks

-- an array has one at least
pub some_blocks : (g : Geometry) → IsWithinLimits g → 0 < block_count g
some_blocks g limits = mul-lt 0 0 (data_cells g) g.stripes (omega (arith, limits.blocks)) (omega (arith, limits.size.0))

-- from this block on there is one at least
module _ (g : Geometry) (block left : ℕ) (some : 0 < left) (within : block + left ≤ block_count g) where
  stripe_some : (u stripes : ℕ) → 0 < u * stripes → 0 < u
  stripe_some zero stripes some = absurd (omega (arith, some))
  stripe_some (suc u) stripes some = omega arith

  pub blocks_some : 0 < data_cells g
  blocks_some = stripe_some (data_cells g) g.stripes (omega (arith, some, within))

  rest_some : 0 < data_cells g - block % data_cells g
  rest_some = omega (arith, mod-lt block blocks_some)

  pub piece_some : 0 < piece_blocks g block left
  piece_some = omega (arith, rest_some, some)

  pub piece_left : piece_blocks g block left ≤ left
  piece_left = omega arith

  -- a piece is within a stripe
  pub piece_together : (count : ℕ) → 0 < count → count ≤ piece_blocks g block left → AreOfOneStripe g block count
  piece_together count any few = record { some = any; within = omega (arith, few, mod-lt block blocks_some) }
