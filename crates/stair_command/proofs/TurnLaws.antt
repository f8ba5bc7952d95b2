-- One turn of `write`: a piece of a stripe, of which some whole blocks came.
use Rattle.std.proofs.Common.{◌≡◌, ◌∙◌, ◌+◌, ◌-◌, ◌*◌, ◌/◌, ◌<◌, ◌≤◌, ℕ, zero, suc, List, ◌++◌, ap, drop, length, length-append, length-drop, sym, take, arith}
use Rattle.std.specs.Prelude.{All}
use Rattle.std.specs.List.{concat}
use Rattle.std.specs.Simd.{first_chunks}
use Rattle.std.proofs.lemmas.List.{length-take-le, nil_from_length, take-append-drop}
use Rattle.std.proofs.lemmas.List.Elements.{All-cons, All-nil}
use Rattle.stair_model.specs.Geometry.{Geometry, block_count}
use Rattle.stair_model.specs.Stripe.{SECTOR}
use Rattle.stair_array.specs.Arrays.{blocks_of}
use Rattle.stair_state.specs.Blocks.{AreOfOneStripe}
use Rattle.stair_command.specs.Trace.{AreEnough}
use Rattle.stair_command.specs.Pieces.{part_of, piece_blocks, whole_of}
use Rattle.stair_command.proofs.PieceLaws.{blocks_counted}
use Rattle.stair_command.proofs.PieceLaws.{piece_left as left_of_piece}
use Rattle.stair_command.proofs.PieceLaws.{piece_some as some_of_piece}
use Rattle.stair_command.proofs.PieceLaws.{piece_together as together_of_piece}

-- ---- the bytes

pub whole_long : (bytes : List ℕ) → length (whole_of bytes) ≡ length bytes / SECTOR * SECTOR
whole_long bytes = length-take-le (length bytes / SECTOR * SECTOR) bytes (omega arith)

pub part_long : (bytes : List ℕ) → length bytes ≡ length bytes / SECTOR * SECTOR + length (part_of bytes)
part_long bytes = omega (arith, length-drop (length bytes / SECTOR * SECTOR) bytes)

pub part_short : (bytes : List ℕ) → length (part_of bytes) < SECTOR
part_short bytes = omega (arith, length-drop (length bytes / SECTOR * SECTOR) bytes)

pub blocks_count : (bytes : List ℕ) → length (blocks_of (whole_of bytes)) ≡ length bytes / SECTOR
blocks_count bytes = blocks_counted (whole_of bytes) ∙ omega (arith, whole_long bytes)

-- so many chunks, one after the other, are the bytes
chunks_joined : (n : ℕ) (bytes : List ℕ) → length bytes ≡ n * SECTOR → concat (first_chunks SECTOR n bytes) ≡ bytes
chunks_joined zero bytes long = sym (nil_from_length bytes (omega (arith, long)))
chunks_joined (suc n) bytes long =
    ap (λ (rest : List ℕ). take SECTOR bytes ++ rest) (chunks_joined n (drop SECTOR bytes) (omega (arith, length-drop SECTOR bytes, long)))
    ∙ take-append-drop SECTOR bytes

chunks_whole : (n : ℕ) (bytes : List ℕ) → n * SECTOR ≤ length bytes → All (λ block. length block ≡ SECTOR) (first_chunks SECTOR n bytes)
chunks_whole zero bytes within = All-nil (λ (block : List ℕ). length block ≡ SECTOR)
chunks_whole (suc n) bytes within =
    All-cons (λ (block : List ℕ). length block ≡ SECTOR) (take SECTOR bytes) (first_chunks SECTOR n (drop SECTOR bytes))
    (length-take-le SECTOR bytes (omega (arith, within))) (chunks_whole n (drop SECTOR bytes) (omega (arith, within, length-drop SECTOR bytes)))

-- the whole blocks are whole, and with what is left over they are the bytes
pub blocks_whole : (bytes : List ℕ) → All (λ block. length block ≡ SECTOR) (blocks_of (whole_of bytes))
blocks_whole bytes = chunks_whole (length (whole_of bytes) / SECTOR) (whole_of bytes) (omega (arith, whole_long bytes))

pub whole_then_part : (bytes : List ℕ) → bytes ≡ concat (blocks_of (whole_of bytes)) ++ part_of bytes
whole_then_part bytes =
    sym (take-append-drop (length bytes / SECTOR * SECTOR) bytes)
    ∙ ap (λ (whole : List ℕ). whole ++ part_of bytes)
    (sym (chunks_joined (length (whole_of bytes) / SECTOR) (whole_of bytes) (omega (arith, whole_long bytes))))

-- what was held and what came make up some whole blocks, and no more than were asked for
module _ (blocks : ℕ) (held bytes : List ℕ) (part : length held < SECTOR) (some : 0 < blocks)
    (came : AreEnough (SECTOR - length held) (SECTOR * blocks - length held) bytes) where
  pub some_whole : 0 < length (held ++ bytes) / SECTOR
  some_whole = omega (arith, length-append held bytes, came.enough, part)

  pub few_whole : length (held ++ bytes) / SECTOR ≤ blocks
  few_whole = omega (arith, length-append held bytes, came.within, part, some)

  pub all_within : length (held ++ bytes) ≤ SECTOR * blocks
  all_within = omega (arith, length-append held bytes, came.within, part, some)

-- ---- the blocks

module _ (g : Geometry) (first all done : ℕ) (left : done < all) (within : first + all ≤ block_count g) where
  inside : first + done + (all - done) ≤ block_count g
  inside = omega (arith, left, within)

  pub piece_some : 0 < piece_blocks g (first + done) (all - done)
  piece_some = some_of_piece g (first + done) (all - done) (omega (arith, left)) inside

  pub piece_left : piece_blocks g (first + done) (all - done) ≤ all - done
  piece_left = left_of_piece g (first + done) (all - done) (omega (arith, left)) inside

  -- a piece is within a stripe
  pub piece_together : (count : ℕ) → 0 < count → count ≤ piece_blocks g (first + done) (all - done) → AreOfOneStripe g (first + done) count
  piece_together = together_of_piece g (first + done) (all - done) (omega (arith, left)) inside
