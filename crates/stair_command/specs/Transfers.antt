-- Blocks of an open array that are put out or written, as more than one command does it.
use Rattle.std.specs.Prelude.{◌+◌, ◌-◌, ◌*◌, ◌/◌, ℕ, zero, suc, Bool, true, nat_le, nat_lt, List, [], ◌∷◌, ◌++◌, codes, length, max}
use Rattle.std.specs.Fmt.{decimal}
use Rattle.stair_model.specs.Geometry.{Geometry}
use Rattle.stair_model.specs.Stripe.{SECTOR}
use Rattle.stair_array.specs.Arrays.{blocks_of}
use Rattle.stair_array.specs.Machine.{ReadBlock, WriteBlocks}
use Rattle.stair_status.specs.declared.status.Status.TheVariants.{Done, Input, OutOfRange}
use Rattle.stair_command.specs.Pieces.{part_of, piece_blocks, whole_of}
use Rattle.stair_command.specs.Program.{Program, Over, Put, Take, if_so, take_exactly, take_step}

-- RANGES

-- so many from this one on are below the limit; of none nothing is asked
abbrev pub is_within : (limit first count : ℕ) → Bool
is_within limit first zero = true
is_within limit first (suc count) = nat_le (first + suc count) limit

-- what is asked for is within the limit, or the call ends
abbrev pub if_within : (limit first : ℕ) → Bool → Program → Program
if_within limit first within program = if_so within program (Over (OutOfRange (max first limit) limit))

-- READING

-- so many blocks from this one on, each put out before the next is read
abbrev pub reads : Geometry → (first count : ℕ) → Program
reads g first zero = Over Done
reads g first (suc count) =
    take_step g.n (ReadBlock first) (λ bytes. Put bytes (reads g (first + 1) count))

-- WRITING

-- the line for so many blocks that were written
abbrev pub wrote_line : ℕ → List ℕ
wrote_line count = codes "wrote " ++ (decimal count ++ (codes " blocks" ++ 10 ∷ []))

-- after the last of so many blocks one more byte is looked for
abbrev pub wrote : ℕ → Program
wrote all = take_exactly 1 (λ more. Over (Input (SECTOR * all) (SECTOR * all + 1)))
    (λ none. Put (wrote_line all) (Over Done))

-- What is left of a write of `all` blocks from `first` on, of which so many are done, after bytes that were taken and are less
-- than a block. A piece has one whole block at least, and is within a stripe; its whole blocks are written as one step. So there
-- are no more turns than blocks.
abbrev pub writes : Geometry → (first all turns done : ℕ) → List ℕ → Program
writes g first all zero done held = wrote all
writes g first all (suc turns) done held = if_so (nat_lt done all)
    (Take (SECTOR - length held)
    (SECTOR * piece_blocks g (first + done) (all - done) - length held)
    (λ bytes. take_step g.n (WriteBlocks (first + done) (blocks_of (whole_of (held ++ bytes))))
    (λ ok. writes g first all turns (done + length (held ++ bytes) / SECTOR)
    (part_of (held ++ bytes))))
    (λ bytes. Over (Input (SECTOR * all) (SECTOR * done + length (held ++ bytes)))))
    (wrote all)
