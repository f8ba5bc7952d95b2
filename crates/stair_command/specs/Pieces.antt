-- Blocks of a stripe that are written as one step, and the bytes of them that came.
use Rattle.std.specs.Prelude.{◌≡◌, ◌+◌, ◌-◌, ◌*◌, ◌/◌, ◌%◌, ℕ, List, ◌++◌, drop, length, min, take}
use Rattle.stair_model.specs.Geometry.{Geometry, data_cells}
use Rattle.stair_model.specs.Stripe.{SECTOR}
use Rattle.stair_command.specs.declared.intake.Intake.{Intake}
use Rattle.stair_command.specs.Executes.{Gives}
use Rattle.stair_command.specs.Outside.{SourceView}
use Rattle.stair_command.specs.Trace.{AreEnough, Took}

-- how many blocks a piece has at most, from this block on, of which so many are left: none is past its stripe
abbrev pub piece_blocks : Geometry → (block left : ℕ) → ℕ
piece_blocks g block left = min left (data_cells g - block % data_cells g)

-- the whole blocks of bytes that were taken, and what is left over of them
abbrev pub whole_of : List ℕ → List ℕ
whole_of bytes = take (length bytes / SECTOR * SECTOR) bytes

abbrev pub part_of : List ℕ → List ℕ
part_of bytes = drop (length bytes / SECTOR * SECTOR) bytes

-- bytes on their way from a source to the blocks of a stripe: those that were taken and aren't written yet, and for how many there
-- is room
pub record Held : Type 0 where
  pub bytes : List ℕ
  pub room : ℕ

-- a piece came, which makes up a whole block at least, and so many at most
pub record TakesPiece {S : Type 0} (view : SourceView S) (blocks : ℕ) (was is : Held)
    (first now : Intake) (old new : S) : Type 0 where
  pub bytes : List ℕ
  pub enough : AreEnough (SECTOR - length was.bytes) (SECTOR * blocks - length was.bytes) bytes
  pub gives : Gives view (Took bytes) old new
  pub held : is ≡ record was { bytes = was.bytes ++ bytes }
  pub counted : now ≡ record first { took = first.took + length bytes }
