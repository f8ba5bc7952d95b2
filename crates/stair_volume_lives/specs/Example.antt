-- An example: a write of both blocks of a volume that a crash cuts, and a read after it.
use Rattle.std.specs.Prelude.{◌≡◌, ℕ, Bool, List, [], ◌∷◌, Some, if◌then◌else◌}
use Rattle.std.specs.List.{concat}
use Rattle.stair_state.specs.Blocks.{Blocks, with_block, with_blocks, zero_block, zero_blocks}
use Rattle.stair_state.specs.State.{BlocksAre, State, created_state, first_content}
use Rattle.stair_conf.specs.declared.job.VolumeJob.TheVariants as volume
use Rattle.stair_command.specs.LifeExample.{block_of, example_geometry}
use Rattle.stair_volume.specs.declared.extent.Entry.{Entry}
use Rattle.stair_volume.specs.Changes.{volume_of}
use Rattle.stair_volume.specs.Page.{table_bytes}
use Rattle.stair_volume.specs.Table.{extent_of}
use Rattle.stair_volume_lives.specs.Lives.{Began, Begins, Did, Lives, Turn}

-- the volume `a` of an array of six blocks, in blocks 1 and 2
abbrev pub example_name : List ℕ
example_name = 97 ∷ []

abbrev pub example_entry : Entry
example_entry = volume_of example_name (extent_of 1 2)

-- the table, and zeros
abbrev pub first_blocks : Blocks
first_blocks = with_block zero_blocks 0 (table_bytes (example_entry ∷ []))

-- what is written: a block of ones, and one of twos
abbrev pub new_blocks : List (List ℕ)
new_blocks = block_of 1 ∷ block_of 2 ∷ []

abbrev pub written_blocks : Blocks
written_blocks = with_blocks first_blocks 1 new_blocks

abbrev pub holding : Blocks → State
holding blocks = record (created_state example_geometry) {
  content = record first_content { blocks = blocks };
}

-- the write was cut, and is in doubt
abbrev pub in_doubt : State
in_doubt = record (holding first_blocks) { in_doubt = Some (BlocksAre 1 new_blocks) }

abbrev pub cut_write : Turn
cut_write = Began (volume.Write example_name 0 2) (concat new_blocks)

-- a read of both blocks, which put out these bytes
abbrev pub read_both : (put : List ℕ) → Turn
read_both put = Did (volume.Read example_name 0 2) [] put

-- what the read puts out, by whether the write was made
abbrev pub bytes_if : (made : Bool) → List ℕ
bytes_if made = if made then concat new_blocks else concat (zero_block ∷ zero_block ∷ [])

abbrev pub blocks_if : (made : Bool) → Blocks
blocks_if made = if made then written_blocks else first_blocks

-- Both outcomes are lives of an array that began with nothing in doubt.
abbrev pub EitherIsLived : Type 0
EitherIsLived = (made : Bool) → Begins (holding first_blocks)
    × Lives example_name (read_both (bytes_if made) ∷ cut_write ∷ []) (holding first_blocks)
    (holding (blocks_if made))

-- A second read gives the same bytes, because the write is settled once.
abbrev pub EachIsReadAgain : Type 0
EachIsReadAgain = (made : Bool) (put : List ℕ) (now : State)
    → Lives example_name (read_both put ∷ read_both (bytes_if made) ∷ cut_write ∷ []) (holding first_blocks) now
    → put ≡ bytes_if made
