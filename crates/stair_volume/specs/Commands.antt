-- What the commands on volumes do to an open array, whose block 0 is their table.
use Rattle.std.specs.Prelude.{◌+◌, ◌-◌, ◌==◌, ℕ, zero, suc, List, [], ◌∷◌, ◌++◌, codes, replicate, Option, None, Some, Result, Ok, Err, ⊤}
use Rattle.std.specs.Fmt.{decimal}
use Rattle.stair_model.specs.Geometry.{Geometry, block_count}
use Rattle.stair_state.specs.Blocks.{zero_block}
use Rattle.stair_array.specs.Faults.{refusal_for}
use Rattle.stair_array.specs.Machine.{ReadBlock, WriteBlocks, write_block}
use Rattle.stair_conf.specs.declared.job.VolumeJob.{VolumeJob}
use Rattle.stair_conf.specs.declared.job.VolumeJob.TheVariants as volume
use Rattle.stair_command.specs.Fault.{status_of_fault}
use Rattle.stair_command.specs.Pieces.{piece_blocks}
use Rattle.stair_command.specs.Program.{Program, Over, Put, if_so, take_step}
use Rattle.stair_command.specs.Refused.{status_of_refusal}
use Rattle.stair_command.specs.Transfers.{if_within, is_within, reads, writes}
use Rattle.stair_status.specs.declared.status.Status.{Status}
use Rattle.stair_status.specs.declared.status.Status.TheVariants.{Done, NameTaken, NoRoom, NoTable, NoVolume, TableFull, TableThere}
use Rattle.stair_volume.specs.declared.extent.Entry.{Entry}
use Rattle.stair_volume.specs.declared.extent.Extent.{Extent}
use Rattle.stair_volume.specs.declared.fault.VolumeFault.{VolumeFault}
use Rattle.stair_volume.specs.declared.fault.VolumeFault.TheVariants as fault
use Rattle.stair_volume.specs.declared.table_fault.TableFault.{TableFault}
use Rattle.stair_volume.specs.declared.table_fault.TableFault.TheVariants as table
use Rattle.stair_volume.specs.Changes.{with_volume, without_volume}
use Rattle.stair_volume.specs.Page.{table_bytes, table_of}
use Rattle.stair_volume.specs.Table.{Table, find_in, table_with}

-- STATUSES

abbrev pub status_of_table : TableFault → Status
status_of_table table.NoVolume = NoVolume
status_of_table table.NameTaken = NameTaken
status_of_table table.TableFull = TableFull
status_of_table (table.NoRoom blocks) = NoRoom blocks

-- the status of a fault, for an array of `slots` slots
abbrev pub status_of_volume : (slots : ℕ) → VolumeFault → Status
status_of_volume slots fault.NoTable = NoTable
status_of_volume slots fault.TableThere = TableThere
status_of_volume slots (fault.Table why) = status_of_table why
status_of_volume slots (fault.Array why) = status_of_refusal slots (refusal_for why)
status_of_volume slots (fault.Transfer why) = status_of_fault why

abbrev pub status_of : (slots : ℕ) → Result (Unit {0}) VolumeFault → Status
status_of slots (Ok done) = Done
status_of slots (Err why) = status_of_volume slots why

-- LINES

abbrev pub ready_line : List ℕ
ready_line = codes "volumes ready" ++ 10 ∷ []

-- a volume's name, its first block and its number of blocks
abbrev pub volume_line : (name : List ℕ) → Extent → List ℕ
volume_line name extent = name ++ (codes " first " ++ (decimal extent.first
    ++ (codes " blocks " ++ (decimal extent.blocks ++ 10 ∷ []))))

abbrev pub made_line : (name : List ℕ) → Extent → List ℕ
made_line name extent = codes "made " ++ volume_line name extent

abbrev pub dropped_line : (name : List ℕ) → List ℕ
dropped_line name = codes "dropped " ++ (name ++ 10 ∷ [])

-- STEPS

-- Writes zeros to `left` blocks from `first` on. Each step writes the blocks of one stripe. There are no more turns
-- than blocks.
abbrev pub clears : Geometry → (turns first left : ℕ) → (rest : Program) → Program
clears g zero first left rest = rest
clears g (suc turns) first left rest = if_so (left == 0) rest
    (take_step g.n (WriteBlocks first (replicate (piece_blocks g first left) zero_block))
    (λ ok. clears g turns (first + piece_blocks g first left)
    (left - piece_blocks g first left) rest))

-- writes the table
abbrev pub sets_table : Geometry → Table → (rest : Program) → Program
sets_table g table rest =
    take_step g.n (write_block 0 (table_bytes table.entries)) (λ ok. rest)

-- the program on the blocks of a volume, or the end if none has the name
abbrev pub if_found : Option Extent → (Extent → Program) → Program
if_found None k = Over NoVolume
if_found (Some extent) k = k extent

-- the program if a volume has these `count` blocks, counted from its first
abbrev pub within_volume : Extent → (block count : ℕ) → Program → Program
within_volume extent block count program =
    if_within extent.blocks block (is_within extent.blocks block count) program

-- THE PROGRAM OF EACH COMMAND

-- writes zeros to all blocks of the new volume before the table has it
abbrev pub makes : Geometry → (name : List ℕ) → Result Table TableFault → Program
makes g name (Err why) = Over (status_of_table why)
makes g name (Ok table) = if_found (find_in table.entries name) (λ extent.
    clears g extent.blocks extent.first extent.blocks
    (sets_table g table (Put (made_line name extent) (Over Done))))

abbrev pub removes : Geometry → (name : List ℕ) → Result Table TableFault → Program
removes g name (Err why) = Over (status_of_table why)
removes g name (Ok table) = sets_table g table (Put (dropped_line name) (Over Done))

abbrev pub lists : List Entry → Program
lists [] = Over Done
lists (entry ∷ later) = Put (volume_line entry.name entry.extent) (lists later)

-- the program of a command, by the table that block 0 is, if any
abbrev pub on_table : Geometry → VolumeJob → Option Table → Program
on_table g volume.Ready None =
    sets_table g (table_with (block_count g) []) (Put ready_line (Over Done))
on_table g volume.Ready (Some table) = Over TableThere
on_table g _ None = Over NoTable
on_table g (volume.Make name blocks) (Some table) = makes g name (with_volume table name blocks)
on_table g (volume.Remove name) (Some table) = removes g name (without_volume table name)
on_table g volume.List (Some table) = lists table.entries
on_table g (volume.Read name block count) (Some table) =
    if_found (find_in table.entries name) (λ extent. within_volume extent block count
    (reads g (extent.first + block) count))
on_table g (volume.Write name block count) (Some table) =
    if_found (find_in table.entries name) (λ extent. within_volume extent block count
    (writes g (extent.first + block) count count 0 []))

-- the table is read first
abbrev pub volume_program : VolumeJob → Geometry → Program
volume_program job g = take_step g.n (ReadBlock 0)
    (λ bytes. on_table g job (table_of (block_count g) bytes))

-- KINDS

-- The command takes input.
abbrev pub TakesSome : VolumeJob → Type 0
TakesSome (volume.Write name block count) = ⊤
TakesSome _ = ⊥

-- The command writes output before it is done.
abbrev pub PutsSome : VolumeJob → Type 0
PutsSome volume.List = ⊤
PutsSome (volume.Read name block count) = ⊤
PutsSome _ = ⊥
