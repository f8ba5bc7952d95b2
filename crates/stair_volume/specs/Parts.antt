-- What the parts of a command on volumes do, each up to where the next part takes over.
use Rattle.std.specs.Prelude.{◌≡◌, ◌+◌, ◌<◌, ◌≤◌, ℕ, false, List, Result, Ok, Err, None, Some, max, ⊤}
use Rattle.stair_array.specs.Faults.{refusal_for}
use Rattle.stair_array.specs.declared.fault.ArrayFault.{ArrayFault}
use Rattle.stair_array.specs.declared.fault.ArrayFault.TheVariants as array
use Rattle.stair_conf.specs.declared.job.VolumeJob.{VolumeJob}
use Rattle.stair_conf.specs.declared.job.VolumeJob.TheVariants as volume
use Rattle.stair_command.specs.Program.{Program, Over, Put}
use Rattle.stair_command.specs.Refused.{status_of_refusal}
use Rattle.stair_command.specs.Transfers.{is_within}
use Rattle.stair_status.specs.declared.status.Status.TheVariants.{Done}
use Rattle.stair_volume.specs.declared.extent.Entry.{Entry}
use Rattle.stair_volume.specs.declared.extent.Extent.{Extent}
use Rattle.stair_volume.specs.declared.fault.VolumeFault.{VolumeFault}
use Rattle.stair_volume.specs.declared.fault.VolumeFault.TheVariants as fault
use Rattle.stair_volume.specs.declared.table_fault.TableFault.TheVariants.{NoVolume}
use Rattle.stair_volume.specs.Commands.{status_of_volume}
use Rattle.stair_volume.specs.Table.{find_in}

-- after steps of an array of `slots` slots, one of which may be refused
abbrev pub after_steps : (slots : ℕ) → Result (Unit {0}) ArrayFault → (rest : Program) → Program
after_steps slots (Ok done) rest = rest
after_steps slots (Err why) rest = Over (status_of_refusal slots (refusal_for why))

-- after a part that was done, or not
abbrev pub after_done : (slots : ℕ) → Result (Unit {0}) VolumeFault → (rest : Program) → Program
after_done slots (Ok done) rest = rest
after_done slots (Err why) rest = Over (status_of_volume slots why)

-- after a change of the volumes, which is reported by a line
abbrev pub after_line : (slots : ℕ) → Result (List ℕ) VolumeFault → Program
after_line slots (Ok line) = Put line (Over Done)
after_line slots (Err why) = Over (status_of_volume slots why)

-- a volume that is made has blocks
abbrev pub MakesSome : VolumeJob → Type 0
MakesSome (volume.Make name blocks) = 1 ≤ blocks
MakesSome _ = ⊤

-- The volume of this name has `count` blocks from `block` on, and the first of them is block `first` of the array. For
-- a count of 0 nothing is said of the range.
pub record IsFirstBlock (entries : List Entry) (name : List ℕ) (block count : ℕ) (first : ℕ) : Type 0 where
  pub extent : Extent
  pub found : find_in entries name ≡ Some extent
  pub within : 0 < count → block + count ≤ extent.blocks
  pub is : 0 < count → first ≡ extent.first + block

-- There is no such volume, or the range is not within it.
abbrev pub IsNoRange : List Entry → (name : List ℕ) → (block count : ℕ) → VolumeFault → Type 0
IsNoRange entries name block count (fault.Table NoVolume) = find_in entries name ≡ None
IsNoRange entries name block count (fault.Array (array.OutOfRange asked limit)) =
    (extent : Extent) × (find_in entries name ≡ Some extent)
    × (is_within extent.blocks block count ≡ false) × (asked ≡ max block extent.blocks)
    × (limit ≡ extent.blocks)
IsNoRange entries name block count _ = ⊥
