-- The volumes that an array holds, before and after a command.
use Rattle.std.specs.Prelude.{◌≡◌, ◌≢◌, ◌⊎◌, ◌+◌, ◌≤◌, ◌<◌, ℕ, zero, suc, Bool, List, [], ◌∷◌, ◌++◌, All, None, bytes_eq, drop, filter, length, map, not, replicate, take, if◌then◌else◌, ⊤}
use Rattle.std.specs.List.{concat}
use Rattle.stair_model.specs.Geometry.{IsWithinLimits, block_count}
use Rattle.stair_rack.specs.History.{Happening}
use Rattle.stair_member.specs.Seats.{Seats}
use Rattle.stair_invariant.specs.Returning.{Returning}
use Rattle.stair_array.specs.Machine.{CutWithin, IsAsItWas, Step}
use Rattle.stair_conf.specs.Name.{IsName}
use Rattle.stair_command.specs.Program.{Program, Over, opens_array}
use Rattle.stair_command.specs.Run.{IsNext, Now, Runs, now}
use Rattle.stair_command.specs.Trace.{TraceItem, AlongTrace, StepsProgram, put_in, taken_in}
use Rattle.stair_status.specs.declared.status.Status.TheVariants.{Done}
use Rattle.stair_volume.specs.Commands.{volume_program}
use Rattle.stair_model.specs.Stripe.{SECTOR}
use Rattle.stair_state.specs.Blocks.{Blocks, zero_block}
use Rattle.stair_state.specs.State.{State, new_content}
use Rattle.stair_conf.specs.declared.job.VolumeJob.{VolumeJob}
use Rattle.stair_conf.specs.declared.job.VolumeJob.TheVariants as volume
use Rattle.stair_volume.specs.declared.extent.Entry.{Entry}
use Rattle.stair_volume.specs.Page.{HasTable}
use Rattle.stair_volume.specs.Table.{Table}

-- VOLUMES

-- a volume: its name, and its blocks in their order
pub record Volume : Type 0 where
  pub name : List ℕ
  pub blocks : List (List ℕ)

-- `count` blocks from `first` on
abbrev pub blocks_from : Blocks → (first count : ℕ) → List (List ℕ)
blocks_from held first zero = []
blocks_from held first (suc count) = held first ∷ blocks_from held (first + 1) count

-- the volume of an entry
abbrev pub volume_at : Blocks → Entry → Volume
volume_at held entry = record {
  name = entry.name;
  blocks = blocks_from held entry.extent.first entry.extent.blocks;
}

-- The blocks of an array of `count` blocks hold these volumes: block 0 is a table with an entry for each.
pub record HasVolumes (count : ℕ) (held : Blocks) (volumes : List Volume) : Type 0 where
  pub table : Table
  pub is_table : HasTable count (held 0) table
  pub are : volumes ≡ map (volume_at held) table.entries

-- Block 0 is not a table.
abbrev pub HasNone : (count : ℕ) → Blocks → Type 0
HasNone count held = (table : Table) → ¬ HasTable count (held 0) table

-- WHAT A COMMAND MAKES OF THEM

abbrev pub is_of : (name : List ℕ) → Volume → Bool
is_of name v = bytes_eq v.name name

-- the blocks with these contents in place of those from `block` on
abbrev pub overwritten : (block : ℕ) → (contents blocks : List (List ℕ)) → List (List ℕ)
overwritten block contents blocks =
    take block blocks ++ (contents ++ drop (block + length contents) blocks)

-- the volumes after a command that is done and wrote these blocks
abbrev pub after_job : VolumeJob → (contents : List (List ℕ)) → List Volume → List Volume
after_job volume.Ready contents volumes = []
after_job (volume.Make name blocks) contents volumes =
    volumes ++ record { name = name; blocks = replicate blocks zero_block } ∷ []
after_job (volume.Remove name) contents volumes = filter (λ v. not (is_of name v)) volumes
after_job (volume.Write name block count) contents volumes = map (λ v. if is_of name v
    then record v { blocks = overwritten block contents v.blocks } else v) volumes
after_job _ contents volumes = volumes

-- WHAT IS HELD

-- a command as words spell it: a volume has a name, and one that is made has blocks
abbrev pub IsCommand : VolumeJob → Type 0
IsCommand (volume.Make name blocks) = IsName name × (0 < blocks)
IsCommand (volume.Remove name) = IsName name
IsCommand (volume.Read name block count) = IsName name
IsCommand (volume.Write name block count) = IsName name
IsCommand _ = ⊤

-- v is one of the volumes, and has this name
pub record IsAmong (volumes : List Volume) (name : List ℕ) (v : Volume) : Type 0 where
  pub before : List Volume
  pub after : List Volume
  pub are : volumes ≡ before ++ v ∷ after
  pub named : v.name ≡ name

-- The volume has `count` blocks from `block` on. For a count of 0 nothing is asked.
abbrev pub HasRange : Volume → (block count : ℕ) → Type 0
HasRange v block count = 0 < count → block + count ≤ length v.blocks

-- what a command needs of the volumes
abbrev pub Fits : VolumeJob → (contents : List (List ℕ)) → List Volume → Type 0
Fits (volume.Make name blocks) contents volumes = All (λ v. v.name ≢ name) volumes
Fits (volume.Remove name) contents volumes = (v : Volume) × IsAmong volumes name v
Fits (volume.Read name block count) contents volumes =
    (v : Volume) × IsAmong volumes name v × HasRange v block count
Fits (volume.Write name block count) contents volumes =
    (v : Volume) × IsAmong volumes name v × HasRange v block (length contents)
Fits _ contents volumes = ⊤

-- The command begins with these volumes. `vinit` begins on an array whose block 0 is not a table.
abbrev pub BeginsWith : VolumeJob → (count : ℕ) → Blocks → List Volume → Type 0
BeginsWith volume.Ready count held volumes = HasNone count held
BeginsWith job count held volumes = HasVolumes count held volumes

-- The command was done with these blocks, on what an array of `count` blocks held.
pub record HasDone (job : VolumeJob) (contents : List (List ℕ)) (count : ℕ) (held now : Blocks)
    : Type 0 where
  pub volumes : List Volume
  pub begins : BeginsWith job count held volumes
  pub fits : Fits job contents volumes
  pub has : HasVolumes count now (after_job job contents volumes)

-- No volume was added, taken out or changed.
pub record KeepsVolumes (count : ℕ) (held now : Blocks) : Type 0 where
  pub some : (volumes : List Volume) → HasVolumes count held volumes → HasVolumes count now volumes
  pub none : HasNone count held → HasNone count now

-- The bytes that were taken begin with these whole blocks.
pub record AreFront (contents : List (List ℕ)) (taken : List ℕ) : Type 0 where
  pub rest : List ℕ
  pub are : taken ≡ concat contents ++ rest
  pub whole : All (λ bytes. length bytes ≡ SECTOR) contents

-- the number of blocks that a command is to write from its input
abbrev pub most_written : VolumeJob → ℕ
most_written (volume.Write name block count) = count
most_written job = 0

-- During a command an array of `count` blocks holds the volumes that it held, or those after the command. A write may
-- have written only the first blocks of its input.
abbrev pub MayHold : VolumeJob → (taken : List ℕ) → (count : ℕ) → (held now : Blocks) → Type 0
MayHold job taken count held now = KeepsVolumes count held now
    ⊎ ((contents : List (List ℕ)) × AreFront contents taken
    × (length contents ≤ most_written job) × HasDone job contents count held now)

-- CALLS

-- The change that was in doubt as the array was opened was made, or it was not.
abbrev pub IsSettled : State → Blocks → Type 0
IsSettled s held = (held ≡ s.content.blocks) ⊎ (held ≡ (new_content s).blocks)

-- The array was opened. It holds what it may during the command, whether the change in doubt now is made or not.
pub record WasOpened (job : VolumeJob) (taken : List ℕ) (s now : State) : Type 0 where
  pub held : Blocks
  pub settled : IsSettled s held
  pub holds : MayHold job taken (block_count s.geometry) held now.content.blocks
  pub may_hold : MayHold job taken (block_count s.geometry) held (new_content now).blocks

-- By this moment the array is as it was, or was opened.
abbrev pub Goes : VolumeJob → (taken : List ℕ) → (s now : State) → Type 0
Goes job taken s now = IsAsItWas s now ⊎ WasOpened job taken s now

-- A `vread` puts out the bytes of its `count` blocks of the volume.
abbrev pub PutsOut : VolumeJob → List Volume → (put : List ℕ) → Type 0
PutsOut (volume.Read name block count) volumes put = (v : Volume) × IsAmong volumes name v
    × (put ≡ concat (take count (drop block v.blocks)))
PutsOut job volumes put = ⊤

-- The command was done with all blocks that it was to take, and nothing is in doubt.
pub record IsFinished (job : VolumeJob) (taken put : List ℕ) (s now : State) : Type 0 where
  pub held : Blocks
  pub settled : IsSettled s held
  pub contents : List (List ℕ)
  pub front : AreFront contents taken
  pub all : length contents ≡ most_written job
  pub done : HasDone job contents (block_count s.geometry) held now.content.blocks
  pub puts : PutsOut job done.volumes put
  pub certain : now.in_doubt ≡ None

-- THE LAWS

-- A trace follows the program of a command as a run of the machine, from the opening of an array in a state. These laws
-- hold at each moment of it, and after a crash that cuts the next step.
abbrev pub VolumesStay : Type 0
VolumesStay = (returning : Returning) (before : List Happening) (job : VolumeJob)
    (done : List TraceItem) (rest : Program) (s : State) (new : Now) (h : List Happening) → IsCommand job
    → IsWithinLimits s.geometry → AlongTrace StepsProgram done (opens_array (volume_program job)) rest
    → Runs returning before done (now s h None) new
    → Goes job (taken_in done) s new.state

abbrev pub CutsAreSafe : Type 0
CutsAreSafe = (returning : Returning) (before : List Happening) (job : VolumeJob)
    (done : List TraceItem) (rest : Program) (s left : State) (new : Now) (h : List Happening)
    (step : Step) (begun : Seats) → IsCommand job → IsWithinLimits s.geometry
    → AlongTrace StepsProgram done (opens_array (volume_program job)) rest
    → Runs returning before done (now s h None) new → IsNext rest step → new.stopped ≡ None
    → CutWithin step begun new.state left → Goes job (taken_in done) s left

-- If the whole trace ends with Done, the command is finished.
abbrev pub DoneIsFinished : Type 0
DoneIsFinished = (returning : Returning) (before : List Happening) (job : VolumeJob)
    (done : List TraceItem) (s : State) (new : Now) (h : List Happening) → IsCommand job
    → IsWithinLimits s.geometry → AlongTrace StepsProgram done (opens_array (volume_program job)) (Over Done)
    → Runs returning before done (now s h None) new
    → IsFinished job (taken_in done) (put_in done) s new.state

-- Two reads of a volume that are done, of any two arrays, give the same bytes if the volume is the same in both.
abbrev pub VolumesReadAlike : Type 0
VolumesReadAlike = (name : List ℕ) (block count : ℕ) (taken put taken' put' : List ℕ)
    (s new s' new' : State) (v : Volume)
    → (a : IsFinished (volume.Read name block count) taken put s new)
    → (b : IsFinished (volume.Read name block count) taken' put' s' new')
    → IsAmong a.done.volumes name v → IsAmong b.done.volumes name v → put ≡ put'
