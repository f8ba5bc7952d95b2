-- The volumes of an array over its life: commands in order, and what reads of volumes give. The newest comes first.
use Rattle.std.specs.Prelude.{◌≡◌, ◌⊎◌, ◌+◌, ◌-◌, ◌*◌, ◌<◌, ◌≤◌, ◌++◌, ◌&&◌, ℕ, Bool, List, [], ◌∷◌, All, Contains, Option, None, Some, bytes_eq, length, map, min, nat_le, nat_lt, replicate, slice_get, if◌then◌else◌, ⊤}
use Rattle.std.specs.List.{concat}
use Rattle.stair_model.specs.Geometry.{block_count}
use Rattle.stair_model.specs.Stripe.{SECTOR}
use Rattle.stair_state.specs.Blocks.{Blocks}
use Rattle.stair_state.specs.State.{State}
use Rattle.stair_conf.specs.declared.job.VolumeJob.{VolumeJob}
use Rattle.stair_conf.specs.declared.job.VolumeJob.TheVariants as volume
use Rattle.stair_volume.specs.declared.extent.Entry.{Entry}
use Rattle.stair_volume.specs.Page.{HasTable, table_of}
use Rattle.stair_volume.specs.Table.{Table, end_of}
use Rattle.stair_volume.specs.Volumes.{Goes, IsFinished, IsSettled, Volume, is_of, most_written, volume_at}

-- COMMANDS

pub data Turn : Type 0 where
  -- A command on volumes was done. It took these bytes of its input, and put those bytes out.
  Did : VolumeJob → (taken put : List ℕ) → Turn
  -- A crash cut a command on volumes, or it ended otherwise. By then it had taken these bytes.
  Began : VolumeJob → (taken : List ℕ) → Turn
  -- Another command. It left the blocks of the table and of the volume in question.
  Other : Turn

-- Block b is the table, or a block of the volume of this name.
abbrev pub IsOfVolume : (name : List ℕ) → (count : ℕ) → Blocks → (b : ℕ) → Type 0
IsOfVolume name count held b = (b ≡ 0) ⊎ ((table : Table) × (entry : Entry)
    × HasTable count (held 0) table × Contains table.entries entry × (entry.name ≡ name)
    × (entry.extent.first ≤ b) × (b < end_of entry.extent))

-- The blocks of the table and of the volume are as they were, whether a change in doubt was made or not.
abbrev pub LeavesVolume : (name : List ℕ) → State → State → Type 0
LeavesVolume name s now = (held : Blocks) → IsSettled now held
    → (was : Blocks) × IsSettled s was
    × ((b : ℕ) → IsOfVolume name (block_count s.geometry) was b → held b ≡ was b)

-- The turn leads from the one state to the other, for the volume of this name.
abbrev pub Turns : (name : List ℕ) → Turn → State → State → Type 0
Turns name (Did job taken put) s now = IsFinished job taken put s now
Turns name (Began job taken) s now = Goes job taken s now
Turns name Other s now = LeavesVolume name s now

-- The life leads from the one state to the other, for the volume of this name.
abbrev pub Lives : (name : List ℕ) → List Turn → State → State → Type 0
Lives name [] s now = now ≡ s
Lives name (turn ∷ life) s now = (mid : State) × Lives name life s mid
    × (now.geometry ≡ mid.geometry) × Turns name turn mid now

-- BYTES OF VOLUMES

-- by the name of a volume and a place in it; None where there is no such volume or place
abbrev pub Bytes : Type 0
Bytes = (name : List ℕ) → (at : ℕ) → Option ℕ

abbrev pub bytes_of : List Volume → Bytes
bytes_of [] name at = None
bytes_of (v ∷ later) name at =
    if is_of name v then slice_get (concat v.blocks) at else bytes_of later name at

-- by the table, if there is one
abbrev pub bytes_by : Option Table → Blocks → Bytes
bytes_by None held name at = None
bytes_by (Some table) held name at = bytes_of (map (volume_at held) table.entries) name at

-- the bytes of the volumes that an array of `count` blocks holds; block 0 is the table
abbrev pub bytes_held : (count : ℕ) → Blocks → Bytes
bytes_held count held = bytes_by (table_of count (held 0)) held

-- FATES

-- Each turn has a fate. For a command that was begun and not done, it is the number of blocks of its input that were
-- written, or None if the command counts as not done. For any other turn it means nothing. A fate that is not given is
-- None.
abbrev pub Fate : Type 0
Fate = Option ℕ

abbrev pub fate : List Fate → Fate
fate [] = None
fate (made ∷ fates) = made

-- the fates of the turns before
abbrev pub earlier : List Fate → List Fate
earlier [] = []
earlier (made ∷ fates) = fates

-- `count` blocks from `block` on have the byte of this place
abbrev pub has_place : (block count at : ℕ) → Bool
has_place block count at = nat_le (SECTOR * block) at && nat_lt at (SECTOR * (block + count))

-- the bytes after a command; one that writes has written this number of blocks of its input
abbrev pub after_job : VolumeJob → (taken : List ℕ) → (written : ℕ) → Bytes → Bytes
after_job volume.Ready taken written old name at = None
after_job (volume.Make made blocks) taken written old name at =
    if bytes_eq made name then slice_get (replicate (SECTOR * blocks) 0) at else old name at
after_job (volume.Remove removed) taken written old name at =
    if bytes_eq removed name then None else old name at
after_job (volume.Write other block count) taken written old name at =
    if bytes_eq other name && has_place block (min written count) at
    then slice_get taken (at - SECTOR * block) else old name at
after_job _ taken written old name at = old name at

abbrev pub after_turn : Turn → Fate → Bytes → Bytes
after_turn (Did job taken put) made old = after_job job taken (most_written job) old
after_turn (Began job taken) None old = old
after_turn (Began job taken) (Some written) old = after_job job taken written old
after_turn Other made old = old

-- The last byte of each place: of the commands that were done, and of those that count as done.
abbrev pub last_written : List Turn → List Fate → Bytes → Bytes
last_written [] fates first = first
last_written (turn ∷ life) fates first =
    after_turn turn (fate fates) (last_written life (earlier fates) first)

-- `put` is `size` bytes of the volume of this name, from `from` on.
pub record AreBytes (held : Bytes) (name : List ℕ) (from size : ℕ) (put : List ℕ) : Type 0 where
  pub length : length put ≡ size
  pub each : (i : ℕ) → i < size → slice_get put i ≡ held name (from + i)

-- If the turn is a read of this volume that was done, it gives what the volume holds.
abbrev pub ReadsLast : (name : List ℕ) → Turn → Bytes → Type 0
ReadsLast name (Did (volume.Read other block count) taken put) held =
    other ≡ name → AreBytes held name (SECTOR * block) (SECTOR * count) put
ReadsLast name _ held = ⊤

-- Each read of the volume gives the last byte of each place.
abbrev pub EachReadsLast : (name : List ℕ) → List Turn → List Fate → Bytes → Type 0
EachReadsLast name [] fates first = ⊤
EachReadsLast name (turn ∷ life) fates first =
    ReadsLast name turn (last_written life (earlier fates) first)
    × EachReadsLast name life (earlier fates) first

-- ONE BYTE

-- A command that is done changes this byte, or the volume that it is a byte of: it makes, removes or writes the volume
-- there, or makes a table.
abbrev pub Changes : (name : List ℕ) → (at : ℕ) → VolumeJob → Type 0
Changes name at volume.Ready = ⊤
Changes name at (volume.Make made blocks) = made ≡ name
Changes name at (volume.Remove removed) = removed ≡ name
Changes name at (volume.Write other block count) =
    (other ≡ name) × (SECTOR * block ≤ at) × (at < SECTOR * (block + count))
Changes name at _ = ⊥

-- The turn changed the byte, or may have.
abbrev pub MayChange : (name : List ℕ) → (at : ℕ) → Turn → Type 0
MayChange name at (Did job taken put) = Changes name at job
MayChange name at (Began job taken) = Changes name at job
MayChange name at Other = ⊥

-- No turn changed the byte.
abbrev pub NoneChanges : (name : List ℕ) → (at : ℕ) → List Turn → Type 0
NoneChanges name at life = All (λ turn. ¬ MayChange name at turn) life

-- A command was done that changes the byte.
abbrev pub HasChanged : (name : List ℕ) → (at : ℕ) → Turn → Type 0
HasChanged name at (Did job taken put) = Changes name at job
HasChanged name at turn = ⊥

-- The command writes this byte there, or may have: one of its input, or a zero if it makes the volume.
abbrev pub Writes : (name : List ℕ) → (at byte : ℕ) → VolumeJob → (taken : List ℕ) → Type 0
Writes name at byte (volume.Make made blocks) taken =
    (made ≡ name) × (at < SECTOR * blocks) × (byte ≡ 0)
Writes name at byte (volume.Write other block count) taken =
    Changes name at (volume.Write other block count)
    × (slice_get taken (at - SECTOR * block) ≡ Some byte)
Writes name at byte job taken = ⊥

abbrev pub MayWrite : (name : List ℕ) → (at byte : ℕ) → Turn → Type 0
MayWrite name at byte (Did job taken put) = Writes name at byte job taken
MayWrite name at byte (Began job taken) = Writes name at byte job taken
MayWrite name at byte Other = ⊥

-- A turn of this life wrote the byte, and no command that changes it was done after that; or no command that changes it
-- was done, and the byte is from before.
pub data IsLast (first : Bytes) (name : List ℕ) (at byte : ℕ) (life : List Turn) : Type 0 where
  Wrote : (after before : List Turn) → (turn : Turn) → life ≡ after ++ turn ∷ before
      → MayWrite name at byte turn → All (λ turn. ¬ HasChanged name at turn) after
      → IsLast first name at byte life
  AtFirst : first name at ≡ Some byte → All (λ turn. ¬ HasChanged name at turn) life
      → IsLast first name at byte life

-- LAWS

-- what an array holds of volumes
abbrev pub bytes_in : State → Bytes
bytes_in s = bytes_held (block_count s.geometry) s.content.blocks

-- Each block has all its bytes.
abbrev pub HasWholeBlocks : State → Type 0
HasWholeBlocks s =
    (b : ℕ) → b < block_count s.geometry → length (s.content.blocks b) ≡ SECTOR

-- It begins with nothing in doubt.
pub record Begins (s : State) : Type 0 where
  pub certain : s.in_doubt ≡ None
  pub whole : HasWholeBlocks s

-- One list of fates explains every read of a volume, and what these blocks hold of it.
pub record IsExplained (name : List ℕ) (life : List Turn) (s : State) (held : Blocks) : Type 0
  where
    pub fates : List Fate
    pub reads : EachReadsLast name life fates (bytes_in s)
    pub holds : (at : ℕ) → bytes_held (block_count s.geometry) held name at
        ≡ last_written life fates (bytes_in s) name at

-- One list of fates, given once for all, explains every read of a volume and what the array then holds of it, with a
-- change in doubt made or not. Each command that was cut was settled once.
abbrev pub LivesAreExplained : Type 0
LivesAreExplained = (name : List ℕ) (s new : State) (life : List Turn) (held : Blocks) → Begins s
    → Lives name life s new → IsSettled new held → IsExplained name life s held

-- byte i of `count` blocks that are read or written is the one of this place
pub record IsAt (block count i at : ℕ) : Type 0 where
  pub within : i < SECTOR * count
  pub place : at ≡ SECTOR * block + i

-- Each byte of each read is that of the last command that was done and writes it, or of one that was begun later.
abbrev pub ReadsAreLast : Type 0
ReadsAreLast = (s new : State) (before after : List Turn) (name : List ℕ) (block count : ℕ)
    (taken put : List ℕ) (i at : ℕ) → Begins s
    → Lives name (after ++ Did (volume.Read name block count) taken put ∷ before) s new
    → IsAt block count i at
    → (byte : ℕ) × (slice_get put i ≡ Some byte) × IsLast (bytes_in s) name at byte before

-- If a write was done, and nothing changed the byte since, each read gives what was written, after any crashes.
abbrev pub WrittenIsRead : Type 0
WrittenIsRead = (s new : State) (before between after : List Turn) (name : List ℕ)
    (block count first blocks : ℕ) (taken input put none : List ℕ) (i k at : ℕ) → Begins s
    → Lives name (after ++ Did (volume.Read name block count) taken put
    ∷ (between ++ Did (volume.Write name first blocks) input none ∷ before)) s new
    → IsAt block count i at → IsAt first blocks k at → NoneChanges name at between
    → slice_get put i ≡ slice_get input k

-- If a volume was made, and nothing changed the byte since, the byte is zero.
abbrev pub MadeIsZero : Type 0
MadeIsZero = (s new : State) (before between after : List Turn) (name : List ℕ)
    (block count blocks : ℕ) (taken put none line : List ℕ) (i at : ℕ) → Begins s
    → Lives name (after ++ Did (volume.Read name block count) taken put
    ∷ (between ++ Did (volume.Make name blocks) none line ∷ before)) s new
    → IsAt block count i at → at < SECTOR * blocks → NoneChanges name at between
    → slice_get put i ≡ Some 0

-- A write that was cut is settled once: two reads give the same byte if nothing changed it in between.
abbrev pub ReadsAgree : Type 0
ReadsAgree = (s new : State) (before between after : List Turn) (name : List ℕ)
    (block count block' count' : ℕ) (taken put taken' put' : List ℕ) (i i' at : ℕ) → Begins s
    → Lives name (after ++ Did (volume.Read name block' count') taken' put'
    ∷ (between ++ Did (volume.Read name block count) taken put ∷ before)) s new
    → IsAt block count i at → IsAt block' count' i' at → NoneChanges name at between
    → slice_get put' i' ≡ slice_get put i
