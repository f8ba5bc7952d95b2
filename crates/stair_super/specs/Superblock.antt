-- What a superblock says, and when it is well formed.
use Rattle.std.specs.Prelude.{◌≡◌, ◌≢◌, ℕ, ◌<◌, ◌≤◌, ◌^◌, length, slice_index, slice_index_or}
use Rattle.stair_model.specs.Geometry.{IsWithinLimits}
use Rattle.stair_super.specs.Label.{IsLabel}
use Rattle.stair_super.specs.declared.configuration.Configuration.{Configuration}
use Rattle.stair_super.specs.declared.mark.Mark.{Mark}
use Rattle.stair_super.specs.declared.mark.Mark.TheVariants.{Live, Rebuilding, Down}

pub record Superblock : Type 0 where
  -- what its epoch names: geometry, epoch, marks, joined numbers, frozen mark and label
  pub array : Configuration
  -- the slot of the device that has this superblock
  pub slot : ℕ
  -- the epoch in which this device was admitted to its slot
  pub joined : ℕ
  -- the number that was drawn for this superblock
  pub draw : ℕ

-- a superblock by its fields
abbrev pub superblock_of : Configuration → ℕ → ℕ → ℕ → Superblock
superblock_of array slot joined draw =
    record { array = array; slot = slot; joined = joined; draw = draw }

-- the mark that a slot has there
abbrev pub mark_in : Configuration → ℕ → Mark
mark_in array j = slice_index_or array.marks j Down

-- the epoch in which the device of a slot was admitted
abbrev pub joined_in : Configuration → ℕ → ℕ
joined_in array j = slice_index array.joins j

abbrev pub mark_at : Superblock → ℕ → Mark
mark_at s j = mark_in s.array j

abbrev pub joined_at : Superblock → ℕ → ℕ
joined_at s j = joined_in s.array j

-- what the joined number of a slot with this mark may be
abbrev pub IsJoined : Mark → ℕ → ℕ → Type 0
IsJoined Live joined epoch = (1 ≤ joined) × (joined ≤ epoch)
IsJoined Rebuilding joined epoch = (1 ≤ joined) × (joined ≤ epoch)
IsJoined Down joined epoch = joined ≡ 0

-- what an epoch may name
pub record IsConfiguration (array : Configuration) : Type 0 where
  pub limits : IsWithinLimits array.geometry
  pub begun : 1 ≤ array.epoch
  pub entries : (j : ℕ) → j < 32 → IsJoined (mark_in array j) (joined_in array j) array.epoch
  -- slots that the array hasn't are Down
  pub absent : (j : ℕ) → array.geometry.n ≤ j → j < 32 → mark_in array j ≡ Down

pub record IsWellFormed (s : Superblock) : Type 0 where
  pub array : IsConfiguration s.array
  pub slot_in : s.slot < s.array.geometry.n
  pub drawn : s.array.epoch ≤ s.draw
  -- the slot of the device itself
  pub here : mark_at s s.slot ≢ Down
  pub own : s.joined ≡ joined_at s s.slot

-- the fields have the sizes that the format has for them
pub record HasSizes (s : Superblock) : Type 0 where
  pub id : length s.array.geometry.id ≡ 16
  pub draw : s.draw < 2 ^ 64
  pub marks : length s.array.marks ≡ 32
  pub joins : length s.array.joins ≡ 32
  pub label : IsLabel s.array.label

pub record IsSuperblock (s : Superblock) : Type 0 where
  pub sizes : HasSizes s
  pub rules : IsWellFormed s
