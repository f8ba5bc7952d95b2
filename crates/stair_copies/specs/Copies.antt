-- When a device is an older copy.
use Rattle.std.specs.Prelude.{◌≡◌, ◌<◌, ℕ, List, Option, None, Some}
use Rattle.stair_model.specs.Device.{first_place, second_place}
use Rattle.stair_rack.specs.Sector.{Cell, Good}
use Rattle.stair_super.specs.Superblock.{Superblock, joined_in, mark_at, mark_in}
use Rattle.stair_super.specs.declared.configuration.Configuration.{Configuration}
use Rattle.stair_super.specs.declared.mark.Mark.TheVariants.{Live}
use Rattle.stair_member.specs.Superblocks.{IsSuperOf}

-- the superblock is the array's for slot j, of the admission that the epoch means
pub record IsMeant (array : Configuration) (j : ℕ) (s : Superblock) : Type 0 where
  pub identity : s.array.geometry ≡ array.geometry
  pub slot : s.slot ≡ j
  pub joined : s.joined ≡ joined_in array j

-- the slot is live, by what the epoch names and by the superblock
pub record AreLive (array : Configuration) (j : ℕ) (s : Superblock) : Type 0 where
  pub marked : mark_in array j ≡ Live
  pub own : mark_at s j ≡ Live

-- The superblock of slot j's device shows that the device is an older copy, in an array whose epoch names this: its draw is below
-- the epoch. The epoch was drawn on every device that was live and that it left live.
pub record IsBehind (array : Configuration) (j : ℕ) (s : Superblock) : Type 0 where
  pub meant : IsMeant array j s
  pub live : AreLive array j s
  pub older : s.draw < array.epoch

-- both superblock places of a medium with these cells can be read, and hold these bytes
pub record HoldsBoth (cell : ℕ → Cell) (first second : List ℕ) : Type 0 where
  pub in_first : cell first_place ≡ Good first
  pub in_second : cell second_place ≡ Good second

-- A device of slot j with these cells is an older copy: both superblock places can be read, and its superblock shows it.
pub record IsOlderCopy (array : Configuration) (j : ℕ) (cell : ℕ → Cell) : Type 0 where
  pub first : List ℕ
  pub second : List ℕ
  pub holds : HoldsBoth cell first second
  pub super : Superblock
  pub is_super : IsSuperOf cell super
  pub behind : IsBehind array j super

-- the draw of a device of slot j with these cells that is an older copy, None of another one
abbrev pub IsCopyDraw : Configuration → ℕ → (ℕ → Cell) → Option ℕ → Type 0
IsCopyDraw array j cell None = ¬ IsOlderCopy array j cell
IsCopyDraw array j cell (Some draw) = (copy : IsOlderCopy array j cell) × (copy.super.draw ≡ draw)
