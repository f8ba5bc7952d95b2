-- The order of an array's superblocks, of those too that a newer one hides.
use Rattle.std.specs.Prelude.{◌≡◌, ◌≢◌, ◌<◌, ◌≤◌, ◌⊎◌, ℕ}
use Rattle.stair_model.specs.Device.{first_place, second_place}
use Rattle.stair_model.specs.Geometry.{Geometry}
use Rattle.stair_rack.specs.Media.{Image}
use Rattle.stair_rack.specs.Sector.{Cell}
use Rattle.stair_super.specs.Superblock.{Superblock, joined_at, mark_at}
use Rattle.stair_super.specs.declared.mark.Mark.TheVariants.{Down, Live}
use Rattle.stair_member.specs.Counting.{AllBut, MoreThan}
use Rattle.stair_member.specs.Superblocks.{HoldsSuper, IsSuperOf, Counts}
use Rattle.stair_member.specs.Current.{IsLost, Serves}

-- A medium of slot j with these cells bears this superblock of the array for the slot, in either place. A newer one in the
-- other place may hide it.
pub record Bears (g : Geometry) (j : ℕ) (cell : ℕ → Cell) (s : Superblock) : Type 0 where
  pub place : ℕ
  pub place_in : place < 2
  pub holds : HoldsSuper (cell place) s
  pub slot : s.slot ≡ j
  pub identity : s.array.geometry ≡ g

-- no superblock that a slot's medium bears has a greater epoch
abbrev pub NoEpochAbove : Geometry → Image → ℕ → Type 0
NoEpochAbove g image draw = (j : ℕ) (s : Superblock) → Bears g j ((image j).cell) s
    → s.array.epoch ≤ draw

-- where slot j counts and no place of it is lost, its draw is at least every epoch that a medium bears
abbrev pub HasReserved : Geometry → Image → ℕ → Type 0
HasReserved g image j = (s : Superblock) → Counts g image j s
    → ¬ IsLost ((image j).cell first_place) → ¬ IsLost ((image j).cell second_place)
    → NoEpochAbove g image s.draw

-- where slot j counts and no place of it is lost, its superblock names this epoch or a later one
abbrev pub HasReached : Geometry → Image → ℕ → ℕ → Type 0
HasReached g image epoch j = (s : Superblock) → Counts g image j s
    → ¬ IsLost ((image j).cell first_place) → ¬ IsLost ((image j).cell second_place)
    → epoch ≤ s.array.epoch

-- a medium whose superblock marks its slot Live hides none with another joined number
abbrev pub HidesNoOther : Geometry → Image → Type 0
HidesNoOther g image = (j : ℕ) (s newest : Superblock) → Bears g j ((image j).cell) s
    → IsSuperOf ((image j).cell) newest → mark_at newest j ≡ Live → s.joined ≡ newest.joined

-- The superblocks of the image are in order, hidden ones too.
pub record IsOrderly (g : Geometry) (image : Image) : Type 0 where
  -- every epoch that a medium bears was drawn on all slots but m, so that the next one is drawn above it
  pub reserved : AllBut g.n g.m (HasReserved g image)
  -- an epoch names one configuration
  pub one_list : (i j : ℕ) (a b : Superblock) → Bears g i ((image i).cell) a
      → Bears g j ((image j).cell) b → a.array.epoch ≡ b.array.epoch → a.array ≡ b.array
  -- what hides a superblock on its medium counts for the array too, and names no earlier epoch
  pub hidden : (j : ℕ) (s newest : Superblock) → Bears g j ((image j).cell) s
      → IsSuperOf ((image j).cell) newest
      → Counts g image j newest × (s.array.epoch ≤ newest.array.epoch)
  -- and where it marks the slot Live, it is of the same admission
  pub hides : HidesNoOther g image
  -- an epoch is followed by a later one only once all slots but m have reached it
  pub reached : (i j : ℕ) (a b : Superblock) → Bears g i ((image i).cell) a
      → Bears g j ((image j).cell) b → a.array.epoch < b.array.epoch
      → AllBut g.n g.m (HasReached g image a.array.epoch)
  -- from an epoch to a later one the joined number of a slot that isn't Down never falls
  pub joined : (i k j : ℕ) (a b : Superblock) → Bears g i ((image i).cell) a
      → Bears g k ((image k).cell) b → a.array.epoch ≤ b.array.epoch
      → mark_at a j ≢ Down → mark_at b j ≢ Down → joined_at a j ≤ joined_at b j

-- the medium of slot j bears a superblock of the array for the slot
pub record BearsFor (g : Geometry) (image : Image) (j : ℕ) : Type 0 where
  pub super : Superblock
  pub bears : Bears g j ((image j).cell) super

-- The array stands, or would if of some media the hidden superblock counted.
abbrev pub MayStand : Geometry → Image → Type 0
MayStand g image = MoreThan g.m (BearsFor g image)

-- slot j serves, and its draw is at least every epoch that a medium bears
pub record HasGreatestDraw (offline : ℕ → Type 0) (g : Geometry) (image : Image)
    (current : Superblock) (j : ℕ) : Type 0 where
  pub serves : Serves offline g image current j
  pub above : NoEpochAbove g image serves.live.super.draw

-- Slot j bears a superblock of the array for the slot with this draw and this epoch, unless that place of it is lost, and
-- none of a greater draw.
pub record IsLastDrawn (g : Geometry) (image : Image) (draw epoch j : ℕ) : Type 0 where
  pub place : ℕ
  pub place_in : place < 2
  pub last : IsLost ((image j).cell place)
      ⊎ ((s : Superblock) × HoldsSuper ((image j).cell place) s × (s.draw ≡ draw)
      × (s.array.epoch ≡ epoch) × (s.slot ≡ j) × (s.array.geometry ≡ g))
  pub greatest : (s : Superblock) → Bears g j ((image j).cell) s → s.draw ≤ draw
