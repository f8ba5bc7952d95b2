-- The current superblock of an array, and which of its slots are live or have failed.
use Rattle.std.specs.Prelude.{◌≡◌, ◌<◌, ◌≤◌, ◌⊎◌, ℕ}
use Rattle.stair_model.specs.Geometry.{Geometry}
use Rattle.stair_rack.specs.Media.{Image}
use Rattle.stair_rack.specs.Sector.{Cell, Damaged, TornOverDamage}
use Rattle.stair_super.specs.Superblock.{Superblock, mark_at, joined_at}
use Rattle.stair_super.specs.declared.mark.Mark.{Mark}
use Rattle.stair_super.specs.declared.mark.Mark.TheVariants.{Live, Rebuilding}
use Rattle.stair_member.specs.Superblocks.{Counts}

-- of the superblocks that count for the array the one of the greatest epoch, and the lowest slot's at a tie
pub record IsCurrent (g : Geometry) (image : Image) (current : Superblock) : Type 0 where
  pub counts : Counts g image current.slot current
  pub newest : (j : ℕ) (s : Superblock) → Counts g image j s
      → (s.array.epoch < current.array.epoch)
      ⊎ ((s.array.epoch ≡ current.array.epoch) × (current.slot ≤ j))

-- The current superblock gives the slot this mark, and the slot's own medium is the one that it means: its superblock
-- counts for the array and has the joined number of the slot.
pub record HasMark (g : Geometry) (image : Image) (current : Superblock) (mark : Mark) (j : ℕ)
    : Type 0 where
  pub below : j < g.n
  pub marked : mark_at current j ≡ mark
  pub super : Superblock
  pub counts : Counts g image j super
  pub joined : super.joined ≡ joined_at current j

abbrev pub IsLive : Geometry → Image → Superblock → ℕ → Type 0
IsLive g image current j = HasMark g image current Live j

abbrev pub IsRebuilding : Geometry → Image → Superblock → ℕ → Type 0
IsRebuilding g image current j = HasMark g image current Rebuilding j

-- the outside damaged the cell, or it was never written, and no write has succeeded since
pub data IsLost (cell : Cell) : Type 0 where
  ByOutside : cell ≡ Damaged → IsLost cell
  Worn : cell ≡ TornOverDamage → IsLost cell

-- A slot below n has failed: it isn't live, one of its superblock places is lost, or it is offline.
pub data IsFailed (offline : ℕ → Type 0) (g : Geometry) (image : Image) (current : Superblock)
    (j : ℕ) : Type 0 where
  NotLive : j < g.n → ¬ IsLive g image current j → IsFailed offline g image current j
  LostPlace : (k : ℕ) → j < g.n → k < 2 → IsLost ((image j).cell k)
      → IsFailed offline g image current j
  Offline : j < g.n → offline j → IsFailed offline g image current j

-- A slot serves: it is live, no superblock place of it is lost, and it isn't offline. A slot below n serves or has failed.
pub record Serves (offline : ℕ → Type 0) (g : Geometry) (image : Image) (current : Superblock)
    (j : ℕ) : Type 0 where
  pub live : IsLive g image current j
  pub places : (k : ℕ) → k < 2 → ¬ IsLost ((image j).cell k)
  pub online : ¬ offline j
