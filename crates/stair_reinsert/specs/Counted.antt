-- Tolerance of a stretch in which what fails at one moment counts as failed throughout. It isn't enough for an opening, which
-- looks at each slot once.
use Rattle.std.specs.Prelude.{◌≡◌, ◌<◌, ◌≤◌, ◌⊎◌, ℕ, List}
use Rattle.stair_model.specs.CellSet.{CellSet, HasCell}
use Rattle.stair_model.specs.Coverage.{IsCovered}
use Rattle.stair_model.specs.Device.{cell_sector, chunks_start, gate_sector}
use Rattle.stair_model.specs.Geometry.{Geometry}
use Rattle.stair_model.specs.Slots.{HasSlot, IsSlotSet, Slots, slot_count}
use Rattle.stair_rack.specs.Crash.{SlotMayLeave}
use Rattle.stair_rack.specs.History.{Happening, slot_state}
use Rattle.stair_rack.specs.Media.{Image, SlotImage}
use Rattle.stair_rack.specs.Moments.{AtSomeMoment, IsMoment}
use Rattle.stair_rack.specs.Crash.{EachImage}
use Rattle.stair_rack.specs.Offline.{IsOffline}
use Rattle.stair_rack.specs.Sector.{Damaged}
use Rattle.stair_super.specs.Superblock.{Superblock}
use Rattle.stair_member.specs.Counting.{MoreThan}
use Rattle.stair_member.specs.Current.{IsCurrent, IsFailed, IsLive, IsLost}
use Rattle.stair_member.specs.Reserve.{Bears}

-- In the image at most these slots have failed. Where all of them count as such, every stripe is covered, and a live slot that
-- isn't one of them has a whole journal.
pub record IsToleratedCounting (failed : Slots) (offline : ℕ → Type 0) (g : Geometry)
    (image : Image) : Type 0 where
  pub current : Superblock
  pub is_current : IsCurrent g image current
  pub has_failed : (j : ℕ) → IsFailed offline g image current j → HasSlot failed j
  pub erased : ℕ → CellSet
  pub covered : (t : ℕ) → t < g.stripes → IsCovered g (erased t)
  pub has : (t i j : ℕ) → t < g.stripes → i < g.r → j < g.n
      → HasSlot failed j ⊎ ((image j).cell (cell_sector g t i) ≡ Damaged)
      → HasCell (erased t) i j
  pub journal : ℕ
  pub journal_live : IsLive g image current journal
  pub journal_kept : ¬ HasSlot failed journal
  pub whole : (k : ℕ) → gate_sector ≤ k → k < chunks_start g → ¬ IsLost ((image journal).cell k)

-- at some moment from old to new, in something that a crash then may leave, slot j's medium bears a superblock of this array
-- for the slot
pub record HasBorne (g : Geometry) (old new : List Happening) (j : ℕ) : Type 0 where
  pub image : SlotImage
  pub left : AtSomeMoment (λ h. SlotMayLeave (slot_state h j) image) old new
  pub super : Superblock
  pub bears : Bears g j image.cell super

-- No array but this one stands from old to new, where of each slot all superblocks count that it bears at some moment.
abbrev pub IsAlone : Geometry → List Happening → List Happening → Type 0
IsAlone g old new = (other : Geometry) → MoreThan other.m (HasBorne other old new) → other ≡ g

-- Slots that have failed at a moment of the stretch count as failed throughout. Counted so, each moment is within tolerance;
-- and no other array stands where of each slot all superblocks count that it bears at some moment.
pub record IsToleratedCounted (g : Geometry) (before old new : List Happening) : Type 0 where
  pub failed : Slots
  pub formed : IsSlotSet failed
  pub few : slot_count failed ≤ g.m
  pub each : (h : List Happening) → IsMoment old h new
      → EachImage (IsToleratedCounting failed (IsOffline before h) g) h
  pub alone : IsAlone g old new
