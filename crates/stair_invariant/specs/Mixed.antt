-- What is asked of the outside while an array is opened over which media come back. Each slot is looked at once, at a moment
-- of its own, so tolerance is asked of each image in which the slots are as they were at moments of their own.
use Rattle.std.specs.Prelude.{◌≡◌, ◌<◌, ◌≤◌, ◌⊎◌, ℕ, List, None, ⊤}
use Rattle.stair_model.specs.CellSet.{CellSet, HasCell}
use Rattle.stair_model.specs.Coverage.{IsCovered}
use Rattle.stair_model.specs.Device.{cell_sector, chunks_start, gate_sector}
use Rattle.stair_model.specs.Geometry.{Geometry}
use Rattle.stair_model.specs.Slots.{HasSlot, IsSlotSet, Slots, slot_count}
use Rattle.stair_rack.specs.Crash.{SlotMayLeave}
use Rattle.stair_rack.specs.History.{Acted, Attach, Called, Happening, Made, Read, Sectors, Stopped, Sync, Write, slot_state}
use Rattle.stair_rack.specs.Media.{Image, SlotImage}
use Rattle.stair_rack.specs.Moments.{AtSomeMoment, IsMoment}
use Rattle.stair_rack.specs.Offline.{IsOffline}
use Rattle.stair_rack.specs.Sector.{Damaged, damaged}
use Rattle.stair_rack.specs.Stretch.{EachHappening, NothingWritten}
use Rattle.stair_super.specs.Superblock.{Superblock}
use Rattle.stair_member.specs.Current.{IsCurrent, IsFailed, IsLost}
use Rattle.stair_member.specs.Reserve.{MayStand}
use Rattle.stair_member.specs.Superblocks.{IsOnlyIdentity}
use Rattle.stair_state.specs.Degraded.{AreAllDamaged}

-- at some moment from old to new the sector of the medium that slot j held was damaged, or never written
abbrev pub WasDamaged : List Happening → List Happening → ℕ → ℕ → Type 0
WasDamaged old new j k = AtSomeMoment (λ h. (slot_state h j).sector k ≡ damaged) old new

-- at some moment from old to new slot j was offline, in a session that began at `before`
abbrev pub WasOffline : List Happening → List Happening → List Happening → ℕ → Type 0
WasOffline before old new j = AtSomeMoment (λ h. IsOffline before h j) old new

-- Slot j as it was at a moment from old to new, but that sectors may be damaged that were so at another one, and any of them
-- where the slot was offline at some moment; or empty, where it was.
pub data IsMixedSlot (before old new : List Happening) (j : ℕ) (to : SlotImage) : Type 0 where
  AsAt : (was : SlotImage) → AtSomeMoment (λ h. SlotMayLeave (slot_state h j) was) old new
      → to.size ≡ was.size
      → ((k : ℕ) → (to.cell k ≡ was.cell k)
      ⊎ ((to.cell k ≡ Damaged) × (WasDamaged old new j k ⊎ WasOffline before old new j)))
      → IsMixedSlot before old new j to
  Away : WasOffline before old new j → to.size ≡ None → AreAllDamaged to.cell
      → IsMixedSlot before old new j to

-- each slot at a moment of its own
abbrev pub IsMixed : List Happening → List Happening → List Happening → Image → Type 0
IsMixed before old new to = (j : ℕ) → IsMixedSlot before old new j (to j)

-- A slot that has failed in some such image counts as failed throughout. Counted so, the stretch is within tolerance, and in
-- each such image the array alone stands.
pub record IsToleratedMixed (g : Geometry) (before old new : List Happening) : Type 0 where
  pub identity : (to : Image) → IsMixed before old new to → IsOnlyIdentity g to
  pub others : (to : Image) (other : Geometry) → IsMixed before old new to → MayStand other to
      → other ≡ g
  pub failed : Slots
  pub formed : IsSlotSet failed
  pub few : slot_count failed ≤ g.m
  pub within : (to : Image) (current : Superblock) (j : ℕ) → IsMixed before old new to
      → IsCurrent g to current → IsFailed (λ k. (to k).size ≡ None) g to current j
      → HasSlot failed j
  -- of each stripe the cells that can't be read in one of them, taken together
  pub erased : ℕ → CellSet
  pub covered : (t : ℕ) → t < g.stripes → IsCovered g (erased t)
  pub has : (to : Image) (t i j : ℕ) → IsMixed before old new to → t < g.stripes → i < g.r
      → j < g.n → HasSlot failed j ⊎ ((to j).cell (cell_sector g t i) ≡ Damaged)
      → HasCell (erased t) i j
  -- the slot whose journal is whole in all of them
  pub journal : ℕ
  pub journal_in : journal < g.n
  pub journal_kept : ¬ HasSlot failed journal
  pub whole : (to : Image) (k : ℕ) → IsMixed before old new to → gate_sector ≤ k
      → k < chunks_start g → ¬ IsLost ((to journal).cell k)

-- HOW LONG IT IS ASKED

-- Up to each moment of a session before which nothing was written: so to the end of the survey, and no longer.
abbrev pub IsToleratedUnwritten : Geometry → List Happening → List Happening → Type 0
IsToleratedUnwritten g before h = (moment : List Happening) → IsMoment before moment h
    → NothingWritten before moment → IsToleratedMixed g before before moment

-- no read of a sector from the journal on
abbrev pub ReadsNoJournal : List Happening → Happening → Type 0
ReadsNoJournal h (Made image) = ⊤
ReadsNoJournal h Stopped = ⊤
ReadsNoJournal h (Acted j act) = ⊤
ReadsNoJournal h (Called j (Attach answer)) = ⊤
ReadsNoJournal h (Called j (Sectors size)) = ⊤
ReadsNoJournal h (Called j (Read k answer)) = k < gate_sector
ReadsNoJournal h (Called j (Write k bytes answer)) = ⊤
ReadsNoJournal h (Called j (Sync answer)) = ⊤

-- No journal was read from old to new. An opening reads the journals once its first epoch stands, so one that ends without has
-- been refused that epoch.
abbrev pub NoJournalRead : List Happening → List Happening → Type 0
NoJournalRead old new = EachHappening ReadsNoJournal old new

-- Through a session that ends at h without that a journal was read.
abbrev pub IsToleratedUnread : Geometry → List Happening → List Happening → Type 0
IsToleratedUnread g before h = NoJournalRead before h → IsToleratedMixed g before before h
