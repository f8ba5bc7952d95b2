-- A phase: some sectors are written on some slots, and then these slots are synced.
use Rattle.std.specs.Prelude.{◌≡◌, ◌⊎◌, ◌↔◌, ℕ, true, ◌&&◌, ◌==◌, if◌then◌else◌, IsTrue, List, Option, Some, None, IsSome}
use Rattle.stair_model.specs.Slots.{Slots, HasSlot}
use Rattle.stair_rack.specs.Sector.{Cell, Good, Damaged, Sector, settled, content, synced, torn, MayLeave, Leaves}
use Rattle.stair_rack.specs.Media.{has_sector}
use Rattle.stair_rack.specs.History.{Happening, SlotCall, Write, Sync, slot_state}
use Rattle.stair_rack.specs.Answers.{Ran}
use Rattle.stair_rack.specs.Moments.{AtEveryMoment, IsMoment}
use Rattle.stair_rack.specs.Offline.{IsHeld, IsOfflineUntilAttached, ButForOutside, WasPulled}
use Rattle.stair_rack.specs.Passes.{Landed, Settled}
use Rattle.stair_rack.specs.declared.rack.Reply.{Reply}
use Rattle.stair_rack.specs.declared.rack.Reply.TheVariants as reply

-- what is to be written, by slot and sector
abbrev pub Writes : Type 0
Writes = ℕ → ℕ → Option (List ℕ)

-- these bytes to one sector of one slot
abbrev pub one_write : ℕ → ℕ → List ℕ → Writes
one_write slot sector bytes j k = if (j == slot) && (k == sector) then Some bytes else None

-- this slot alone
abbrev pub IsSlot : ℕ → ℕ → Type 0
IsSlot slot j = j ≡ slot

-- this slot, where it answered Gone
abbrev pub IsGoneSlot : ℕ → Reply → ℕ → Type 0
IsGoneSlot slot answer j = (j ≡ slot) × (answer ≡ reply.Gone)

-- one of these writes, on one of these slots
pub record IsWriteOf (what : Writes) (to : ℕ → Type 0) (j : ℕ) (call : SlotCall) : Type 0 where
  pub on : to j
  pub sector : ℕ
  pub bytes : List ℕ
  pub answer : Reply
  pub is_one : what j sector ≡ Some bytes
  pub is : call ≡ Write sector bytes answer

-- a sync of one of these slots
pub record IsSyncOf (to : ℕ → Type 0) (j : ℕ) (call : SlotCall) : Type 0 where
  pub on : to j
  pub answer : Reply
  pub is : call ≡ Sync answer

-- a sector that was so is written over this cell: over its base, or over damage that the outside did to it
abbrev pub IsOver : Sector → Cell → Type 0
IsOver was cell = (cell ≡ was.base) ⊎ (cell ≡ Damaged)

-- In the phase a crash may leave this of a sector that was so: what it might have left before, damage by the outside, or,
-- of a sector that is to be written, the new bytes or what a cut write leaves.
pub data MayLeaveIn (what : Writes) (to : ℕ → Type 0) (j k : ℕ) (was : Sector) (cell : Cell)
    : Type 0 where
  AsBefore : MayLeave was cell → MayLeaveIn what to j k was cell
  ByOutside : cell ≡ Damaged → MayLeaveIn what to j k was cell
  New : (bytes : List ℕ) → to j → what j k ≡ Some bytes → cell ≡ Good bytes →
      MayLeaveIn what to j k was cell
  Cut : (bytes : List ℕ) (under : Cell) → to j → what j k ≡ Some bytes → IsOver was under →
      cell ≡ torn under
      → MayLeaveIn what to j k was cell

-- In the phase this may lie under the sector's unsynced writes: its base, damage by the outside, or, on a slot that is
-- synced, what a read found in it, or the new bytes.
pub data MayBeUnder (what : Writes) (to : ℕ → Type 0) (j k : ℕ) (was : Sector) (cell : Cell)
    : Type 0 where
  Before : IsOver was cell → MayBeUnder what to j k was cell
  Content : to j → cell ≡ content was → MayBeUnder what to j k was cell
  New : (bytes : List ℕ) → to j → what j k ≡ Some bytes → cell ≡ Good bytes →
      MayBeUnder what to j k was cell

-- Slot j did the whole phase, on the medium that it had at first: at a moment of the syncs, which began at `mid`, that one
-- hadn't been pulled, each sector that is written had read as its bytes, and but for damage each sector of it was settled,
-- with its bytes or as it read.
pub record DidPhase (what : Writes) (old mid new : List Happening) (j : ℕ) : Type 0 where
  pub moment : List Happening
  pub is_one : IsMoment mid moment new
  pub there : ¬ WasPulled old moment j
  pub landed : (k : ℕ) (bytes : List ℕ) → what j k ≡ Some bytes → Landed old moment j k bytes
  pub written : (k : ℕ) (bytes : List ℕ) → what j k ≡ Some bytes
      → ButForOutside old moment j k (λ s. s ≡ settled (Good bytes))
  pub rest : (k : ℕ) → IsSome (slot_state old j).size → what j k ≡ None
      → ButForOutside old moment j k (λ s. s ≡ synced ((slot_state old j).sector k))

-- The phase, in two stretches: first these writes alone, then syncs of these slots alone.
pub record Placed (what : Writes) (to gone : ℕ → Type 0) (old new : List Happening) : Type 0 where
  pub mid : List Happening
  pub writes : Ran (IsWriteOf what to) old mid
  pub syncs : Ran (IsSyncOf to) mid new
  pub known : (j : ℕ) → gone j ⊎ (¬ gone j)
  pub answered : (j : ℕ) → gone j → to j
  -- each slot that wasn't gone got its bytes in the phase
  pub landed : (j k : ℕ) (bytes : List ℕ) → to j → (¬ gone j) → what j k ≡ Some bytes
      → Landed old new j k bytes
  -- and did the whole phase before its medium was pulled, if it was pulled at all
  pub did : (j : ℕ) → to j → (¬ gone j) → DidPhase what old mid new j
  -- but for the outside: it has them on the disk
  pub done : (j k : ℕ) (bytes : List ℕ) → to j → (¬ gone j) → what j k ≡ Some bytes
      → ButForOutside old new j k (λ s. s ≡ settled (Good bytes))
  -- and each of its other sectors is settled as it read
  pub rest : (j k : ℕ) → IsSome (slot_state old j).size → to j → (¬ gone j) → what j k ≡ None
      → ButForOutside old new j k (λ s. s ≡ synced ((slot_state old j).sector k))
  -- on a slot that was gone a sector that isn't to be written is as it was, or settled as it read
  pub unwritten : (j k : ℕ) → IsSome (slot_state old j).size → gone j → what j k ≡ None
      → ButForOutside old new j k (λ s. (s ≡ (slot_state old j).sector k)
      ⊎ (s ≡ synced ((slot_state old j).sector k)))
  -- every other slot is as it was
  pub others : (j k : ℕ) → IsSome (slot_state old j).size → (¬ to j)
      → ButForOutside old new j k (λ s. s ≡ (slot_state old j).sector k)
  -- at every moment, but for the outside: what a crash may leave of each sector
  pub meanwhile : AtEveryMoment (λ h. (j k : ℕ) → IsSome (slot_state old j).size
      → ButForOutside old h j k (Leaves (MayLeaveIn what to j k ((slot_state old j).sector k))
      (MayBeUnder what to j k ((slot_state old j).sector k)))) old new
  -- a held slot was gone only where it is offline, or where a sector is past its end
  pub shut : (before : List Happening) (j : ℕ) → gone j → IsHeld before old j
      → ((slot_state old j).attached ≡ true → (k : ℕ) (bytes : List ℕ) → what j k ≡ Some bytes
      → IsTrue (has_sector (slot_state old j).size k))
      → IsOfflineUntilAttached before new j

-- The end of a phase some of whose slots were gone to their writes: the others of `to` were synced, and `all` are those
-- and the ones that were gone to the sync.
pub record EndsPhase (to gone all : Slots) (old new : List Happening) : Type 0 where
  pub rest : Slots
  pub rest_are : (j : ℕ) → HasSlot rest j ↔ (HasSlot to j × ¬ HasSlot gone j)
  pub last : Slots
  pub settled : Settled rest last old new
  pub all_are : (j : ℕ) → HasSlot all j ↔ (HasSlot gone j ⊎ HasSlot last j)
