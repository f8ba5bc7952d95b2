-- What `create` knows of a device that it wrote.
use Rattle.std.specs.Prelude.{◌≡◌, ◌<◌, ◌≤◌, ℕ, true, IsTrue, List, ⊤}
use Rattle.stair_model.specs.Device.{first_place, gate_sector, second_place}
use Rattle.stair_model.specs.Geometry.{Geometry, sectors_needed}
use Rattle.stair_model.specs.Slots.{Slots, HasSlot}
use Rattle.stair_rack.specs.Count.{Rose}
use Rattle.stair_rack.specs.History.{Happening, Made, Stopped, Acted, Called, SlotCall, Attach, Sectors, Read, Write, Sync, slot_state}
use Rattle.stair_rack.specs.Moments.{IsMoment}
use Rattle.stair_rack.specs.Offline.{ButForOutside, IsOffline}
use Rattle.stair_rack.specs.Passes.{Landed}
use Rattle.stair_rack.specs.Sector.{Good, settled}
use Rattle.stair_rack.specs.Stretch.{EachHappening}
use Rattle.stair_array.specs.Created.{created_sector}
use Rattle.stair_array.specs.Look.{IsTaken}
use Rattle.stair_rack.specs.RackState.{RackState}
use Rattle.stair_array.specs.declared.fault.CreateFault.{CreateFault}
use Rattle.stair_array.specs.declared.fault.CreateFault.TheVariants.{Gone, SmallDevice, AlreadyArray}

-- a write to one of these sectors of one of these slots, of what a new array has there, or a sync of one
abbrev pub IsMaking : Geometry → (ℕ → Type 0) → (ℕ → Type 0) → ℕ → SlotCall → Type 0
IsMaking g slots part j (Attach answer) = ⊥
IsMaking g slots part j (Sectors size) = ⊥
IsMaking g slots part j (Read k answer) = ⊥
IsMaking g slots part j (Write k bytes answer) = slots j × part k × (bytes ≡ created_sector g j k)
IsMaking g slots part j (Sync answer) = slots j

-- the slots of the array
abbrev pub IsSlotOf : Geometry → ℕ → Type 0
IsSlotOf g j = j < g.n

-- the superblock places, the first one of them, and any other sector
abbrev pub IsPlace : ℕ → Type 0
IsPlace k = k < gate_sector

abbrev pub IsFirst : ℕ → Type 0
IsFirst k = k ≡ first_place

abbrev pub IsNoPlace : ℕ → Type 0
IsNoPlace k = gate_sector ≤ k

-- what the array needs after the superblock places
abbrev pub IsBehind : Geometry → ℕ → Type 0
IsBehind g k = IsNoPlace k × (k < sectors_needed g)

-- Of these sectors of slot j each got what a new array has there, and it is on the disk but for the outside.
pub record AreMade (g : Geometry) (part : ℕ → Type 0) (j : ℕ) (old new : List Happening)
    : Type 0 where
  pub landed : (k : ℕ) → part k → k < sectors_needed g
      → Landed old new j k (created_sector g j k)
  pub stands : (k : ℕ) → part k → k < sectors_needed g
      → ButForOutside old new j k (λ s. s ≡ settled (Good (created_sector g j k)))

-- slot j was gone; where it had been taken it is offline
pub record IsStoppedAt (g : Geometry) (j : ℕ) (old new : RackState) : Type 0 where
  pub gone : Rose (old.gones j) (new.gones j)
  pub offline : IsTrue new.honest → (before : List Happening) → IsTaken g j before old.history
      → IsOffline before new.history j

-- the writing stopped at a slot of the array that was gone
abbrev pub IsStoppedBy : Geometry → CreateFault → RackState → RackState → Type 0
IsStoppedBy g (Gone slot) old new = (slot < g.n) × IsStoppedAt g slot old new
IsStoppedBy g (SmallDevice slot has needs) old new = ⊥
IsStoppedBy g (AlreadyArray slot) old new = ⊥

-- of slots that were gone it is one that is answered
abbrev pub IsOneGone : Slots → CreateFault → Type 0
IsOneGone gone (Gone slot) = HasSlot gone slot
IsOneGone gone (SmallDevice slot has needs) = ⊥
IsOneGone gone (AlreadyArray slot) = ⊥

-- WHAT IT WRITES: the sectors that the array needs, each with what a new array has there

-- a call that writes nothing, or a write to a sector of the array, of what a new one has there
abbrev pub IsCreating : Geometry → ℕ → SlotCall → Type 0
IsCreating g j (Attach answer) = ⊤
IsCreating g j (Sectors size) = ⊤
IsCreating g j (Read k answer) = ⊤
IsCreating g j (Write k bytes answer) =
    (j < g.n) × (k < sectors_needed g) × (bytes ≡ created_sector g j k)
IsCreating g j (Sync answer) = ⊤

-- so what lies after those sectors is left alone

-- no write to a sector after those
abbrev pub IsWriteWithin : Geometry → SlotCall → Type 0
IsWriteWithin g (Attach answer) = ⊤
IsWriteWithin g (Sectors size) = ⊤
IsWriteWithin g (Read k answer) = ⊤
IsWriteWithin g (Write k bytes answer) = k < sectors_needed g
IsWriteWithin g (Sync answer) = ⊤

abbrev pub WritesWithin : Geometry → List Happening → Happening → Type 0
WritesWithin g h (Made image) = ⊤
WritesWithin g h Stopped = ⊤
WritesWithin g h (Acted j act) = ⊤
WritesWithin g h (Called j call) = IsWriteWithin g call

-- of no slot a sector after those was written from old to new
abbrev pub WrittenWithin : Geometry → List Happening → List Happening → Type 0
WrittenWithin g old new = EachHappening (WritesWithin g) old new

-- THE ORDER: superblocks come last

-- no write to a superblock place
abbrev pub IsNoPlaceWrite : SlotCall → Type 0
IsNoPlaceWrite (Attach answer) = ⊤
IsNoPlaceWrite (Sectors size) = ⊤
IsNoPlaceWrite (Read k answer) = ⊤
IsNoPlaceWrite (Write k bytes answer) = IsNoPlace k
IsNoPlaceWrite (Sync answer) = ⊤

abbrev pub WritesNoPlace : List Happening → Happening → Type 0
WritesNoPlace h (Made image) = ⊤
WritesNoPlace h Stopped = ⊤
WritesNoPlace h (Acted j act) = ⊤
WritesNoPlace h (Called j call) = IsNoPlaceWrite call

-- no superblock place was written from old to new
abbrev pub NoPlaceWritten : List Happening → List Happening → Type 0
NoPlaceWritten old new = EachHappening WritesNoPlace old new

-- Slot j is laid out: after its superblock places it has what a new array has there, on the disk, but for what the outside
-- did since a moment at which it was in use.
pub record IsLaidOut (g : Geometry) (j : ℕ) (old now : List Happening) : Type 0 where
  pub since : List Happening
  pub is_one : IsMoment old since now
  pub in_use : (slot_state since j).attached ≡ true
  pub stands : (k : ℕ) → IsNoPlace k → k < sectors_needed g
      → ButForOutside since now j k (λ s. s ≡ settled (Good (created_sector g j k)))

-- No superblock place was written, or none was before all slots of the array were laid out.
pub data SuperblocksCameLast (g : Geometry) (old new : List Happening) : Type 0 where
  NoneCame : NoPlaceWritten old new → SuperblocksCameLast g old new
  CameAfter : (mid : List Happening) → IsMoment old mid new → NoPlaceWritten old mid
      → ((j : ℕ) → j < g.n → IsLaidOut g j old mid) → SuperblocksCameLast g old new

-- no write to the second place of a slot unless its first one got its superblock before, and has it on the disk but for the
-- outside
abbrev pub IsInTurn : Geometry → List Happening → List Happening → ℕ → SlotCall → Type 0
IsInTurn g old h j (Attach answer) = ⊤
IsInTurn g old h j (Sectors size) = ⊤
IsInTurn g old h j (Read k answer) = ⊤
IsInTurn g old h j (Write k bytes answer) = k ≡ second_place → AreMade g IsFirst j old h
IsInTurn g old h j (Sync answer) = ⊤

abbrev pub WritesInTurn : Geometry → List Happening → List Happening → Happening → Type 0
WritesInTurn g old h (Made image) = ⊤
WritesInTurn g old h Stopped = ⊤
WritesInTurn g old h (Acted j act) = ⊤
WritesInTurn g old h (Called j call) = IsInTurn g old h j call

-- from old to new the superblock places of each slot were written in turn
abbrev pub PlacesInTurn : Geometry → List Happening → List Happening → Type 0
PlacesInTurn g old new = EachHappening (WritesInTurn g old) old new
