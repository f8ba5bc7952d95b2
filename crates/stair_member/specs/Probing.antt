-- What a read of the two superblock places of a slot finds.
use Rattle.std.specs.Prelude.{◌≡◌, ◌⊎◌, ℕ, false, IsTrue, Option, None, Some}
use Rattle.stair_model.specs.Device.{first_place, second_place}
use Rattle.stair_rack.specs.Answers.{Calls, IsHistory, is_ready}
use Rattle.stair_rack.specs.Count.{Rose}
use Rattle.stair_rack.specs.History.{Read}
use Rattle.stair_rack.specs.Sector.{Cell}
use Rattle.stair_rack.specs.RackState.{IsLater, RackState}
use Rattle.stair_rack.specs.declared.rack.Got.{Got}
use Rattle.stair_rack.specs.declared.rack.Got.TheVariants as got
use Rattle.stair_super.specs.Superblock.{Superblock}
use Rattle.stair_member.specs.Asked.{IsWhatWasRead}
use Rattle.stair_member.specs.Findings.{IsPlaceFound}
use Rattle.stair_member.specs.Superblocks.{HoldsThis}
use Rattle.stair_member.specs.declared.probe.PlaceProbe.{PlaceProbe}
use Rattle.stair_member.specs.declared.probe.PlaceProbe.TheVariants as probe
use Rattle.stair_member.specs.declared.probe.SlotProbe.{SlotProbe}

-- ONE PLACE

abbrev pub block_in : PlaceProbe → Option Superblock
block_in (probe.Block s) = Some s
block_in probe.Nothing = None
block_in probe.Gone = None

-- the slot was gone to a read, and isn't in use
pub record WasGoneToRead (j : ℕ) (old new : RackState) : Type 0 where
  pub gone : Rose (old.gones j) (new.gones j)
  pub unready : IsTrue new.honest → is_ready new.history j ≡ false

-- Place k of slot j was read, once, and found to hold this.
pub record ProbesPlace (j k : ℕ) (place : PlaceProbe) (old new : RackState) : Type 0 where
  pub later : IsLater old new
  pub began : IsTrue new.honest → IsHistory old.history
  pub cell : Cell
  pub answer : Got
  pub called : IsTrue new.honest → Calls old.history new.history j (Read k answer)
  pub finds : IsTrue new.honest → IsWhatWasRead (place ≡ probe.Gone) answer new.history j k cell
  pub unread : place ≡ probe.Gone → answer ≡ got.Gone
  pub found : IsPlaceFound (place ≡ probe.Gone) j k old new cell
  pub holds : HoldsThis cell (block_in place)
  pub gone : place ≡ probe.Gone → WasGoneToRead j old new

-- BOTH PLACES

-- the slot was gone to one of the two reads
abbrev pub WasGone : SlotProbe → Type 0
WasGone slot = (slot.first ≡ probe.Gone) ⊎ (slot.second ≡ probe.Gone)

-- both were read, and neither holds a superblock
abbrev pub HoldsNone : SlotProbe → Type 0
HoldsNone slot = (slot.first ≡ probe.Nothing) × (slot.second ≡ probe.Nothing)

-- The superblock places of slot j were read, the second one after the first.
pub record ProbesSlot (j : ℕ) (slot : SlotProbe) (old new : RackState) : Type 0 where
  pub between : RackState
  pub first : ProbesPlace j first_place slot.first old between
  pub second : ProbesPlace j second_place slot.second between new
