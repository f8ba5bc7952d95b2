-- Phases of one slot each, one after the other.
use Rattle.std.specs.Prelude.{◌≡◌, ℕ, true, IsTrue, List, Option, Some, None, IsSome}
use Rattle.stair_rack.specs.Sector.{Good, settled, synced, Leaves}
use Rattle.stair_rack.specs.Media.{has_sector}
use Rattle.stair_rack.specs.History.{Happening, SlotCall, slot_state}
use Rattle.stair_rack.specs.Answers.{Ran}
use Rattle.stair_rack.specs.Moments.{AtEveryMoment}
use Rattle.stair_rack.specs.Offline.{IsHeld, IsOfflineUntilAttached, ButForOutside}
use Rattle.stair_rack.specs.Passes.{Landed}
use Rattle.stair_rack.specs.Placed.{Writes, IsWriteOf, IsSyncOf, MayLeaveIn, MayBeUnder}

-- one of these writes, or a sync, on one of these slots
pub data IsPlacing (what : Writes) (on : ℕ → Type 0) (j : ℕ) (call : SlotCall) : Type 0 where
  AWrite : IsWriteOf what on j call → IsPlacing what on j call
  ASync : IsSyncOf on j call → IsPlacing what on j call

-- a slot that was placed, or the one at which the phases stopped
pub data IsTouched (placed : ℕ → Type 0) (gone : Option ℕ) (j : ℕ) : Type 0 where
  IsPlaced : placed j → IsTouched placed gone j
  IsLast : gone ≡ Some j → IsTouched placed gone j

-- Each slot of `placed` had its phase, whose writes were synced before the next slot's phase began. Where a slot `gone` is
-- told, the phases stopped at it, since it was gone.
pub record PlacedInTurn (what : Writes) (placed : ℕ → Type 0) (gone : Option ℕ)
    (old new : List Happening) : Type 0 where
  -- the calls are these writes and syncs alone
  pub ran : Ran (IsPlacing what (IsTouched placed gone)) old new
  pub apart : (j : ℕ) → gone ≡ Some j → ¬ placed j
  -- each slot of `placed` got its bytes
  pub landed : (j k : ℕ) (bytes : List ℕ) → placed j → what j k ≡ Some bytes
      → Landed old new j k bytes
  -- but for the outside: it has them on the disk
  pub done : (j k : ℕ) (bytes : List ℕ) → placed j → what j k ≡ Some bytes
      → ButForOutside old new j k (λ s. s ≡ settled (Good bytes))
  -- and each of its other sectors is settled as it read
  pub rest : (j k : ℕ) → IsSome (slot_state old j).size → placed j → what j k ≡ None
      → ButForOutside old new j k (λ s. s ≡ synced ((slot_state old j).sector k))
  -- each slot that had no phase is as it was
  pub others : (j k : ℕ) → IsSome (slot_state old j).size → (¬ IsTouched placed gone j)
      → ButForOutside old new j k (λ s. s ≡ (slot_state old j).sector k)
  -- at every moment, but for the outside: what a crash may leave of each sector
  pub meanwhile : AtEveryMoment (λ h. (j k : ℕ) → IsSome (slot_state old j).size
      → ButForOutside old h j k
      (Leaves (MayLeaveIn what (IsTouched placed gone) j k ((slot_state old j).sector k))
      (MayBeUnder what (IsTouched placed gone) j k ((slot_state old j).sector k)))) old new
  -- a held slot was gone only where it is offline, or where a sector is past its end
  pub shut : (before : List Happening) (j : ℕ) → gone ≡ Some j → IsHeld before old j
      → ((slot_state old j).attached ≡ true → (k : ℕ) (bytes : List ℕ) → what j k ≡ Some bytes
      → IsTrue (has_sector (slot_state old j).size k))
      → IsOfflineUntilAttached before new j
