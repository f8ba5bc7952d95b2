-- A pass of one call over the slots of a set: a write of one sector, or a sync.
use Rattle.std.specs.Prelude.{◌≡◌, ◌⊎◌, ℕ, zero, suc, not, true, IsTrue, List, [], ◌∷◌, ◌++◌, if◌then◌else◌, IsSome}
use Rattle.stair_model.specs.Slots.{Slots, has_slot, HasSlot}
use Rattle.stair_rack.specs.Sector.{Sector, Good, damaged, content, wrote, synced}
use Rattle.stair_rack.specs.Media.{has_sector}
use Rattle.stair_rack.specs.History.{Happening, SlotCall, Write, Sync, SlotState, slot_state}
use Rattle.stair_rack.specs.Answers.{Calls, Ran, reply_if}
use Rattle.stair_rack.specs.Moments.{AtSomeMoment, AtEveryMoment}
use Rattle.stair_rack.specs.Offline.{IsHeld, IsOfflineUntilAttached, ButForOutside}
use Rattle.stair_rack.specs.Stretch.{WasAnswered}
use Rattle.stair_rack.specs.declared.rack.Reply.{Reply}
use Rattle.stair_rack.specs.declared.rack.Reply.TheVariants as reply
use Rattle.stair_rack.specs.declared.pass.Pass.{Pass}
use Rattle.stair_rack.specs.declared.pass.Pass.TheVariants as pass

-- the call of a pass, with its answer
abbrev pub call_of : Pass → Reply → SlotCall
call_of (pass.Write k bytes) answer = Write k bytes answer
call_of pass.Sync answer = Sync answer

-- the call with some answer, on a slot of the set
abbrev pub IsOn : Slots → (Reply → SlotCall) → ℕ → SlotCall → Type 0
IsOn to call j event = HasSlot to j × ((answer : Reply) × (event ≡ call answer))

-- the slots of the set that are below n, in rising order
unfoldable pub slots_below : Slots → ℕ → List ℕ
slots_below set zero = []
slots_below set (suc n) = if has_slot set n then slots_below set n ++ n ∷ [] else slots_below set n

-- From old to new came one call on each of these slots, in this order, whatever the earlier ones answered. Those in `gone`
-- were answered Gone, and the others Done.
abbrev pub InTurn : (Reply → SlotCall) → Slots → List ℕ → List Happening → List Happening → Type 0
InTurn call gone [] old new = new ≡ old
InTurn call gone (j ∷ slots) old new =
    (next : List Happening) × Calls old next j (call (reply_if (not (has_slot gone j))))
    × InTurn call gone slots next new

-- from old to new came one call on each slot of `to` that is below n, in rising order
pub record Turns (call : Reply → SlotCall) (to gone : Slots) (n : ℕ) (old new : List Happening)
    : Type 0 where
  pub in_turn : InTurn call gone (slots_below to n) old new

-- the slot was called, and wasn't gone
abbrev pub IsDone : Slots → Slots → ℕ → Type 0
IsDone to gone j = HasSlot to j × ¬ HasSlot gone j

-- at some moment from old to new the sector read as these bytes
abbrev pub Landed : List Happening → List Happening → ℕ → ℕ → List ℕ → Type 0
Landed old new j k bytes =
    AtSomeMoment (λ h. content ((slot_state h j).sector k) ≡ Good bytes) old new

-- at some moment from old to new nothing on the slot's device was unsynced
abbrev pub WasSynced : List Happening → List Happening → ℕ → Type 0
WasSynced old new j = AtSomeMoment (λ h. (k : ℕ) → ((slot_state h j).sector k).since ≡ []) old new

-- the sector has these bytes over what it was, or over damage that the outside did to it before the write
pub data IsWrittenOver (bytes : List ℕ) (was s : Sector) : Type 0 where
  OverOld : s ≡ wrote bytes was → IsWrittenOver bytes was s
  OverDamage : s ≡ wrote bytes damaged → IsWrittenOver bytes was s

-- the sector has these bytes, over what it was where the slot held a medium then
pub record IsWritten (bytes : List ℕ) (was : SlotState) (k : ℕ) (s : Sector) : Type 0 where
  pub bytes_are : content s ≡ Good bytes
  pub over : IsSome was.size → IsWrittenOver bytes (was.sector k) s

-- Sector k was written on the slots of `to`, but for those that were gone.
pub record Wrote (to gone : Slots) (k : ℕ) (bytes : List ℕ) (old new : List Happening)
    : Type 0 where
  -- the calls are these writes alone
  pub ran : Ran (IsOn to (Write k bytes)) old new
  -- one on each slot of `to`, in rising order
  pub turns : Turns (Write k bytes) to gone 32 old new
  pub answered : (j : ℕ) → HasSlot gone j → HasSlot to j
  -- each slot that isn't answered got the bytes in the pass
  pub landed : (j : ℕ) → IsDone to gone j → Landed old new j k bytes
  -- but for the outside: it has them
  pub written : (j : ℕ) → IsDone to gone j → ButForOutside old new j k
      (IsWritten bytes (slot_state old j) k)
  -- and every other sector is as it was
  pub others : (j l : ℕ) → IsSome (slot_state old j).size → (¬ (IsDone to gone j × (l ≡ k)))
      → ButForOutside old new j l (λ s. s ≡ (slot_state old j).sector l)
  -- at every moment each sector is as it was, or it is one of those that are written and has the bytes over what it was
  pub meanwhile : AtEveryMoment (λ h. (j l : ℕ) → IsSome (slot_state old j).size
      → ButForOutside old h j l (λ s. (s ≡ (slot_state old j).sector l)
      ⊎ (IsDone to gone j × (l ≡ k) × IsWrittenOver bytes ((slot_state old j).sector l) s))) old new
  -- a held slot was gone only where it is offline, or where the sector is past its end
  pub shut : (before : List Happening) (j : ℕ) → HasSlot gone j → IsHeld before old j
      → ((slot_state old j).attached ≡ true → IsTrue (has_sector (slot_state old j).size k)) →
      IsOfflineUntilAttached before new j

-- The devices of the slots of `to` were settled, but for those that were gone.
pub record Settled (to gone : Slots) (old new : List Happening) : Type 0 where
  -- the calls are these syncs alone
  pub ran : Ran (IsOn to Sync) old new
  -- one on each slot of `to`, in rising order
  pub turns : Turns Sync to gone 32 old new
  pub answered : (j : ℕ) → HasSlot gone j → HasSlot to j
  -- each slot that isn't answered had nothing unsynced in the pass, since its sync was answered so
  pub landed : (j : ℕ) → IsDone to gone j → WasSynced old new j
  pub was_synced : (j : ℕ) → IsDone to gone j → WasAnswered j (Sync reply.Done) old new
  -- but for the outside: it has nothing unsynced, and reads as it did
  pub settled : (j k : ℕ) → IsDone to gone j → IsSome (slot_state old j).size
      → ButForOutside old new j k (λ s. s ≡ synced ((slot_state old j).sector k))
  -- and every other slot is as it was
  pub others : (j k : ℕ) → IsSome (slot_state old j).size → (¬ IsDone to gone j)
      → ButForOutside old new j k (λ s. s ≡ (slot_state old j).sector k)
  -- at every moment each sector is as it was, or it is on one of the slots that are synced and is settled as it read
  pub meanwhile : AtEveryMoment (λ h. (j k : ℕ) → IsSome (slot_state old j).size
      → ButForOutside old h j k (λ s. (s ≡ (slot_state old j).sector k)
      ⊎ (IsDone to gone j × (s ≡ synced ((slot_state old j).sector k))))) old new
  -- a held slot was gone only where it is offline
  pub shut : (before : List Happening) (j : ℕ) → HasSlot gone j → IsHeld before old j →
      IsOfflineUntilAttached before new j
