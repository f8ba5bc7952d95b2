-- A part of a phase's writes.
use Rattle.std.specs.Prelude.{◌≡◌, ◌⊎◌, ℕ, true, IsTrue, List, Some}
use Rattle.stair_rack.specs.Sector.{Good, content}
use Rattle.stair_rack.specs.Media.{has_sector}
use Rattle.stair_rack.specs.History.{Happening, slot_state}
use Rattle.stair_rack.specs.Answers.{Ran}
use Rattle.stair_rack.specs.Offline.{IsHeld, IsOfflineUntilAttached, ButForOutside}
use Rattle.stair_rack.specs.Passes.{Landed}
use Rattle.stair_rack.specs.Placed.{Writes, IsWriteOf}

-- every sector of this slot
abbrev pub IsOnSlot : ℕ → ℕ → ℕ → Type 0
IsOnSlot slot j k = j ≡ slot

-- Of the writes of a phase those of `so_far`, by slot and sector, were made.
pub record Writing (what : Writes) (to gone : ℕ → Type 0) (so_far : ℕ → ℕ → Type 0)
    (old now : List Happening) : Type 0 where
  -- the calls are such writes alone
  pub ran : Ran (IsWriteOf what to) old now
  pub known : (j : ℕ) → gone j ⊎ (¬ gone j)
  pub answered : (j : ℕ) → gone j → to j
  -- each slot that wasn't gone got the bytes
  pub landed : (j k : ℕ) (bytes : List ℕ) → so_far j k → (¬ gone j) → what j k ≡ Some bytes
      → Landed old now j k bytes
  -- but for the outside: it has them
  pub done : (j k : ℕ) (bytes : List ℕ) → so_far j k → (¬ gone j) → what j k ≡ Some bytes
      → ButForOutside old now j k (λ s. content s ≡ Good bytes)
  -- a held slot was gone only where it is offline, or where a sector is past its end
  pub shut : (before : List Happening) (j : ℕ) → gone j → IsHeld before old j
      → ((slot_state old j).attached ≡ true → (k : ℕ) (bytes : List ℕ) → what j k ≡ Some bytes
      → IsTrue (has_sector (slot_state old j).size k))
      → IsOfflineUntilAttached before now j
