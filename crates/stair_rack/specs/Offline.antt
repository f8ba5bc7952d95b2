-- Which slots are in use or offline, and what is known of their sectors but for what the outside does.
use Rattle.std.specs.Prelude.{◌≡◌, ◌⊎◌, ℕ, ◌<◌, ◌≤◌, true, false, IsTrue, List, None, IsSome}
use Rattle.stair_rack.specs.Sector.{Sector, damaged}
use Rattle.stair_rack.specs.History.{Happening, SlotState, slot_state, stopped}

-- the slot is attached: the last attach found the medium that it holds
abbrev pub IsAttached : List Happening → ℕ → Type 0
IsAttached h j = (slot_state h j).attached ≡ true

-- a medium of the slot was pulled between the two moments
abbrev pub WasPulled : List Happening → List Happening → ℕ → Type 0
WasPulled before h j = (slot_state before j).pulls < (slot_state h j).pulls

-- Offline, where the session began at `before`: the slot holds no medium, its medium was pulled since and no attach has
-- found one after that, or the rack is stopped.
pub data IsOffline (before h : List Happening) (j : ℕ) : Type 0 where
  NoMedium : (slot_state h j).size ≡ None → IsOffline before h j
  Unattached : (slot_state h j).attached ≡ false → WasPulled before h j → IsOffline before h j
  RackStopped : IsTrue (stopped h) → IsOffline before h j

-- the part of it that lasts until an attach finds a medium
pub data IsOfflineUntilAttached (before h : List Happening) (j : ℕ) : Type 0 where
  Unattached : (slot_state h j).attached ≡ false → WasPulled before h j →
      IsOfflineUntilAttached before h j
  RackStopped : IsTrue (stopped h) → IsOfflineUntilAttached before h j

-- Held in the session that began at `before`: the slot is attached to its medium, or its medium was pulled since and no
-- attach has found one after that, or the rack is stopped. A slot that an attach found in the session is held.
pub data IsHeld (before h : List Happening) (j : ℕ) : Type 0 where
  InUse : (slot_state h j).attached ≡ true → IsSome (slot_state h j).size
      → (slot_state before j).pulls ≤ (slot_state h j).pulls → IsHeld before h j
  Unattached : (slot_state h j).attached ≡ false → WasPulled before h j → IsHeld before h j
  RackStopped : IsTrue (stopped h) → IsHeld before h j

-- The slot has the medium that it had after so many pulls, and of this sector of it P holds, or it is damaged; or the
-- medium was pulled since.
pub data IsKept (pulls k : ℕ) (P : Sector → Type 0) (b : SlotState) : Type 0 where
  Here : b.pulls ≡ pulls → IsSome b.size → (b.sector k ≡ damaged) ⊎ P (b.sector k) →
      IsKept pulls k P b
  Lost : pulls < b.pulls → IsKept pulls k P b

-- P holds of the sector at h, but for what the outside did since old: it may have pulled the slot's medium or damaged the
-- sector
abbrev pub ButForOutside : List Happening → List Happening → ℕ → ℕ → (Sector → Type 0) → Type 0
ButForOutside old h j k P = IsKept (slot_state old j).pulls k P (slot_state h j)
