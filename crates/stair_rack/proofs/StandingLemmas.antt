-- What stands settled goes on so while it isn't written.
use Rattle.std.proofs.Common.{◌≡◌, ℕ, ◌≤◌, ◌<◌, List, [], ◌⊎◌, inl, inr, refl, ap, arith, Option, None, Some}
use Rattle.std.specs.Prelude.{⊤, IsTrue, IsSome}
use Rattle.std.proofs.lemmas.Bool.{false≢true, lt-ltb, ltb-true}
use Rattle.stair_rack.specs.Sector.{Cell, Damaged, Sector, settled, synced}
use Rattle.stair_rack.specs.Media.{Image, has_sector}
use Rattle.stair_rack.specs.History.{SlotCall, Write, Happening, slot_state}
use Rattle.stair_rack.specs.Answers.{Ran}
use Rattle.stair_rack.specs.Crash.{CrashMayLeave}
use Rattle.stair_rack.specs.Moments.{AtEveryMoment}
use Rattle.stair_rack.specs.Offline.{IsKept, Here, Lost, ButForOutside, WasPulled}
use Rattle.stair_rack.specs.Stretch.{IsNoWrite, NoneWritten}
use Rattle.stair_rack.specs.declared.rack.Reply.TheVariants as reply
use Rattle.stair_rack.proofs.StepLemmas.{kept, kept_throughout}
use Rattle.stair_rack.proofs.MomentLemmas.{at_last}
use Rattle.stair_rack.proofs.KeptLemmas.{SectorKeeps, keeps_sector, IsKept-mapped, IsKept-now}
use Rattle.stair_rack.proofs.CrashLemmas.{settled_cell}
use Rattle.stair_rack.proofs.StretchLemmas.{ran_sparing}

-- no call of the run writes the sector
abbrev pub Spares : (ℕ → SlotCall → Type 0) → ℕ → ℕ → Type 0
Spares allowed j k = (bytes : List ℕ) → ¬ allowed j (Write k bytes reply.Done)

-- these calls keep P of the sector, where a sync does
unwritten_keeps : {allowed : ℕ → SlotCall → Type 0} (j k : ℕ) (P : Sector → Type 0) → Spares allowed j k → ((s : Sector) → P s → P (synced s))
    → SectorKeeps allowed j k P
unwritten_keeps j k P spares sync = record { write = λ bytes s may before. absurd (spares bytes may); sync = λ s may before. sync s before }

-- SETTLED AS ONE CELL

pub standing_throughout : {allowed : ℕ → SlotCall → Type 0} {old new : List Happening} (pulls j k : ℕ) (cell : Cell) → Spares allowed j k → Ran allowed old new
    → IsKept pulls k (λ s. s ≡ settled cell) (slot_state old j) → AtEveryMoment (λ h. IsKept pulls k (λ s. s ≡ settled cell) (slot_state h j)) old new
standing_throughout {allowed} pulls j k cell spares ran start =
    kept_throughout {allowed = allowed} {P = λ h. IsKept pulls k (λ s. s ≡ settled cell) (slot_state h j)}
    (keeps_sector {allowed = allowed} {j = j} {k = k} {P = λ s. s ≡ settled cell} pulls
    (unwritten_keeps {allowed = allowed} j k (λ s. s ≡ settled cell) spares (λ s is. ap synced is))) ran start

pub standing_on : {allowed : ℕ → SlotCall → Type 0} {old new : List Happening} (pulls j k : ℕ) (cell : Cell) → Spares allowed j k → Ran allowed old new
    → IsKept pulls k (λ s. s ≡ settled cell) (slot_state old j) → IsKept pulls k (λ s. s ≡ settled cell) (slot_state new j)
standing_on {allowed} pulls j k cell spares ran start =
    at_last {P = λ h. IsKept pulls k (λ s. s ≡ settled cell) (slot_state h j)} (standing_throughout {allowed = allowed} pulls j k cell spares ran start)

-- the same, told of the stretch
pub standing_while : {allowed : ℕ → SlotCall → Type 0} {slots : ℕ → Type 0} {old new : List Happening} (pulls j k : ℕ) (cell : Cell) → slots j
    → NoneWritten slots old new → Ran allowed old new → IsKept pulls k (λ s. s ≡ settled cell) (slot_state old j)
    → AtEveryMoment (λ h. IsKept pulls k (λ s. s ≡ settled cell) (slot_state h j)) old new
standing_while {allowed} {slots} pulls j k cell is_one none ran start =
    standing_throughout {allowed = λ i c. slots i → IsNoWrite c} pulls j k cell (λ bytes may. may is_one)
    (ran_sparing {allowed = allowed} {slots = slots} ran none) start

-- WITH NOTHING UNSYNCED

pub settled_throughout : {allowed : ℕ → SlotCall → Type 0} {old new : List Happening} (pulls j k : ℕ) → Spares allowed j k → Ran allowed old new
    → IsKept pulls k (λ s. s.since ≡ []) (slot_state old j) → AtEveryMoment (λ h. IsKept pulls k (λ s. s.since ≡ []) (slot_state h j)) old new
settled_throughout {allowed} pulls j k spares ran start =
    kept_throughout {allowed = allowed} {P = λ h. IsKept pulls k (λ s. s.since ≡ []) (slot_state h j)}
    (keeps_sector {allowed = allowed} {j = j} {k = k} {P = λ s. s.since ≡ []} pulls
    (unwritten_keeps {allowed = allowed} j k (λ s. s.since ≡ []) spares (λ s is. refl))) ran start

pub settled_on : {allowed : ℕ → SlotCall → Type 0} {old new : List Happening} (pulls j k : ℕ) → Spares allowed j k → Ran allowed old new
    → IsKept pulls k (λ s. s.since ≡ []) (slot_state old j) → IsKept pulls k (λ s. s.since ≡ []) (slot_state new j)
settled_on {allowed} pulls j k spares ran start =
    at_last {P = λ h. IsKept pulls k (λ s. s.since ≡ []) (slot_state h j)} (settled_throughout {allowed = allowed} pulls j k spares ran start)

-- a slot that holds a medium goes on to hold it, or it was pulled since
pub medium_on : {allowed : ℕ → SlotCall → Type 0} {old new : List Happening} (j k : ℕ) → Ran allowed old new → IsSome (slot_state old j).size
    → ButForOutside old new j k (λ s. ⊤)
medium_on {allowed} {old} j k ran some =
    let pulls = (slot_state old j).pulls in
    let start : ButForOutside old old j k (λ s. ⊤) = IsKept-mapped {P = λ s. s ≡ (slot_state old j).sector k} (λ s is. tt) (IsKept-now old j k some) in
    kept {allowed = allowed} {P = λ h. IsKept pulls k (λ s. ⊤) (slot_state h j)}
    (keeps_sector {allowed = allowed} {j = j} {k = k} {P = λ s. ⊤} pulls (record { write = λ bytes s may before. tt; sync = λ s may before. tt })) ran start

-- a medium that has a sector has each lower one
pub has_lower : (size : Option ℕ) (k l : ℕ) → k ≤ l → IsTrue (has_sector size l) → IsTrue (has_sector size k)
has_lower None k l least has = absurd (false≢true has)
has_lower (Some n) k l least has = let within : l < n = ltb-true l n has in lt-ltb k n (omega arith)

-- IN WHAT A CRASH LEAVES

-- settled so, or pulled, or damaged
pub settled_or : (old h : List Happening) (image : Image) → CrashMayLeave h image → (j k : ℕ) (cell : Cell)
    → ButForOutside old h j k (λ s. s ≡ settled cell) → WasPulled old h j ⊎ (((image j).cell k ≡ Damaged) ⊎ ((image j).cell k ≡ cell))
settled_or old h image left j k cell (Here same some (inl is)) = inr (inl (settled_cell h image j k Damaged left is))
settled_or old h image left j k cell (Here same some (inr is)) = inr (inr (settled_cell h image j k cell left is))
settled_or old h image left j k cell (Lost less) = inl less
