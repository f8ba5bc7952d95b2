-- What happened in a stretch of a history, from one moment to another.
use Rattle.std.specs.Prelude.{◌≡◌, ℕ, List, [], ◌∷◌, ◌++◌, ⊤}
use Rattle.stair_rack.specs.Sector.{damaged}
use Rattle.stair_rack.specs.History.{Happening, Made, Stopped, Acted, Called, Pulled, InsertedBlank, InsertedOld, SectorDamaged, SlotCall, Attach, Sectors, Read, Write, Sync, slot_state}

-- after h came these happenings, of which the newest comes first, and each is so, given the history before it
abbrev pub EachOf : (List Happening → Happening → Type 0) → List Happening → List Happening → Type 0
EachOf P [] h = ⊤
EachOf P (e ∷ more) h = EachOf P more h × P (more ++ h) e

-- each happening from old to new is so, given the history before it
pub record EachHappening (P : List Happening → Happening → Type 0) (old new : List Happening)
    : Type 0 where
  pub more : List Happening
  pub is : new ≡ more ++ old
  pub each : EachOf P more old

-- WRITES

-- no write, whatever the answer would be
abbrev pub IsNoWrite : SlotCall → Type 0
IsNoWrite (Attach answer) = ⊤
IsNoWrite (Sectors size) = ⊤
IsNoWrite (Read k answer) = ⊤
IsNoWrite (Write k bytes answer) = ⊥
IsNoWrite (Sync answer) = ⊤

-- no write to one of these slots
abbrev pub IsNoWriteTo : (ℕ → Type 0) → List Happening → Happening → Type 0
IsNoWriteTo slots h (Made image) = ⊤
IsNoWriteTo slots h Stopped = ⊤
IsNoWriteTo slots h (Acted j act) = ⊤
IsNoWriteTo slots h (Called j call) = slots j → IsNoWrite call

-- none of these slots was written from old to new
abbrev pub NoneWritten : (ℕ → Type 0) → List Happening → List Happening → Type 0
NoneWritten slots old new = EachHappening (IsNoWriteTo slots) old new

abbrev pub every_slot : ℕ → Type 0
every_slot j = ⊤

-- no device was written from old to new
abbrev pub NothingWritten : List Happening → List Happening → Type 0
NothingWritten old new = NoneWritten every_slot old new

-- ACTS OF THE OUTSIDE

-- no act that damages a sector which wasn't damaged already
abbrev pub DamagesNothing : List Happening → Happening → Type 0
DamagesNothing h (Made image) = ⊤
DamagesNothing h Stopped = ⊤
DamagesNothing h (Acted j (Pulled m)) = ⊤
DamagesNothing h (Acted j (InsertedBlank size)) = ⊤
DamagesNothing h (Acted j (InsertedOld i)) = ⊤
DamagesNothing h (Acted j (SectorDamaged k)) = (slot_state h j).sector k ≡ damaged
DamagesNothing h (Called j call) = ⊤

-- no sector became damaged from old to new
abbrev pub NothingDamaged : List Happening → List Happening → Type 0
NothingDamaged old new = EachHappening DamagesNothing old new

-- no act that puts back a medium which was pulled
abbrev pub ReturnsNothing : List Happening → Happening → Type 0
ReturnsNothing h (Made image) = ⊤
ReturnsNothing h Stopped = ⊤
ReturnsNothing h (Acted j (Pulled m)) = ⊤
ReturnsNothing h (Acted j (InsertedBlank size)) = ⊤
ReturnsNothing h (Acted j (InsertedOld i)) = ⊥
ReturnsNothing h (Acted j (SectorDamaged k)) = ⊤
ReturnsNothing h (Called j call) = ⊤

-- no removed medium came back from old to new
abbrev pub NothingReturned : List Happening → List Happening → Type 0
NothingReturned old new = EachHappening ReturnsNothing old new

-- CALLS

-- a call on slot j was answered so, between old and new
pub record WasAnswered (j : ℕ) (call : SlotCall) (old new : List Happening) : Type 0 where
  pub earlier : List Happening
  pub later : List Happening
  pub is : new ≡ later ++ (Called j call ∷ (earlier ++ old))
