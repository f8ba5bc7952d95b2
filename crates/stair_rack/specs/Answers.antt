-- What an honest rack answers, and what its history tells of it.
use Rattle.std.specs.Prelude.{◌≡◌, ◌⊎◌, ℕ, Bool, true, false, not, ◌&&◌, IsTrue, List, [], ◌∷◌, ◌++◌, if◌then◌else◌, is_some, ⊤}
use Rattle.stair_rack.specs.Sector.{Cell, Good, content}
use Rattle.stair_rack.specs.Media.{Image, has_sector}
use Rattle.stair_rack.specs.History.{SlotCall, Attach, Sectors, Read, Write, Sync, SlotState, Happening, Made, Stopped, Acted, Called, after_call, slot_state, stopped}
use Rattle.stair_rack.specs.Outside.{IsAct}
use Rattle.stair_rack.specs.declared.rack.Reply.{Reply}
use Rattle.stair_rack.specs.declared.rack.Reply.TheVariants as reply
use Rattle.stair_rack.specs.declared.rack.Got.{Got}
use Rattle.stair_rack.specs.declared.rack.Got.TheVariants as got

abbrev pub reply_if : Bool → Reply
reply_if true = reply.Done
reply_if false = reply.Gone

-- the slot is attached, and the rack isn't stopped
abbrev pub is_ready : List Happening → ℕ → Bool
is_ready h j = (slot_state h j).attached && not (stopped h)

abbrev pub is_good : Cell → Bool
is_good (Good bytes) = true
is_good cell = false

-- the medium has the sector, and its bytes can be read
abbrev pub is_readable : SlotState → ℕ → Bool
is_readable b k = has_sector b.size k && is_good (content (b.sector k))

-- An attach finds the medium that is in the slot.
abbrev pub attach_answer : List Happening → ℕ → Reply
attach_answer h j = reply_if (is_some (slot_state h j).size && not (stopped h))

-- A sector past the end reads as bad.
abbrev pub read_answer : List Happening → ℕ → ℕ → Got
read_answer h j k = if is_ready h j then (if is_readable (slot_state h j) k
    then got.Good else got.Bad) else got.Gone

-- A write past the end is answered as gone.
abbrev pub write_answer : List Happening → ℕ → ℕ → Reply
write_answer h j k = reply_if (is_ready h j && has_sector (slot_state h j).size k)

abbrev pub sync_answer : List Happening → ℕ → Reply
sync_answer h j = reply_if (is_ready h j)

-- An honest rack may give this call its answer next, and no other one.
abbrev pub IsAnswered : List Happening → ℕ → SlotCall → Type 0
IsAnswered h j (Attach answer) = answer ≡ attach_answer h j
IsAnswered h j (Sectors size) = size ≡ (slot_state h j).found
IsAnswered h j (Read k answer) = answer ≡ read_answer h j k
IsAnswered h j (Write k bytes answer) = answer ≡ write_answer h j k
IsAnswered h j (Sync answer) = answer ≡ sync_answer h j

-- The call was answered Gone, and not because a write lay past the end. Of a slot that isn't ready, as one whose medium
-- was pulled, a write is gone in range whatever its sector.
abbrev pub IsGoneInRange : List Happening → ℕ → SlotCall → Type 0
IsGoneInRange h j (Attach answer) = answer ≡ reply.Gone
IsGoneInRange h j (Sectors size) = ⊥
IsGoneInRange h j (Read k answer) = answer ≡ got.Gone
IsGoneInRange h j (Write k bytes answer) = (answer ≡ reply.Gone)
    × ((is_ready h j ≡ false) ⊎ IsTrue (has_sector (slot_state h j).size k))
IsGoneInRange h j (Sync answer) = answer ≡ reply.Gone

-- The call leaves its slot as it stands. An attach that finds none does so where the slot isn't attached and the last
-- attach found none either.
abbrev pub ChangesNothing : List Happening → ℕ → SlotCall → Type 0
ChangesNothing h j call = after_call call (slot_state h j) ≡ slot_state h j

-- an honest rack's next call, of those that are allowed
abbrev pub IsCall : (ℕ → SlotCall → Type 0) → List Happening → Happening → Type 0
IsCall allowed h (Made image) = ⊥
IsCall allowed h Stopped = ⊥
IsCall allowed h (Acted j act) = ⊥
IsCall allowed h (Called j call) = allowed j call × IsAnswered h j call

-- after h came these happenings, of which the newest comes first: acts of the outside, and of the calls the allowed
-- ones alone
abbrev pub Runs : (ℕ → SlotCall → Type 0) → List Happening → List Happening → Type 0
Runs allowed [] h = ⊤
Runs allowed (e ∷ more) h = Runs allowed more h
    × (IsAct (more ++ h) e ⊎ IsCall allowed (more ++ h) e)

abbrev pub no_call : ℕ → SlotCall → Type 0
no_call j call = ⊥

abbrev pub any_call : ℕ → SlotCall → Type 0
any_call j call = ⊤

-- calls that attach no slot
abbrev pub IsBesideAttach : SlotCall → Type 0
IsBesideAttach (Attach answer) = ⊥
IsBesideAttach (Sectors size) = ⊤
IsBesideAttach (Read k answer) = ⊤
IsBesideAttach (Write k bytes answer) = ⊤
IsBesideAttach (Sync answer) = ⊤

-- calls that don't attach slot j
abbrev pub IsNoAttach : ℕ → ℕ → SlotCall → Type 0
IsNoAttach j i call = i ≡ j → IsBesideAttach call

-- the history went on from old to new by acts of the outside, and of the calls by the allowed ones alone
pub record Ran (allowed : ℕ → SlotCall → Type 0) (old new : List Happening) : Type 0 where
  pub more : List Happening
  pub is : new ≡ more ++ old
  pub runs : Runs allowed more old

-- the history of a rack that is honest: it was made over an image, and acts and calls came after
pub record IsHistory (h : List Happening) : Type 0 where
  pub image : Image
  pub ran : Ran any_call (Made image ∷ []) h

-- One call, at whose beginning the outside may have acted, and its answer is the honest one. A rack that is stopped may
-- leave a call out of its history that changes nothing.
pub data Calls (old new : List Happening) (j : ℕ) (call : SlotCall) : Type 0 where
  Told : (acts : List Happening) → Runs no_call acts old → IsAnswered (acts ++ old) j call
      → new ≡ Called j call ∷ (acts ++ old) → Calls old new j call
  Untold : (acts : List Happening) → Runs no_call acts old → IsAnswered (acts ++ old) j call
      → IsTrue (stopped (acts ++ old)) → ChangesNothing (acts ++ old) j call
      → new ≡ acts ++ old → Calls old new j call
