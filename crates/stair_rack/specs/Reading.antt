-- Reads, what one found at a moment, and steps in turn.
use Rattle.std.specs.Prelude.{◌≡◌, ℕ, zero, suc, true, List}
use Rattle.stair_rack.specs.Sector.{Cell, content}
use Rattle.stair_rack.specs.History.{Happening, SlotCall, Attach, Sectors, Read, Write, Sync, slot_state}
use Rattle.stair_rack.specs.Answers.{is_ready}
use Rattle.stair_rack.specs.Moments.{IsMoment}

-- at some moment from old to new slot j was ready, and of what a read found in its sector k then Q holds
pub record WasRead (Q : Cell → Type 0) (old new : List Happening) (j k : ℕ) : Type 0 where
  pub moment : List Happening
  pub is_one : IsMoment old moment new
  pub ready : is_ready moment j ≡ true
  pub found : Q (content ((slot_state moment j).sector k))

-- a read of one of these sectors of one of these slots
abbrev pub IsReadOf : (ℕ → Type 0) → (ℕ → Type 0) → ℕ → SlotCall → Type 0
IsReadOf slots sectors j (Attach answer) = ⊥
IsReadOf slots sectors j (Sectors size) = ⊥
IsReadOf slots sectors j (Read k answer) = slots j × sectors k
IsReadOf slots sectors j (Write k bytes answer) = ⊥
IsReadOf slots sectors j (Sync answer) = ⊥

-- one step for each number below this one, in rising order: from `old` to `new` by states between them
abbrev pub EachBelow : {S : Type 0} → (ℕ → S → S → Type 0) → ℕ → S → S → Type 0
EachBelow step zero old new = new ≡ old
EachBelow {S} step (suc n) old new = (mid : S) × EachBelow step n old mid × step n mid new
