-- The calls of a survey.
use Rattle.std.specs.Prelude.{◌≡◌, ◌⊎◌, ℕ, zero, suc, List, ⊤}
use Rattle.stair_model.specs.Device.{first_place, second_place}
use Rattle.stair_rack.specs.Answers.{Calls, Ran, any_call}
use Rattle.stair_rack.specs.History.{Happening, SlotCall, Attach, Sectors, Read, Write, Sync, slot_state}
use Rattle.stair_rack.specs.Sector.{Cell, Damaged, content}
use Rattle.stair_rack.specs.declared.rack.Got.{Got}
use Rattle.stair_rack.specs.declared.rack.Got.TheVariants as got
use Rattle.stair_rack.specs.declared.rack.Reply.TheVariants.{Done, Gone}

-- The calls on slot j: it is attached, and where it is there each superblock place is read, once.
pub data AsksSlot (j : ℕ) (old new : List Happening) : Type 0 where
  NotThere : Calls old new j (Attach Gone) → AsksSlot j old new
  There : (attached between : List Happening) (first second : Got)
      → Calls old attached j (Attach Done) → Calls attached between j (Read first_place first)
      → Calls between new j (Read second_place second) → AsksSlot j old new

-- What a read that was answered so found in sector k of slot j, as it stands at h: its content, or nothing that can be read;
-- and the slot counts as gone where it was gone to the read.
abbrev pub IsWhatWasRead : Type 0 → Got → List Happening → ℕ → ℕ → Cell → Type 0
IsWhatWasRead gone got.Good h j k cell = cell ≡ content ((slot_state h j).sector k)
IsWhatWasRead gone got.Bad h j k cell = cell ≡ Damaged
IsWhatWasRead gone got.Gone h j k cell = (cell ≡ Damaged) × gone

-- The same calls, and that they found these cells: of the medium that the attach found, each place as its one read found it.
-- The slot counts as gone where it was so to one of them, and nowhere else.
pub data FindsSlot (gone : Type 0) (j : ℕ) (cell : ℕ → Cell) (old new : List Happening)
    : Type 0 where
  FoundNone : Calls old new j (Attach Gone) → cell first_place ≡ Damaged
      → cell second_place ≡ Damaged → gone → FindsSlot gone j cell old new
  FoundBoth : (attached between : List Happening) (first second : Got)
      → Calls old attached j (Attach Done) → Calls attached between j (Read first_place first)
      → Calls between new j (Read second_place second)
      → IsWhatWasRead gone first between j first_place (cell first_place)
      → IsWhatWasRead gone second new j second_place (cell second_place)
      → (gone → (first ≡ got.Gone) ⊎ (second ≡ got.Gone)) → FindsSlot gone j cell old new

-- in a part of a stretch
pub record FindsWithin (gone : Type 0) (j : ℕ) (cell : ℕ → Cell) (old new : List Happening)
    : Type 0 where
  pub from : List Happening
  pub to : List Happening
  pub sooner : Ran any_call old from
  pub finds : FindsSlot gone j cell from to
  pub later : Ran any_call to new

-- these calls on the slots below this one, in rising order, and no others
abbrev pub AsksBelow : ℕ → List Happening → List Happening → Type 0
AsksBelow zero old new = new ≡ old
AsksBelow (suc j) old new = (mid : List Happening) × AsksBelow j old mid × AsksSlot j mid new

-- a call that changes no sector, whatever it is answered: neither a write nor a sync
abbrev pub LeavesSectors : ℕ → SlotCall → Type 0
LeavesSectors j (Attach answer) = ⊤
LeavesSectors j (Sectors size) = ⊤
LeavesSectors j (Read k answer) = ⊤
LeavesSectors j (Write k bytes answer) = ⊥
LeavesSectors j (Sync answer) = ⊥
