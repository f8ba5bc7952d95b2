-- An example: a device that was pulled, that an epoch leaves out, and that is put back before the next opening.
use Rattle.std.specs.Prelude.{◌≡◌, ◌≢◌, ◌==◌, ◌-◌, ◌<◌, ◌≤◌, ◌⊎◌, ◌^◌, ⊤, ℕ, true, false, Err, IsTrue, List, [], ◌∷◌, Ok, Result, if◌then◌else◌}
use Rattle.stair_model.specs.Device.{gate_sector}
use Rattle.stair_model.specs.Geometry.{Geometry, block_count, sectors_needed}
use Rattle.stair_model.specs.Stripe.{cell}
use Rattle.stair_rack.specs.Answers.{IsHistory, Ran}
use Rattle.stair_rack.specs.Crash.{SlotMayLeave}
use Rattle.stair_rack.specs.History.{Acted, Attach, Called, Happening, InsertedOld, Made, Read, Sectors, Stopped, Sync, Write, slot_state}
use Rattle.stair_rack.specs.Media.{Image, SlotImage}
use Rattle.stair_rack.specs.Moments.{AtEveryMoment}
use Rattle.stair_rack.specs.Offline.{IsOffline}
use Rattle.stair_rack.specs.Sector.{Cell, Good, Torn}
use Rattle.stair_rack.specs.Stretch.{EachHappening, NothingReturned}
use Rattle.stair_rack.specs.RackState.{RackState}
use Rattle.stair_rack.specs.declared.watcher.Event.{Event}
use Rattle.stair_super.specs.Spelling.{spelled}
use Rattle.stair_super.specs.declared.mark.Mark.TheVariants.{Down, Live}
use Rattle.stair_member.specs.Current.{IsLost}
use Rattle.stair_member.specs.Editions.{Edition, copy_of}
use Rattle.stair_member.specs.Membership.{IsHere, IsMembership, Membership}
use Rattle.stair_member.specs.Survey.{Surveys}
use Rattle.stair_member.specs.Superblocks.{HasSuper}
use Rattle.stair_member.specs.declared.fault.SurveyFault.{SurveyFault}
use Rattle.stair_state.specs.Degraded.{AreAllDamaged, AreDamagedCopies}
use Rattle.stair_state.specs.Blocks.{Codewords, zero_block}
use Rattle.stair_state.specs.Holding.{IsConsistentUnderReassembly}
use Rattle.stair_state.specs.State.{created_state, without_seats}
use Rattle.stair_invariant.specs.Returning.{AnyReturns, StaysWithinTolerance, StaysWithinToleranceUnread}
use Rattle.stair_array.specs.Machine.{Answer, EpochsSpent, ReadBlock, Recover, Refusal}
use Rattle.stair_array.specs.Promise.{Found, Performs, Seen}
use Rattle.stair_reinsert.specs.Misled.{device_cell, device_of, five, naming, rack_of}
use Rattle.stair_reinsert.specs.Still.{IsStill}
use Rattle.stair_reinsert_examples.specs.Refused.{all_live, slot_without}
use Rattle.stair_lives.specs.Stale.{IsOpenBy, ReadsBehind}

-- All five devices were live in epoch 4. That of slot 3 was pulled, and epoch 5, which marks slot 3 Down, was drawn on all others
-- and written to them.
abbrev pub left_out : ℕ → Edition
left_out j = if j == 3
    then all_live
    else record {
      array = naming 5 (Live ∷ Live ∷ Live ∷ Down ∷ Live ∷ []) (1 ∷ 1 ∷ 1 ∷ 0 ∷ 1 ∷ []);
      draw = 5;
    }

-- the device of slot 3 lies outside
abbrev pub rack_without : Codewords → Image
rack_without words j = if j == 3 then slot_without (device_of words left_out 3) else rack_of words left_out j

abbrev pub made_without : Codewords → List Happening
made_without words = Made (rack_without words) ∷ []

-- then it is put back
abbrev pub reinserted : Codewords → List Happening
reinserted words = Acted 3 (InsertedOld 0) ∷ made_without words

-- The devices have the cells of these stripes, but for that of slot 3, which may have those of any others: the array was written
-- without it.
abbrev pub HaveAllBut : (now words : Codewords) → Type 0
HaveAllBut now words = (j : ℕ) → j ≢ 3 → cell (words 0) 0 j ≡ cell (now 0) 0 j

-- What becomes of it: the rack is an array that holds zeros; what is asked of the outside before an array is open is kept, as long as
-- nothing happens but that the rack is looked at; and the survey of an opening finds the array by epoch 5, so that slot 3 takes no part.
pub record IsLeftOutAgain (words : Codewords) : Type 0 where
  pub history : IsHistory (reinserted words)
  pub returned : ¬ NothingReturned (made_without words) (reinserted words)
  pub consistent :
      IsConsistentUnderReassembly (without_seats (created_state five)) (reinserted words)
  pub calm : (h : List Happening) → IsStill (reinserted words) h
      → StaysWithinTolerance AnyReturns five false (reinserted words) h
  pub found : (first last : RackState) (answer : Result Membership SurveyFault)
      → first.history ≡ reinserted words → IsTrue last.honest → IsStill first.history last.history
      → Surveys answer first last
      → (m : Membership) × (answer ≡ Ok m) × (m.array ≡ (left_out 0).array) × ¬ IsHere m 3

-- WHILE AN EPOCH WITHOUT IT IS ESTABLISHED

-- an epoch that names of each slot what epoch 5 names, and a draw
abbrev pub without_third : ℕ → ℕ → Edition
without_third epoch draw = record {
  array = naming epoch (Live ∷ Live ∷ Live ∷ Down ∷ Live ∷ []) (1 ∷ 1 ∷ 1 ∷ 0 ∷ 1 ∷ []);
  draw = draw;
}

-- A superblock place of slot j holds its copy of epoch 5 or of such a later epoch, with any draw that may be; or a write over one was cut.
pub data IsPlaceAmid (j : ℕ) (cell : Cell) : Type 0 where
  Holds : (epoch draw : ℕ) → 5 ≤ epoch → epoch ≤ draw → draw < 2 ^ 64
      → cell ≡ Good (spelled (copy_of (without_third epoch draw) j)) → IsPlaceAmid j cell
  Cut : cell ≡ Torn → IsPlaceAmid j cell

-- Slot j, which isn't slot 3, with these cells: one place at least holds a superblock, and no sector from the gate on is lost.
pub record IsSlotAmid (j : ℕ) (cell : ℕ → Cell) : Type 0 where
  pub places : (k : ℕ) → k < 2 → IsPlaceAmid j (cell k)
  pub one : HasSuper cell
  pub whole : (k : ℕ) → gate_sector ≤ k → k < sectors_needed five → ¬ IsLost (cell k)

-- A crash at this moment leaves slots 0, 1, 2 and 4 so, and none of them is offline. Slot 3 has what its device has, but that sectors
-- may be damaged, and the slots past the array hold nothing.
pub record IsMomentAmid (words : Codewords) (h : List Happening) : Type 0 where
  pub slots : (j : ℕ) (left : SlotImage) → j < 5 → j ≢ 3 → SlotMayLeave (slot_state h j) left → IsSlotAmid j left.cell
  pub online : (j : ℕ) → j < 5 → j ≢ 3 → ¬ IsOffline (reinserted words) h j
  pub third : (left : SlotImage) → SlotMayLeave (slot_state h 3) left → AreDamagedCopies (device_cell words left_out 3) left.cell
  pub bare : (j : ℕ) (left : SlotImage) → 5 ≤ j → SlotMayLeave (slot_state h j) left → AreAllDamaged left.cell

-- these bytes are slot j's copy of epoch 5 or of a later one that names the same slots
pub record IsSpelledAmid (j : ℕ) (bytes : List ℕ) : Type 0 where
  pub epoch : ℕ
  pub draw : ℕ
  pub from : 5 ≤ epoch
  pub drawn : epoch ≤ draw
  pub fits : draw < 2 ^ 64
  pub is : bytes ≡ spelled (copy_of (without_third epoch draw) j)

-- The outside does nothing, and no call writes slot 3. Of the others a superblock place gets such a copy, while nothing is unsynced in the
-- other place, and a sector from the gate on any bytes.
abbrev pub KeepsAmid : List Happening → Happening → Type 0
KeepsAmid h (Made image) = ⊥
KeepsAmid h Stopped = ⊥
KeepsAmid h (Acted j act) = ⊥
KeepsAmid h (Called j (Attach answer)) = ⊤
KeepsAmid h (Called j (Sectors size)) = ⊤
KeepsAmid h (Called j (Read k answer)) = ⊤
KeepsAmid h (Called j (Write k bytes answer)) = (j < 5) × (j ≢ 3)
    × ((gate_sector ≤ k) ⊎ (IsSpelledAmid j bytes × (((slot_state h j).sector (1 - k)).since ≡ [])))
KeepsAmid h (Called j (Sync answer)) = ⊤

-- It is so once the device was put back, and such calls keep it so. As long as it is so at every moment, the premise of an opening is
-- met, and what is asked of one whose first epoch is refused.
pub record StaysWithinToleranceAmid (words : Codewords) : Type 0 where
  pub begins : IsMomentAmid words (reinserted words)
  pub kept : (h : List Happening) → EachHappening KeepsAmid (reinserted words) h
      → AtEveryMoment (IsMomentAmid words) (reinserted words) h
  pub calm : (h : List Happening) → AtEveryMoment (IsMomentAmid words) (reinserted words) h
      → StaysWithinTolerance AnyReturns five false (reinserted words) h
  pub unread : (h : List Happening) → AtEveryMoment (IsMomentAmid words) (reinserted words) h
      → StaysWithinToleranceUnread AnyReturns five false (reinserted words) h

-- THE NEXT OPENING

-- Slot 3 is left out of the array that the session has open, and of each read of a block that comes next: no sector of the slot from 2 on
-- is read, the block is zeros, as it was written, and it is refused only where no epoch is left.
pub record ReadsWithout (words : Codewords) (y : Seen) : Type 0 where
  pub member : Membership
  pub opened : IsOpenBy y.session member
  pub left : ¬ IsHere member 3
  pub read : (b : ℕ) (answer : Answer (ReadBlock b)) (events : List Event) (z : Seen)
      → Performs (ReadBlock b) answer events y z → IsTrue z.told.honest
      → StaysWithinTolerance AnyReturns five true (reinserted words) z.told.history → b < block_count five
      → Ran (ReadsBehind (λ j. j ≢ 3)) y.told.history z.told.history
      × ((bytes : List ℕ) → answer ≡ Ok bytes → bytes ≡ zero_block)
      × ((refusal : Refusal) → answer ≡ Err refusal → refusal ≡ EpochsSpent)

-- An opening by the member that such a survey found, while what is asked of the outside was kept, reads no sector of slot 3 from 2 on. It is
-- refused only where no epoch is left, if as much was kept as is asked of an opening whose first epoch is refused; and else has the array
-- open without slot 3.
pub record OpensWithout (words : Codewords) (answer : Answer Recover) (x y : Seen) : Type 0 where
  pub reads : Ran (ReadsBehind (λ j. j ≢ 3)) x.told.history y.told.history
  pub refused : StaysWithinToleranceUnread AnyReturns five false (reinserted words) y.told.history
      → (refusal : Refusal) → answer ≡ Err refusal → refusal ≡ EpochsSpent
  pub done : (g : Geometry) → answer ≡ Ok g → ReadsWithout words y

abbrev pub EachOpensWithout : Codewords → Type 0
EachOpensWithout words = (first found : RackState) (m : Membership) (answer : Answer Recover)
    (events : List Event) (y : Seen) → first.history ≡ reinserted words → IsTrue found.honest
    → IsStill first.history found.history → Surveys (Ok m) first found → IsMembership m
    → Performs Recover answer events (record { told = found; session = Found m }) y
    → IsTrue y.told.honest → StaysWithinTolerance AnyReturns five false (reinserted words) y.told.history
    → OpensWithout words answer (record { told = found; session = Found m }) y

-- So does each with no such premise, where the rack is only looked at and written so as KeepsAmid says: it is refused only where no epoch
-- is left, and else has the array open without slot 3.
abbrev pub EachOpensAmid : Codewords → Type 0
EachOpensAmid words = (first found : RackState) (m : Membership) (answer : Answer Recover)
    (events : List Event) (y : Seen) → first.history ≡ reinserted words → IsTrue found.honest
    → IsStill first.history found.history → Surveys (Ok m) first found → IsMembership m
    → Performs Recover answer events (record { told = found; session = Found m }) y
    → IsTrue y.told.honest → EachHappening KeepsAmid (reinserted words) y.told.history
    → OpensWithout words answer (record { told = found; session = Found m }) y
    × ((refusal : Refusal) → answer ≡ Err refusal → refusal ≡ EpochsSpent)
