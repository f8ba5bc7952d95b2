-- The calls of reading the gates and the body of a redo, one after the other.
use Rattle.std.specs.Prelude.{◌≡◌, ◌≢◌, ◌⊎◌, ◌↔◌, ◌≤◌, ℕ, List, Option, None, Some}
use Rattle.stair_model.specs.CellSet.{HasCell}
use Rattle.stair_model.specs.Device.{body_sector, gate_sector}
use Rattle.stair_model.specs.Geometry.{Geometry}
use Rattle.stair_model.specs.Slots.{Slots, HasSlot}
use Rattle.stair_model.specs.Stripe.{Stripe, cell}
use Rattle.stair_rack.specs.Answers.{Calls}
use Rattle.stair_rack.specs.History.{Happening, Read, slot_state}
use Rattle.stair_rack.specs.Reading.{EachBelow}
use Rattle.stair_rack.specs.Sector.{Good, content}
use Rattle.stair_rack.specs.declared.rack.Got.{Got}
use Rattle.stair_rack.specs.declared.rack.Got.TheVariants as got
use Rattle.stair_journal.specs.Gates.{IsRead}
use Rattle.stair_journal.specs.declared.redo.Redo.{Redo}

-- The gate of slot j: where the slot is live it is read, once, and the answer is Gone exactly where the slot was gone;
-- else nothing is called.
pub data ReadsGate (live gone : Slots) (j : ℕ) (old new : List Happening) : Type 0 where
  Skipped : ¬ HasSlot live j → new ≡ old → ReadsGate live gone j old new
  ReadOnce : HasSlot live j → (answer : Got) → ((answer ≡ got.Gone) ↔ HasSlot gone j)
      → Calls old new j (Read gate_sector answer) → ReadsGate live gone j old new

-- the gates, slot by slot
abbrev pub ReadsGatesInTurn : Slots → Slots → List Happening → List Happening → Type 0
ReadsGatesInTurn live gone = EachBelow (ReadsGate live gone) 32

-- what reading the body has at a moment: the slots that were gone so far, and the history
pub record Asking : Type 0 where
  pub gone : Slots
  pub history : List Happening

abbrev pub asking : Slots → List Happening → Asking
asking gone history = record { gone = gone; history = history }

-- Slot j doesn't give sector k. It isn't live, or it was gone before, and isn't called; or it is read, once, and answers
-- Bad, or Gone and is gone from then on.
pub data PassesSlot (live : Slots) (k j : ℕ) (old new : Asking) : Type 0 where
  NotLive : ¬ HasSlot live j → new ≡ old → PassesSlot live k j old new
  GoneBefore : HasSlot old.gone j → new ≡ old → PassesSlot live k j old new
  AnswersBad : IsRead live old.gone j → Calls old.history new.history j (Read k got.Bad)
      → new.gone ≡ old.gone → PassesSlot live k j old new
  AnswersGone : IsRead live old.gone j → Calls old.history new.history j (Read k got.Gone)
      → ((i : ℕ) → HasSlot new.gone i ↔ (HasSlot old.gone i ⊎ (i ≡ j)))
      → PassesSlot live k j old new

-- Slot j gives sector k: it is read, once, and answers Good with these bytes.
pub record AnswersGood (live : Slots) (k : ℕ) (bytes : List ℕ) (j : ℕ) (old new : Asking)
    : Type 0 where
  pub there : IsRead live old.gone j
  pub called : Calls old.history new.history j (Read k got.Good)
  pub found : content ((slot_state new.history j).sector k) ≡ Good bytes
  pub gone : new.gone ≡ old.gone

-- The slots are asked for sector k in turn, up to the first that gives it, with these bytes.
pub record AsksUpTo (live : Slots) (k : ℕ) (bytes : List ℕ) (old new : Asking) : Type 0 where
  pub slot : ℕ
  pub mid : Asking
  pub lower : EachBelow (PassesSlot live k) slot old mid
  pub read : AnswersGood live k bytes slot mid new

-- the slots are asked for sector k in turn, and none gives it
abbrev pub PassesAll : Slots → ℕ → Asking → Asking → Type 0
PassesAll live k = EachBelow (PassesSlot live k) 32

-- the first unread sector is k or a lower one
abbrev pub IsUnreadUpTo : ℕ → Option ℕ → Type 0
IsUnreadUpTo k None = ⊥
IsUnreadUpTo k (Some first) = first ≤ k

module _ (g : Geometry) (live : Slots) (redo : Redo) (unread : Option ℕ) (was into : Stripe) where
  -- The sector of cell (i, c) is asked for: the cell gets the bytes that are given, or is left where none gives it.
  pub data AsksFor (i c : ℕ) (old new : Asking) : Type 0 where
    Given : AsksUpTo live (body_sector g i c) (cell into i c) old new
        → unread ≢ Some (body_sector g i c) → AsksFor i c old new
    Ungiven : PassesAll live (body_sector g i c) old new → cell into i c ≡ cell was i c
        → IsUnreadUpTo (body_sector g i c) unread → AsksFor i c old new

  -- Where cell (i, c) is one of the redo's it is asked for; else nothing is called.
  pub data AsksCell (i c : ℕ) (old new : Asking) : Type 0 where
    NotRedone : ¬ HasCell redo.cells i c → new ≡ old → AsksCell i c old new
    Redone : HasCell redo.cells i c → AsksFor i c old new → AsksCell i c old new

  abbrev pub AsksRow : ℕ → Asking → Asking → Type 0
  AsksRow i = EachBelow (AsksCell i) g.n

  -- the cells, row by row
  abbrev pub AsksInTurn : Asking → Asking → Type 0
  AsksInTurn = EachBelow AsksRow g.r
