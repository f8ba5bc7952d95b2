-- What reading the gates of a rack finds.
use Rattle.std.specs.Prelude.{◌≡◌, ◌<◌, ◌↔◌, ℕ, IsTrue, Option, None, Some}
use Rattle.stair_model.specs.Device.{gate_sector}
use Rattle.stair_model.specs.Geometry.{Geometry}
use Rattle.stair_model.specs.Slots.{Slots, HasSlot, IsSlotSet}
use Rattle.stair_rack.specs.Answers.{Ran}
use Rattle.stair_rack.specs.RackCounts.{NoneFalls}
use Rattle.stair_rack.specs.History.{Read}
use Rattle.stair_rack.specs.Reading.{IsReadOf}
use Rattle.stair_rack.specs.Sector.{Cell}
use Rattle.stair_rack.specs.Stretch.{WasAnswered}
use Rattle.stair_rack.specs.RackState.{RackState, IsGone, IsReading}
use Rattle.stair_rack.specs.declared.rack.Got.TheVariants as got
use Rattle.stair_journal.specs.Gate.{IsOpenWith, ReadsClosed}
use Rattle.stair_journal.specs.declared.gates.Gates.{Gates}
use Rattle.stair_journal.specs.declared.redo.Redo.{Redo}

-- the sector of a gate
abbrev pub IsGateSector : ℕ → Type 0
IsGateSector k = k ≡ gate_sector

-- slot j is live, and wasn't gone
abbrev pub IsRead : Slots → Slots → ℕ → Type 0
IsRead live gone j = HasSlot live j × ¬ HasSlot gone j

-- The redo with which the lowest of these slots is open whose gate reads open, where the gates are these cells; None where
-- all read closed.
pub data IsFirstRedo (g : Geometry) (some : ℕ → Type 0) (gate : ℕ → Cell) : Option Redo → Type 0 where
  NoneOpen : ((j : ℕ) → some j → ReadsClosed g (gate j)) → IsFirstRedo g some gate None
  OpenFirst : (j : ℕ) (redo : Redo) → some j → IsOpenWith g (gate j) redo
      → ((i : ℕ) → i < j → some i → ReadsClosed g (gate i))
      → IsFirstRedo g some gate (Some redo)

-- this gate is open with the redo that is told
pub record IsOpened (g : Geometry) (redo : Option Redo) (gate : Cell) : Type 0 where
  pub with_redo : Redo
  pub told : redo ≡ Some with_redo
  pub is_open : IsOpenWith g gate with_redo

-- What reading the gates of the live slots does.
pub record ReadsGates (g : Geometry) (live : Slots) (gates : Gates) (old new : RackState)
    : Type 0 where
  pub honest : old.honest ≡ new.honest
  -- the gate of each live slot that wasn't gone, as it was read
  pub gate : ℕ → Cell
  pub read : (j : ℕ) → IsRead live gates.gone j → IsReading j gate_sector old new (gate j)
  pub redo : IsFirstRedo g (IsRead live gates.gone) gate gates.redo
  pub opened : (j : ℕ) → HasSlot gates.opened j
      ↔ (IsRead live gates.gone j × IsOpened g gates.redo (gate j))
  pub live_gone : (j : ℕ) → HasSlot gates.gone j → HasSlot live j
  pub gone : (j : ℕ) → HasSlot gates.gone j → IsGone j old new
  pub formed_opened : IsSlotSet gates.opened
  pub formed_gone : IsSlotSet gates.gone
  pub counts : NoneFalls old.bads new.bads old.gones new.gones
  -- on an honest rack: a slot that answered gone is one of them,
  pub told : IsTrue new.honest → (j k : ℕ) → WasAnswered j (Read k got.Gone) old.history new.history
      → HasSlot gates.gone j
  -- and the calls are reads of live gates alone
  pub ran : IsTrue new.honest
      → Ran (IsReadOf (HasSlot live) IsGateSector) old.history new.history
