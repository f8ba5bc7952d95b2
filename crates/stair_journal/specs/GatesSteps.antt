-- What is seen of a gate, and how it is noted.
use Rattle.std.specs.Prelude.{◌≡◌, ◌⊎◌, ◌↔◌, ℕ, List, Option, None, Some}
use Rattle.stair_model.specs.Device.{gate_sector}
use Rattle.stair_model.specs.Geometry.{Geometry}
use Rattle.stair_model.specs.Slots.{HasSlot, IsSlotSet}
use Rattle.stair_rack.specs.Answers.{Calls}
use Rattle.stair_rack.specs.History.{Happening, Read}
use Rattle.stair_rack.specs.Sector.{Cell}
use Rattle.stair_rack.specs.RackState.{RackState, IsGone, IsReading}
use Rattle.stair_rack.specs.declared.rack.Got.{Got}
use Rattle.stair_rack.specs.declared.rack.Got.TheVariants as got
use Rattle.stair_journal.specs.Gate.{IsOpenWith, ReadsClosed}
use Rattle.stair_journal.specs.declared.gates.Gates.{Gates}
use Rattle.stair_journal.specs.declared.gates.Seen.{Seen}
use Rattle.stair_journal.specs.declared.gates.Seen.TheVariants.{Open, Closed, Gone}
use Rattle.stair_journal.specs.declared.redo.Redo.{Redo}

-- slot j's gate was read, and P holds of its cell
pub record IsGateRead (P : Cell → Type 0) (j : ℕ) (old new : RackState) : Type 0 where
  pub cell : Cell
  pub read : IsReading j gate_sector old new cell
  pub says : P cell

-- what slot j's gate was seen to say
abbrev pub IsSeen : Geometry → ℕ → RackState → RackState → Seen → Type 0
IsSeen g j old new (Open redo) = IsGateRead (λ cell. IsOpenWith g cell redo) j old new
IsSeen g j old new Closed = IsGateRead (ReadsClosed g) j old new
IsSeen g j old new Gone = IsGone j old new

-- slot j's gate was read once, and the answer was Gone exactly where the slot was seen to be gone
pub record IsReadOnce (j : ℕ) (seen : Seen) (old new : List Happening) : Type 0 where
  pub answer : Got
  pub is_gone : (answer ≡ got.Gone) ↔ (seen ≡ Gone)
  pub called : Calls old new j (Read gate_sector answer)

-- the redo that is told once this gate is seen too: the first one stays
abbrev pub first_redo : Option Redo → Seen → Option Redo
first_redo (Some redo) seen = Some redo
first_redo None (Open redo) = Some redo
first_redo None Closed = None
first_redo None Gone = None

-- the gate was seen open with the redo that is told
pub record IsSeenOpen (redo : Option Redo) (seen : Seen) : Type 0 where
  pub with_redo : Redo
  pub told : redo ≡ Some with_redo
  pub is_open : seen ≡ Open with_redo

-- What was seen of slot i's gate is noted.
pub record IsNoted (i : ℕ) (seen : Seen) (old new : Gates) : Type 0 where
  pub redo : new.redo ≡ first_redo old.redo seen
  pub opened : (j : ℕ) → HasSlot new.opened j
      ↔ (HasSlot old.opened j ⊎ ((j ≡ i) × IsSeenOpen new.redo seen))
  pub gone : (j : ℕ) → HasSlot new.gone j ↔ (HasSlot old.gone j ⊎ ((j ≡ i) × (seen ≡ Gone)))
  pub formed_opened : IsSlotSet old.opened → IsSlotSet new.opened
  pub formed_gone : IsSlotSet old.gone → IsSlotSet new.gone
