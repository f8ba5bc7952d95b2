-- What reading the body of a redo finds.
use Rattle.std.specs.Prelude.{◌≡◌, ◌⊎◌, ◌<◌, ℕ, IsTrue, Option, None, Some}
use Rattle.stair_model.specs.CellSet.{HasCell}
use Rattle.stair_model.specs.Device.{body_sector}
use Rattle.stair_model.specs.Geometry.{Geometry}
use Rattle.stair_model.specs.Slots.{Slots, HasSlot, IsSlotSet}
use Rattle.stair_model.specs.Stripe.{Stripe, IsStripeOf, cell}
use Rattle.stair_rack.specs.Answers.{Ran}
use Rattle.stair_rack.specs.RackCounts.{NoneFalls}
use Rattle.stair_rack.specs.History.{Read}
use Rattle.stair_rack.specs.Reading.{IsReadOf}
use Rattle.stair_rack.specs.Sector.{Good, Damaged}
use Rattle.stair_rack.specs.Stretch.{WasAnswered}
use Rattle.stair_rack.specs.RackState.{RackState, IsGone, IsReading}
use Rattle.stair_rack.specs.declared.rack.Got.TheVariants as got
use Rattle.stair_journal.specs.declared.body.Body.{Body}
use Rattle.stair_journal.specs.declared.redo.Redo.{Redo}

-- a sector of the body that is for one of the redo's cells
pub record IsBodySector (g : Geometry) (redo : Redo) (k : ℕ) : Type 0 where
  pub row : ℕ
  pub slot : ℕ
  pub has : HasCell redo.cells row slot
  pub is : k ≡ body_sector g row slot

module _ (g : Geometry) (live gone : Slots) (was into : Stripe) (old new : RackState) where
  -- live slot j doesn't give this sector: it was gone, or the sector read as bad
  abbrev pub GivesNot : ℕ → ℕ → Type 0
  GivesNot j k = HasSlot gone j ⊎ IsReading j k old new Damaged

  -- cell (i, c) is given by the lowest live slot that reads it
  pub record IsGiven (i c : ℕ) : Type 0 where
    pub slot : ℕ
    pub live_slot : HasSlot live slot
    pub read : IsReading slot (body_sector g i c) old new (Good (cell into i c))
    pub lower : (j : ℕ) → j < slot → HasSlot live j → GivesNot j (body_sector g i c)

  -- no live slot gives cell (i, c), and it is left as it was
  pub record IsUngiven (i c : ℕ) : Type 0 where
    pub none : (j : ℕ) → HasSlot live j → GivesNot j (body_sector g i c)
    pub left : cell into i c ≡ cell was i c

  -- The first sector of the redo's body that no live slot gives; None where each of its cells is given.
  pub data IsFirstUngiven (redo : Redo) : Option ℕ → Type 0 where
    AllGiven : ((i c : ℕ) → HasCell redo.cells i c → IsGiven i c) → IsFirstUngiven redo None
    UngivenFirst : (i c : ℕ) → HasCell redo.cells i c → IsUngiven i c
        → ((a b : ℕ) → HasCell redo.cells a b → body_sector g a b < body_sector g i c
        → IsGiven a b) → IsFirstUngiven redo (Some (body_sector g i c))

-- What reading the body of a redo does.
pub record ReadsBody (g : Geometry) (live : Slots) (redo : Redo) (body : Body)
    (was into : Stripe) (old new : RackState) : Type 0 where
  pub honest : old.honest ≡ new.honest
  pub each : (i c : ℕ) → HasCell redo.cells i c
      → IsGiven g live body.gone was into old new i c
      ⊎ IsUngiven g live body.gone was into old new i c
  pub unread : IsFirstUngiven g live body.gone was into old new redo body.unread
  -- every other cell is left as it was
  pub rest : (i c : ℕ) → i < g.r → c < g.n → ¬ HasCell redo.cells i c
      → cell into i c ≡ cell was i c
  pub shape : IsStripeOf g into
  pub live_gone : (j : ℕ) → HasSlot body.gone j → HasSlot live j
  pub gone : (j : ℕ) → HasSlot body.gone j → IsGone j old new
  pub formed : IsSlotSet body.gone
  pub counts : NoneFalls old.bads new.bads old.gones new.gones
  -- on an honest rack: a slot that answered gone is one of them,
  pub told : IsTrue new.honest → (j k : ℕ) → WasAnswered j (Read k got.Gone) old.history new.history
      → HasSlot body.gone j
  -- and the calls are reads of the redo's body alone
  pub ran : IsTrue new.honest
      → Ran (IsReadOf (HasSlot live) (IsBodySector g redo)) old.history new.history
