-- What gathering cells of a stripe finds.
use Rattle.std.specs.Prelude.{◌≡◌, ◌⊎◌, ◌<◌, ℕ, IsTrue}
use Rattle.stair_model.specs.CellSet.{HasCell, IsCellSet}
use Rattle.stair_model.specs.Device.{cell_sector}
use Rattle.stair_model.specs.Geometry.{Geometry}
use Rattle.stair_model.specs.Slots.{Slots, HasSlot, IsSlotSet}
use Rattle.stair_model.specs.Stripe.{Stripe, IsStripeOf, cell}
use Rattle.stair_rack.specs.Answers.{Ran}
use Rattle.stair_rack.specs.History.{SlotCall, Read}
use Rattle.stair_rack.specs.RackCounts.{NoneFalls}
use Rattle.stair_rack.specs.Sector.{Good, Damaged}
use Rattle.stair_rack.specs.Stretch.{WasAnswered}
use Rattle.stair_rack.specs.RackState.{RackState, IsGone, IsReading}
use Rattle.stair_rack.specs.declared.rack.Got.{Got}
use Rattle.stair_rack.specs.declared.rack.Got.TheVariants as got
use Rattle.stair_stripes.specs.declared.gathering.Gathered.{Gathered}

-- each cell of a stripe
abbrev pub IsCellOf : Geometry → ℕ → ℕ → Type 0
IsCellOf g i j = (i < g.r) × (j < g.n)

-- a read of one of the stripe's wanted cells, on a live slot
pub record IsReadOfCell (g : Geometry) (live : Slots) (t : ℕ) (wanted : ℕ → ℕ → Type 0)
    (j : ℕ) (call : SlotCall) : Type 0 where
  pub on : HasSlot live j
  pub row : ℕ
  pub is_wanted : wanted row j
  pub answer : Got
  pub is : call ≡ Read (cell_sector g t row) answer

-- slot j isn't live, or was gone
abbrev pub IsAway : Slots → Slots → ℕ → Type 0
IsAway live gone j = (¬ HasSlot live j) ⊎ HasSlot gone j

-- What gathering the wanted cells of stripe t does. Every cell of a slot that isn't live or was gone is erased, and
-- every cell that read as bad, and no other one.
pub record Gathers (g : Geometry) (live : Slots) (t : ℕ) (wanted : ℕ → ℕ → Type 0)
    (gathered : Gathered) (was into : Stripe) (old new : RackState) : Type 0 where
  pub honest : old.honest ≡ new.honest
  -- a cell that isn't erased is given as it was read, and its slot is live and wasn't gone
  pub given : (i j : ℕ) → wanted i j → ¬ HasCell gathered.erased i j → ¬ IsAway live gathered.gone j
      × IsReading j (cell_sector g t i) old new (Good (cell into i j))
  pub wanted_erased : (i j : ℕ) → HasCell gathered.erased i j → wanted i j
  pub away : (i j : ℕ) → wanted i j → IsAway live gathered.gone j → HasCell gathered.erased i j
  -- a cell of another slot is erased where it read as bad, and it is left as it was
  pub bad : (i j : ℕ) → HasCell gathered.erased i j → ¬ IsAway live gathered.gone j
      → IsReading j (cell_sector g t i) old new Damaged × (cell into i j ≡ cell was i j)
  -- every other cell is left as it was, and so are those of a slot that isn't live
  pub rest : (i j : ℕ) → IsCellOf g i j → (¬ wanted i j) ⊎ (¬ HasSlot live j)
      → cell into i j ≡ cell was i j
  -- each cell is left as it was or given as it was read, also those of a slot that was gone
  pub kept_or_read : (i j : ℕ) → IsCellOf g i j → (cell into i j ≡ cell was i j)
      ⊎ IsReading j (cell_sector g t i) old new (Good (cell into i j))
  pub shape : IsStripeOf g into
  pub live_gone : (j : ℕ) → HasSlot gathered.gone j → HasSlot live j × (j < g.n)
  pub gone : (j : ℕ) → HasSlot gathered.gone j → IsGone j old new
  pub formed_erased : IsCellSet gathered.erased
  pub formed_gone : IsSlotSet gathered.gone
  pub counts : NoneFalls old.bads new.bads old.gones new.gones
  -- on an honest rack: a slot that answered gone is one of them,
  pub told : IsTrue new.honest → (j k : ℕ) → WasAnswered j (Read k got.Gone) old.history new.history
      → HasSlot gathered.gone j
  -- and the calls are reads of wanted cells on live slots alone
  pub ran : IsTrue new.honest → Ran (IsReadOfCell g live t wanted) old.history new.history
