-- How the body of a redo is read: what asking live slots for sectors finds, and how far the reading has come.
use Rattle.std.specs.Prelude.{◌≡◌, ◌⊎◌, ◌+◌, ◌*◌, ◌<◌, ℕ, IsTrue, Option, None, Some, if◌then◌else◌, List}
use Rattle.std.specs.Option.{unwrap_or}
use Rattle.stair_model.specs.CellSet.{CellSet, HasCell, count_in_row, has_cell}
use Rattle.stair_model.specs.Device.{body_sector}
use Rattle.stair_model.specs.Geometry.{Geometry}
use Rattle.stair_model.specs.Slots.{Slots, slot_count, HasSlot, IsSlotSet}
use Rattle.stair_model.specs.Stripe.{Stripe, IsStripeOf, cell}
use Rattle.stair_model.specs.Sum.{sum_below}
use Rattle.stair_rack.specs.RackCounts.{RisesAtMost}
use Rattle.stair_rack.specs.Reading.{EachBelow, IsReadOf}
use Rattle.stair_rack.specs.RackState.{RackState, IsGone, IsLater, IsReading}
use Rattle.stair_journal.specs.Bodies.{IsBodySector, IsGiven, IsUngiven}
use Rattle.stair_journal.specs.Reads.{Asking, asking, PassesAll, AsksCell, AsksRow, AsksUpTo, AnswersGood, PassesSlot}
use Rattle.stair_journal.specs.declared.body.Body.{Body}
use Rattle.stair_journal.specs.declared.redo.Redo.{Redo}
use Rattle.stair_rack.specs.Answers.{Ran}
use Rattle.stair_rack.specs.Sector.{Good, Damaged}
use Rattle.stair_journal.specs.declared.body.Found.{Found}
use Rattle.stair_journal.specs.declared.body.Found.TheVariants.{Here, Nowhere}

-- ASKING

-- Live slots were asked for some of these sectors, and the set of the slots that were gone grew.
pub record Asks (live : Slots) (sectors : ℕ → Type 0) (gone gone' : Slots) (old new : RackState)
    : Type 0 where
  pub more : (j : ℕ) → HasSlot gone j → HasSlot gone' j
  pub newly : (j : ℕ) → HasSlot gone' j → HasSlot gone j ⊎ (HasSlot live j × IsGone j old new)
  pub formed : IsSlotSet gone → IsSlotSet gone'
  pub later : IsLater old new
  pub ran : IsTrue new.honest → Ran (IsReadOf (HasSlot live) sectors) old.history new.history

-- slot j doesn't give this sector: it was gone, or the sector read as bad
abbrev pub Fails : Slots → RackState → RackState → ℕ → ℕ → Type 0
Fails gone old new j k = HasSlot gone j ⊎ IsReading j k old new Damaged

-- what slot j, where it is live, was found to have of this sector
abbrev pub IsAnswer : Slots → ℕ → ℕ → Slots → List ℕ → RackState → RackState → Found → Type 0
IsAnswer live j k gone bytes old new Here = HasSlot live j × IsReading j k old new (Good bytes)
IsAnswer live j k gone bytes old new Nowhere = HasSlot live j → Fails gone old new j k

-- the lowest live slot that gives this sector gave these bytes
pub record Gives (live : Slots) (k : ℕ) (gone : Slots) (bytes : List ℕ) (old new : RackState)
    : Type 0 where
  pub slot : ℕ
  pub live_slot : HasSlot live slot
  pub read : IsReading slot k old new (Good bytes)
  pub lower : (j : ℕ) → j < slot → HasSlot live j → Fails gone old new j k

-- where this sector was found in the live slots
abbrev pub IsFound : Slots → ℕ → Slots → List ℕ → RackState → RackState → Found → Type 0
IsFound live k gone bytes old new Here = Gives live k gone bytes old new
IsFound live k gone bytes old new Nowhere = (j : ℕ) → HasSlot live j → Fails gone old new j k

-- what is called as slot j is asked for this sector
abbrev pub AsksSlot : Slots → ℕ → ℕ → List ℕ → Asking → Asking → Found → Type 0
AsksSlot live j k bytes old new Here = AnswersGood live k bytes j old new
AsksSlot live j k bytes old new Nowhere = PassesSlot live k j old new

-- what is called as the live slots are asked for it
abbrev pub AsksSlots : Slots → ℕ → List ℕ → Asking → Asking → Found → Type 0
AsksSlots live k bytes old new Here = AsksUpTo live k bytes old new
AsksSlots live k bytes old new Nowhere = PassesAll live k old new

-- READING

-- what the reading has at a moment
pub record Standing : Type 0 where
  pub body : Body
  pub into : Stripe
  pub rack_state : RackState
  pub reads : Option ℕ

abbrev pub standing : Body → Stripe → RackState → Option ℕ → Standing
standing body into rack_state reads =
    record { body = body; into = into; rack_state = rack_state; reads = reads }

abbrev pub asking_of : Standing → Asking
asking_of now = asking now.body.gone now.rack_state.history

module _ (g : Geometry) (live : Slots) (old new : Standing) where
  -- cell (i, c) was given
  abbrev pub IsCellGiven : ℕ → ℕ → Type 0
  IsCellGiven = IsGiven g live new.body.gone old.into new.into old.rack_state new.rack_state

  -- cell (i, c) was given by no live slot
  abbrev pub IsCellUngiven : ℕ → ℕ → Type 0
  IsCellUngiven = IsUngiven g live new.body.gone old.into new.into old.rack_state new.rack_state

  -- a slot was found that gives cell (i, c)
  pub record GivesCell (i c : ℕ) : Type 0 where
    pub given : IsCellGiven i c
    pub unread : new.body.unread ≡ old.body.unread
    pub in_turn : IsTrue new.rack_state.honest
        → AsksUpTo live (body_sector g i c) (cell new.into i c) (asking_of old) (asking_of new)

  -- none was
  pub record LeavesCell (i c : ℕ) : Type 0 where
    pub ungiven : IsCellUngiven i c
    pub unread : new.body.unread ≡ Some (unwrap_or old.body.unread (body_sector g i c))
    pub in_turn : IsTrue new.rack_state.honest
        → PassesAll live (body_sector g i c) (asking_of old) (asking_of new)

-- What reading cell (i, c) does.
pub record ReadsCell (g : Geometry) (live : Slots) (i c : ℕ) (old new : Standing)
    : Type 0 where
  pub asks : Asks live (λ k. k ≡ body_sector g i c) old.body.gone new.body.gone
      old.rack_state new.rack_state
  pub told : GivesCell g live old new i c ⊎ LeavesCell g live old new i c
  -- every other cell is left as it was
  pub rest : (a b : ℕ) → a < g.r → b < g.n → ¬ ((a ≡ i) × (b ≡ c))
      → cell new.into a b ≡ cell old.into a b
  pub shape : IsStripeOf g new.into
  pub reads : RisesAtMost (slot_count live) old.reads new.reads

-- The first sector of these cells that isn't given; None where each is given.
pub data IsFirst (some given ungiven : ℕ → ℕ → Type 0) (sector : ℕ → ℕ → ℕ)
    : Option ℕ → Type 0 where
  AllSoFar : ((i c : ℕ) → some i c → given i c) → IsFirst some given ungiven sector None
  FirstSoFar : (i c k : ℕ) → some i c → k ≡ sector i c → ungiven i c
      → ((a b : ℕ) → some a b → sector a b < sector i c → given a b)
      → IsFirst some given ungiven sector (Some k)

-- how many cells of the set come before cell (i, c), row by row
abbrev pub cells_before : CellSet → ℕ → ℕ → ℕ
cells_before cells i c =
    sum_below i (count_in_row cells) + sum_below c (λ j. if has_cell cells i j then 1 else 0)

-- the redo has cell (i, c), in a sector below k
abbrev pub IsBelow : Geometry → Redo → ℕ → ℕ → ℕ → Type 0
IsBelow g redo k i c = HasCell redo.cells i c × (body_sector g i c < k)

-- The cells of the redo whose sector is below k were read, so many of them.
pub record AreCellsRead (g : Geometry) (live : Slots) (redo : Redo) (k count : ℕ)
    (old new : Standing) : Type 0 where
  pub asks : Asks live (IsBodySector g redo) old.body.gone new.body.gone old.rack_state new.rack_state
  pub each : (i c : ℕ) → IsBelow g redo k i c
      → IsCellGiven g live old new i c ⊎ IsCellUngiven g live old new i c
  pub unread : IsFirst (IsBelow g redo k) (IsCellGiven g live old new)
      (IsCellUngiven g live old new) (body_sector g) new.body.unread
  pub rest : (i c : ℕ) → i < g.r → c < g.n → ¬ IsBelow g redo k i c
      → cell new.into i c ≡ cell old.into i c
  pub shape : IsStripeOf g new.into
  pub reads : RisesAtMost (count * slot_count live) old.reads new.reads

-- the rows before row i were asked for, and of its own the cells before cell (i, c)
pub record AsksBefore (g : Geometry) (live : Slots) (redo : Redo) (i c : ℕ)
    (old new : Standing) : Type 0 where
  pub mid : Asking
  pub rows : EachBelow (AsksRow g live redo new.body.unread old.into new.into) i
      (asking_of old) mid
  pub cells : EachBelow (AsksCell g live redo new.body.unread old.into new.into i) c
      mid (asking_of new)

-- the cells before cell (i, c) were read
pub record IsReadTo (g : Geometry) (live : Slots) (redo : Redo) (i c : ℕ)
    (old new : Standing) : Type 0 where
  pub read : AreCellsRead g live redo (body_sector g i c) (cells_before redo.cells i c) old new
  pub in_turn : IsTrue new.rack_state.honest → AsksBefore g live redo i c old new
