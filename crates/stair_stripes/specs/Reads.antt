-- The calls of gathering, one after the other.
use Rattle.std.specs.Prelude.{◌≡◌, ◌≢◌, ℕ, List}
use Rattle.stair_model.specs.Device.{cell_sector}
use Rattle.stair_model.specs.Geometry.{Geometry}
use Rattle.stair_model.specs.Slots.{Slots, HasSlot}
use Rattle.stair_rack.specs.Answers.{Calls}
use Rattle.stair_rack.specs.History.{Happening, Read}
use Rattle.stair_rack.specs.Reading.{EachBelow}
use Rattle.stair_rack.specs.declared.rack.Got.{Got}
use Rattle.stair_rack.specs.declared.rack.Got.TheVariants as got

-- The cell in row i of slot j: where it is wanted it is read, once, and the slot isn't gone; else nothing is called.
pub data ReadsCell (g : Geometry) (t : ℕ) (wanted : ℕ → ℕ → Type 0) (j i : ℕ)
    (old new : List Happening) : Type 0 where
  Unwanted : ¬ wanted i j → new ≡ old → ReadsCell g t wanted j i old new
  There : wanted i j → (answer : Got) → answer ≢ got.Gone
      → Calls old new j (Read (cell_sector g t i) answer) → ReadsCell g t wanted j i old new

-- The chunk of slot j: where the slot is live its wanted cells are read, row by row, up to the first that is answered
-- Gone; else nothing is called.
pub data ReadsChunk (g : Geometry) (live : Slots) (t : ℕ) (wanted : ℕ → ℕ → Type 0) (gone : Slots)
    (j : ℕ) (old new : List Happening) : Type 0 where
  NotLive : ¬ HasSlot live j → new ≡ old → ReadsChunk g live t wanted gone j old new
  Whole : HasSlot live j → ¬ HasSlot gone j → EachBelow (ReadsCell g t wanted j) g.r old new
      → ReadsChunk g live t wanted gone j old new
  UpTo : HasSlot live j → HasSlot gone j → (row : ℕ) (mid : List Happening) → wanted row j
      → EachBelow (ReadsCell g t wanted j) row old mid
      → Calls mid new j (Read (cell_sector g t row) got.Gone)
      → ReadsChunk g live t wanted gone j old new

-- the chunks of the stripe, slot by slot
abbrev pub ReadsInTurn : Geometry → Slots → ℕ → (ℕ → ℕ → Type 0) → Slots
    → List Happening → List Happening → Type 0
ReadsInTurn g live t wanted gone = EachBelow (ReadsChunk g live t wanted gone) g.n
