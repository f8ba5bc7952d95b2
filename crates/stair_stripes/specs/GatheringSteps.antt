-- How far the gathering of a stripe's cells has come: slot by slot, and in each row by row.
use Rattle.std.specs.Prelude.{◌≡◌, ◌⊎◌, ◌↔◌, ◌<◌, ℕ, IsTrue, List}
use Rattle.stair_model.specs.CellSet.{CellSet, HasCell, IsCellSet}
use Rattle.stair_model.specs.Geometry.{Geometry}
use Rattle.stair_model.specs.Slots.{Slots, HasSlot}
use Rattle.stair_model.specs.Stripe.{Stripe}
use Rattle.stair_rack.specs.History.{Happening}
use Rattle.stair_rack.specs.RackState.{RackState}
use Rattle.stair_stripes.specs.Gathering.{Gathers}
use Rattle.stair_rack.specs.Reading.{EachBelow}
use Rattle.stair_stripes.specs.Reads.{ReadsCell, ReadsChunk}
use Rattle.stair_stripes.specs.declared.gathering.Gathered.{Gathered}

-- a wanted cell that comes before this row of this slot's chunk
abbrev pub IsWantedBefore : CellSet → ℕ → ℕ → ℕ → ℕ → Type 0
IsWantedBefore wanted slot row i j = HasCell wanted i j × ((j < slot) ⊎ ((j ≡ slot) × (i < row)))

-- the chunks of the slots before this one were read, and of its own chunk the rows before this one
pub record ReadsBefore (g : Geometry) (live : Slots) (t : ℕ) (wanted : CellSet) (slot row : ℕ)
    (gone : Slots) (old new : List Happening) : Type 0 where
  pub mid : List Happening
  pub chunks : EachBelow (ReadsChunk g live t (HasCell wanted) gone) slot old mid
  pub rows : EachBelow (ReadsCell g t (HasCell wanted) slot) row mid new

-- the wanted cells before this row of this slot's chunk are gathered, and no later slot was asked
pub record GathersBefore (g : Geometry) (live : Slots) (t : ℕ) (wanted : CellSet) (slot row : ℕ)
    (gathered : Gathered) (was into : Stripe) (old new : RackState) : Type 0 where
  pub gathers : Gathers g live t (IsWantedBefore wanted slot row) gathered was into old new
  pub gone_before : (j : ℕ) → HasSlot gathered.gone j → j < slot
  pub in_turn : IsTrue new.honest
      → ReadsBefore g live t wanted slot row gathered.gone old.history new.history

-- Where the cells before slot `from` were gathered, and it is live, those before this row of this slot's chunk now are.
pub record GoesOn (g : Geometry) (t : ℕ) (wanted : CellSet) (from slot row : ℕ)
    (gathered gathered' : Gathered) (into into' : Stripe) (mid new : RackState) : Type 0 where
  pub on : (live : Slots) (was : Stripe) (old : RackState) → HasSlot live from
      → GathersBefore g live t wanted from 0 gathered was into old mid
      → GathersBefore g live t wanted slot row gathered' was into' old new

-- the wanted cells of slot j were added to the erased ones
pub record ErasesChunk (wanted : CellSet) (j : ℕ) (old new : CellSet) : Type 0 where
  pub members : (i l : ℕ) → HasCell new i l ↔ (HasCell old i l ⊎ (HasCell wanted i l × (l ≡ j)))
  pub formed : IsCellSet new
