-- What a survey found of the slots of a rack, and what bears it out.
use Rattle.std.specs.Prelude.{◌≡◌, ◌<◌, ℕ, IsTrue, List}
use Rattle.stair_model.specs.Slots.{Slots, HasSlot, IsSlotSet}
use Rattle.stair_rack.specs.Answers.{Ran, any_call}
use Rattle.stair_rack.specs.History.{Happening}
use Rattle.stair_rack.specs.Media.{Image}
use Rattle.stair_rack.specs.Offline.{IsHeld}
use Rattle.stair_rack.specs.Sector.{Cell, Damaged}
use Rattle.stair_rack.specs.RackState.{RackState, IsFoundGone, IsReading}
use Rattle.stair_member.specs.Asked.{FindsWithin}

-- What was read is itself an image: the cells of each slot's superblock places, damaged where nothing could be read. Which
-- array stands, its current superblock and its live slots are those of this image.
pub record Findings : Type 0 where
  pub image : Image
  -- the slots that were gone
  pub gone : Slots

-- What a superblock place was found to hold: it was read; or nothing is known of it, since the slot was gone.
pub data IsPlaceFound (gone : Type 0) (j k : ℕ) (old new : RackState) (cell : Cell) : Type 0 where
  Read : IsReading j k old new cell → IsPlaceFound gone j k old new cell
  Unread : gone → cell ≡ Damaged → IsPlaceFound gone j k old new cell

-- what was found of slot j
pub record IsFound (f : Findings) (j : ℕ) (old new : RackState) : Type 0 where
  pub places : (k : ℕ) → k < 2
      → IsPlaceFound (HasSlot f.gone j) j k old new ((f.image j).cell k)
  -- on an honest rack: by its calls, each place as its one read found it
  pub finds : IsTrue new.honest
      → FindsWithin (HasSlot f.gone j) j ((f.image j).cell) old.history new.history
  pub gone : HasSlot f.gone j → IsFoundGone j old new
  -- a slot that wasn't gone is held, in whatever session this happened
  pub held : IsTrue new.honest → ¬ HasSlot f.gone j → (before : List Happening)
      → Ran any_call before old.history → IsHeld before new.history j

-- what was found of all slots
pub record AreFound (f : Findings) (old new : RackState) : Type 0 where
  pub formed : IsSlotSet f.gone
  pub each : (j : ℕ) → j < 32 → IsFound f j old new
