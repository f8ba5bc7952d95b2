-- What a crash may leave of a rack, and of a medium that is pulled.
use Rattle.std.specs.Prelude.{◌≡◌, ℕ, List, Some}
use Rattle.stair_rack.specs.Sector.{MayLeave, content}
use Rattle.stair_rack.specs.Media.{Medium, SlotImage, Image}
use Rattle.stair_rack.specs.History.{Happening, SlotState, slot_state}

-- a crash may leave this of the slot: of each sector one of the cells that it may leave, whatever it leaves of the others
pub record SlotMayLeave (b : SlotState) (image : SlotImage) : Type 0 where
  pub size : image.size ≡ b.size
  pub each : (k : ℕ) → MayLeave (b.sector k) (image.cell k)
  pub removed : image.removed ≡ b.removed

-- a crash now may leave this image
abbrev pub CrashMayLeave : List Happening → Image → Type 0
CrashMayLeave h image = (j : ℕ) → SlotMayLeave (slot_state h j) (image j)

-- of every image that a crash now may leave, the image now among them
abbrev pub EachImage : (Image → Type 0) → List Happening → Type 0
EachImage P h = (image : Image) → CrashMayLeave h image → P image

-- the image now: what reads find
abbrev pub image_now : List Happening → Image
image_now h j = let b = slot_state h j in record {
  size = b.size;
  cell = λ k. content (b.sector k);
  removed = b.removed;
}

-- a medium that is pulled from the slot settles as this one, each sector as in a crash
pub record Settles (b : SlotState) (m : Medium) : Type 0 where
  pub size : b.size ≡ Some m.size
  pub each : (k : ℕ) → MayLeave (b.sector k) (m.cell k)
