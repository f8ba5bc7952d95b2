-- Which medium lies where. Media are told apart by names, which they keep as they move.
use Rattle.std.specs.Prelude.{◌≡◌, ◌==◌, ℕ, List, [], ◌∷◌, if◌then◌else◌, length}
use Rattle.stair_rack.specs.Crash.{EachImage, SlotMayLeave}
use Rattle.stair_rack.specs.History.{Acted, Called, Happening, InsertedBlank, InsertedOld, Made, Pulled, SectorDamaged, SlotAct, SlotState, Stopped, slot_state}
use Rattle.stair_rack.specs.Media.{Image, Medium, SlotImage}
use Rattle.stair_rack.specs.Sector.{Cell}
use Rattle.stair_state.specs.Degraded.{AreAllDamaged, AreDamagedCopies}
use Rattle.stair_state.specs.Reassembly.{IsMediumOf, Location, before_pull, before_return}

-- where the medium lay, before an act, that lies there after it
abbrev pub before_act : SlotAct → SlotState → Location → Location
before_act (Pulled m) b p = before_pull (length b.removed) p
before_act (InsertedBlank size) b p = p
before_act (InsertedOld i) b p = before_return i p
before_act (SectorDamaged k) b p = p

-- The name of slot j's medium that lies there at h: where it lay when the rack was made. A blank medium that was put in since
-- has one that no other medium of the slot has.
abbrev pub name_of : List Happening → ℕ → Location → Location
name_of [] j p = p
name_of (Made image ∷ h) j p = p
name_of (Stopped ∷ h) j p = name_of h j p
name_of (Acted i act ∷ h) j p = if i == j then name_of h j (before_act act (slot_state h j) p)
    else name_of h j p
name_of (Called i call ∷ h) j p = name_of h j p

-- of the cells of slot j's medium of this name Q holds in the image, wherever it lies
abbrev pub OfNamed : List Happening → ℕ → Location → ((ℕ → Cell) → Type 0) → Image → Type 0
OfNamed h j name Q image = (p : Location) (medium : Medium) → IsMediumOf (image j) p medium
    → name_of h j p ≡ name → Q medium.cell

-- and in whatever a crash at h may leave
abbrev pub Wherever : List Happening → ℕ → Location → ((ℕ → Cell) → Type 0) → Type 0
Wherever h j name Q = EachImage (OfNamed h j name Q) h

-- It holds of a medium's cells also once some were damaged, and of those of a medium that was never written.
pub record SurvivesDamage (Q : (ℕ → Cell) → Type 0) : Type 0 where
  pub harmed : (was is : ℕ → Cell) → AreDamagedCopies was is → Q was → Q is
  pub blank : (cell : ℕ → Cell) → AreAllDamaged cell → Q cell

-- These are the cells of the medium of slot j that had this name at `old`, of which some may be damaged; or of one that was
-- never written.
pub data AreOfNamed (old : List Happening) (j : ℕ) (name : Location) (cell : ℕ → Cell) : Type 0
  where
    Kept : (was : SlotImage) (place : Location) (medium : Medium)
        → SlotMayLeave (slot_state old j) was → IsMediumOf was place medium
        → name_of old j place ≡ name → AreDamagedCopies medium.cell cell
        → AreOfNamed old j name cell
    Blank : AreAllDamaged cell → AreOfNamed old j name cell

-- Slot j of a reassembled image holds a copy of the slot's medium of this name, of whose cells some may be damaged.
pub record HoldsNamed (h : List Happening) (image to : Image) (name : Location) (j : ℕ)
    : Type 0 where
  pub place : Location
  pub medium : Medium
  pub is_one : IsMediumOf (image j) place medium
  pub named : name_of h j place ≡ name
  pub copies : AreDamagedCopies medium.cell ((to j).cell)
