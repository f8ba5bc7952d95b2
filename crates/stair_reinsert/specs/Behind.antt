-- What holds after the superblock places when a call begins that establishes an epoch: of the media that hold chunks, of those
-- that are rebuilt, and of those in use, to which the call may write a superblock.
use Rattle.std.specs.Prelude.{◌≡◌, ℕ, List, Some}
use Rattle.stair_model.specs.Geometry.{Geometry}
use Rattle.stair_model.specs.Slots.{HasSlot, Slots}
use Rattle.stair_rack.specs.Crash.{EachImage, image_now}
use Rattle.stair_rack.specs.History.{Happening}
use Rattle.stair_rack.specs.Media.{Image, SlotImage}
use Rattle.stair_rack.specs.Offline.{IsAttached}
use Rattle.stair_super.specs.Superblock.{Superblock, joined_at, joined_in, mark_at, mark_in}
use Rattle.stair_super.specs.declared.mark.Mark.TheVariants.{Rebuilding}
use Rattle.stair_member.specs.Aims.{admitted}
use Rattle.stair_member.specs.Membership.{IsHere, Membership}
use Rattle.stair_member.specs.Reserve.{Bears}
use Rattle.stair_member.specs.declared.aim.EpochChange.{EpochChange}
use Rattle.stair_journal.specs.declared.redo.Redo.{Redo}
use Rattle.stair_state.specs.Degraded.{AreDamagedCopies}
use Rattle.stair_state.specs.Forms.{HasGate, IsOpen, RepresentsBy}
use Rattle.stair_state.specs.Holding.{CurrentMedia, IsBorneSince}
use Rattle.stair_state.specs.Reassembly.{IsReassembly}
use Rattle.stair_state.specs.Represents.{Encodings, IsLargeEnough}
use Rattle.stair_state.specs.State.{State}

-- The medium of slot j in a reassembly has this joined number: it bears a superblock with it; or it is the one in use that the
-- member means by it, whether it can be read there or not.
pub data HasNumber (g : Geometry) (m : Membership) (h : List Happening) (from to : SlotImage)
    (j n : ℕ) : Type 0 where
  Bearing : (s : Superblock) → Bears g j to.cell s → s.joined ≡ n → HasNumber g m h from to j n
  InUse : IsHere m j → IsAttached h j → n ≡ joined_in m.array j → to.size ≡ from.size
      → AreDamagedCopies from.cell to.cell → HasNumber g m h from to j n

-- it has that of the slot's holder
pub record HasCurrentMedium (g : Geometry) (current_media : CurrentMedia) (m : Membership) (h : List Happening)
    (from to : SlotImage) (j : ℕ) : Type 0 where
  pub joined : ℕ
  pub current_medium : current_media j ≡ Some joined
  pub number : HasNumber g m h from to j joined

-- slot j is rebuilt by the medium with this joined number: an epoch since `since`, or the member's, marks it so
pub data IsRebuiltAs (g : Geometry) (since : ℕ) (m : Membership) (h : List Happening) (j n : ℕ)
    : Type 0 where
  ByMedium : (a : Superblock) → IsBorneSince g since (image_now h) a → mark_at a j ≡ Rebuilding
      → joined_at a j ≡ n → IsRebuiltAs g since m h j n
  ByMember : mark_in m.array j ≡ Rebuilding → joined_in m.array j ≡ n → IsRebuiltAs g since m h j n

-- However media lie: what `forms`, `full` and `rebuilding` of an image that is consistent by its holders say is so of the media in
-- use too.
pub record IsKnownBehind (s : State) (encodings : Encodings s) (current_media : CurrentMedia) (since : ℕ)
    (aim : EpochChange) (m : Membership) (h : List Happening) : Type 0 where
  pub forms : EachImage (λ image. (to : Image) (some : Slots)
      → IsReassembly image to
      → ((j : ℕ) → HasSlot some j → HasCurrentMedium s.geometry current_media m h (image j) (to j) j)
      → HasGate (HasSlot some) to
      → RepresentsBy s.geometry encodings.old encodings.new (HasSlot some) to) h
  pub full : EachImage (λ image. (to : Image) (j : ℕ) → IsReassembly image to
      → HasCurrentMedium s.geometry current_media m h (image j) (to j) j → IsLargeEnough s.geometry (to j).size) h
  pub rebuilding : EachImage (λ image. (to : Image) (j n : ℕ) (redo : Redo)
      → IsReassembly image to → IsRebuiltAs s.geometry since m h j n
      → HasNumber s.geometry m h (image j) (to j) j n → ¬ IsOpen s.geometry to j redo) h
  -- nor is the gate of a slot that is to be admitted open
  pub laid : EachImage (λ image. (j : ℕ) (redo : Redo) → admitted aim ≡ Some j → IsAttached h j
      → ¬ IsOpen s.geometry image j redo) h
