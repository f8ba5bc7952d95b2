-- Media that lie in other ways: each slot may get any of its own.
use Rattle.std.specs.Prelude.{◌≡◌, ◌+◌, ◌==◌, ◌≤◌, ℕ, false, if◌then◌else◌, None, Some, nat_lt, slice_get}
use Rattle.stair_model.specs.Geometry.{Geometry}
use Rattle.stair_rack.specs.Media.{Image, Medium, SlotImage, has_sector}
use Rattle.stair_rack.specs.Sector.{Damaged}
use Rattle.stair_super.specs.Superblock.{Superblock, joined_at, mark_at}
use Rattle.stair_super.specs.declared.mark.Mark.TheVariants.{Live}
use Rattle.stair_member.specs.Current.{IsCurrent, Serves}
use Rattle.stair_member.specs.Reserve.{Bears}
use Rattle.stair_state.specs.Degraded.{AreAllDamaged, AreDamagedCopies}
use Rattle.stair_state.specs.Represents.{Encodings, ImageRepresents}
use Rattle.stair_state.specs.State.{State}
use Rattle.stair_state.specs.Tolerance.{IsToleratedAlone}

-- where a medium of a slot lies: in the slot, or outside, as this one of those that were pulled from it, counted from 0
pub data Location : Type 0 where
  InSlot : Location
  Outside : ℕ → Location

-- the slot's medium that lies there
abbrev pub IsMediumOf : SlotImage → Location → Medium → Type 0
IsMediumOf slot InSlot medium = (slot.size ≡ Some medium.size) × (slot.cell ≡ medium.cell)
IsMediumOf slot (Outside i) medium = slice_get slot.removed i ≡ Some medium

-- where the medium lay, before the slot's one was pulled and put after so many others, that lies there after it
abbrev pub before_pull : ℕ → Location → Location
before_pull count InSlot = Outside count
before_pull count (Outside i) = if i == count then InSlot else Outside i

-- and before this one of them was put back, and those after it moved up
abbrev pub before_return : ℕ → Location → Location
before_return i InSlot = Outside i
before_return i (Outside k) = Outside (if nat_lt k i then k else k + 1)

-- a slot gets one of its media, some of whose cells may be damaged, a blank one, or none
pub data IsReassembledSlot (from to : SlotImage) : Type 0 where
  OneOf : (place : Location) (medium : Medium) → IsMediumOf from place medium
      → to.size ≡ Some medium.size → AreDamagedCopies medium.cell to.cell
      → ((k : ℕ) → has_sector to.size k ≡ false → to.cell k ≡ Damaged)
      → IsReassembledSlot from to
  Unwritten : (size : ℕ) → to.size ≡ Some size → AreAllDamaged to.cell → IsReassembledSlot from to
  Empty : to.size ≡ None → AreAllDamaged to.cell → IsReassembledSlot from to

abbrev pub IsReassembly : Image → Image → Type 0
IsReassembly from to = (j : ℕ) → IsReassembledSlot (from j) (to j)

-- the medium of slot j that lies there bears this superblock of the array for the slot
pub record IsBorne (g : Geometry) (image : Image) (j : ℕ) (place : Location) (s : Superblock)
    : Type 0 where
  pub medium : Medium
  pub is_one : IsMediumOf (image j) place medium
  pub bears : Bears g j medium.cell s

-- slot j of the reassembled image serves, and its draw is at least every epoch that a medium of the image bears
pub record HasDrawAbove (g : Geometry) (image to : Image) (current : Superblock) (j : ℕ)
    : Type 0 where
  pub serves : Serves (λ k. (to k).size ≡ None) g to current j
  pub above : (i : ℕ) (place : Location) (s : Superblock) → IsBorne g image i place s
      → s.array.epoch ≤ serves.live.super.draw

-- The image is consistent under reassembly, marks and joined numbers of the state aside.
pub record IsConsistent (s : State) (encodings : Encodings s) (image : Image) : Type 0 where
  -- however its media lie, as long as that alone is within tolerance, the image represents the state
  pub each : (to : Image) → IsReassembly image to → IsToleratedAlone s.geometry to
      → ImageRepresents s encodings to
  -- an epoch names one configuration
  pub one_list : (i j : ℕ) (p q : Location) (a b : Superblock) → IsBorne s.geometry image i p a
      → IsBorne s.geometry image j q b → a.array.epoch ≡ b.array.epoch → a.array ≡ b.array
  -- no two media of a slot have one joined number
  pub own_joined : (j : ℕ) (p q : Location) (a b : Superblock) → IsBorne s.geometry image j p a
      → IsBorne s.geometry image j q b → a.joined ≡ b.joined → p ≡ q
  -- where a slot is marked live twice, it is with one joined number
  pub same_joined : (to also : Image) (a b : Superblock) (j : ℕ) → IsReassembly image to
      → IsReassembly image also → IsToleratedAlone s.geometry to
      → IsToleratedAlone s.geometry also → IsCurrent s.geometry to a
      → IsCurrent s.geometry also b → mark_at a j ≡ Live → mark_at b j ≡ Live
      → joined_at a j ≡ joined_at b j
  -- every epoch was drawn on a slot that serves, however the media lie
  pub drawn : (to : Image) (current : Superblock) → IsReassembly image to
      → IsToleratedAlone s.geometry to → IsCurrent s.geometry to current
      → (j : ℕ) × HasDrawAbove s.geometry image to current j
