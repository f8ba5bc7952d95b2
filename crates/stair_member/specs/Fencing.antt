-- What the laws of epochs ask of the rack when a call begins, and of what the call writes.
use Rattle.std.specs.Prelude.{◌≡◌, ◌≢◌, ℕ, ◌-◌, ◌<◌, ◌≤◌, List, [], Contains, Option, Some}
use Rattle.stair_model.specs.Device.{first_place, second_place}
use Rattle.stair_model.specs.Geometry.{Geometry}
use Rattle.stair_model.specs.Slots.{Slots, HasSlot}
use Rattle.stair_rack.specs.Answers.{IsHistory}
use Rattle.stair_rack.specs.Crash.{CrashMayLeave, EachImage}
use Rattle.stair_rack.specs.History.{Happening, slot_state}
use Rattle.stair_rack.specs.Media.{Image}
use Rattle.stair_rack.specs.Moments.{IsMoment}
use Rattle.stair_rack.specs.Offline.{IsAttached}
use Rattle.stair_rack.specs.Stretch.{NothingReturned}
use Rattle.stair_super.specs.Superblock.{Superblock, joined_at, joined_in, mark_at, mark_in}
use Rattle.stair_super.specs.declared.mark.Mark.TheVariants.{Down}
use Rattle.stair_member.specs.Aims.{admitted}
use Rattle.stair_member.specs.Counting.{AllBut}
use Rattle.stair_member.specs.Current.{IsLive, IsLost}
use Rattle.stair_member.specs.Editions.{Edition, copy_of, edition_of}
use Rattle.stair_member.specs.Epochs.{Issued, IsTaken, StandsOnDisk}
use Rattle.stair_member.specs.Establishing.{IsEstablished}
use Rattle.stair_member.specs.Membership.{Membership, IsHere, IsMembership, place_of, why_of}
use Rattle.stair_member.specs.Reserve.{Bears, HasReached, IsOrderly}
use Rattle.stair_member.specs.Superblocks.{Counts, HoldsSuper}
use Rattle.stair_member.specs.declared.aim.EpochChange.{EpochChange}
use Rattle.stair_member.specs.declared.aim.EpochChange.TheVariants.{Promote}
use Rattle.stair_member.specs.declared.why.Why.TheVariants.{Gone, Here}

-- a crash may leave slot j with a medium that bears this superblock
pub record MayBear (g : Geometry) (h : List Happening) (j : ℕ) (s : Superblock) : Type 0 where
  pub image : Image
  pub left : CrashMayLeave h image
  pub bears : Bears g j ((image j).cell) s

-- the slot is one of these, and the superblock is its copy of one of these editions
pub record IsCopy (slots : Slots) (editions : List Edition) (j : ℕ) (s : Superblock) : Type 0
  where
    pub slot : HasSlot slots j
    pub edition : Edition
    pub among : Contains editions edition
    pub is : s ≡ copy_of edition j

-- where slot j counts and no place of it is lost, it has drawn this epoch
abbrev pub HasDrawn : Geometry → Image → ℕ → ℕ → Type 0
HasDrawn g image epoch j = (s : Superblock) → Counts g image j s
    → ¬ IsLost ((image j).cell first_place) → ¬ IsLost ((image j).cell second_place)
    → epoch ≤ s.draw

-- what lies aside of a slot that takes part and is attached has the joined number that the member means
abbrev pub HaveOwnNumbers : Membership → (ℕ → Type 0) → Image → Type 0
HaveOwnNumbers m attached image = (j : ℕ) (s : Superblock) → IsHere m j → attached j
    → HoldsSuper ((image j).cell (1 - place_of m j)) s → s.joined ≡ joined_in m.array j

-- An image as a member knows the array that has looked at it, where these slots are attached: what it saw covers what the
-- media bear.
pub record IsKnownTo (joining : Option ℕ) (m : Membership) (attached : ℕ → Type 0)
    (image : Image) : Type 0 where
  pub orderly : IsOrderly m.array.geometry image
  -- no medium bears a later epoch than the member's, and that one names what the member has
  pub latest : (j : ℕ) (s : Superblock) → Bears m.array.geometry j ((image j).cell) s
      → s.array.epoch ≤ m.array.epoch
  pub named : (j : ℕ) (s : Superblock) → Bears m.array.geometry j ((image j).cell) s
      → s.array.epoch ≡ m.array.epoch → s.array ≡ m.array
  -- a slot that is here, or is to be admitted, and is attached holds no superblock of a greater draw than was seen, of
  -- whatever array
  pub drawn : (j k : ℕ) (s : Superblock) → IsTaken joining m j → attached j → k < 2
      → HoldsSuper ((image j).cell k) s → s.draw ≤ m.drawn
  -- the superblock of a slot that is here doesn't lie in the place that is written next, unless a place of it is lost
  pub aside : (j : ℕ) (s : Superblock) → IsHere m j → Counts m.array.geometry image j s
      → ¬ IsLost ((image j).cell first_place) → ¬ IsLost ((image j).cell second_place)
      → HoldsSuper ((image j).cell (1 - place_of m j)) s
  -- and whatever lies in the other place is of the admission that the member means
  pub own : HaveOwnNumbers m attached image
  -- The member's epoch is in order, though no medium may bear it any more. The slot that is to be admitted is an exception,
  -- since its superblock may be written over.
  pub reserved : AllBut m.array.geometry.n m.array.geometry.m
      (λ j. (joining ≢ Some j) × HasDrawn m.array.geometry image m.array.epoch j)
  pub reached : (i : ℕ) (s : Superblock) → Bears m.array.geometry i ((image i).cell) s
      → s.array.epoch < m.array.epoch → AllBut m.array.geometry.n m.array.geometry.m
      (λ j. (joining ≢ Some j) × HasReached m.array.geometry image s.array.epoch j)
  pub joined : (i j : ℕ) (s : Superblock) → Bears m.array.geometry i ((image i).cell) s
      → mark_at s j ≢ Down → mark_in m.array j ≢ Down → joined_at s j ≤ joined_in m.array j

-- A call begins with this member: nothing is unsynced in a superblock place, the slot that is to be admitted is Down, and the
-- member knows what a crash may leave.
pub record IsBegun (joining : Option ℕ) (m : Membership) (old : List Happening) : Type 0 where
  pub history : IsHistory old
  pub member : IsMembership m
  pub settled : (j k : ℕ) → j < m.array.geometry.n → k < 2
      → ((slot_state old j).sector k).since ≡ []
  pub down : (j : ℕ) → joining ≡ Some j → j < m.array.geometry.n → mark_in m.array j ≡ Down
  pub known : EachImage (IsKnownTo joining m (IsAttached old)) old

-- what an epoch names once it stands, in an image: its superblocks are current, and the slots that are live are here
pub record IsNamedBy (last : Membership) (image : Image) (current : Superblock) : Type 0 where
  pub array : current.array ≡ last.array
  pub live : (j : ℕ) → IsLive last.array.geometry image current j → why_of last j ≡ Here

-- A moment h of a call that began with the member m and ended with `last`, up to which no removed medium came back.
pub record IsFencing (aim : EpochChange) (gone : Slots) (m last : Membership)
    (old h new : List Happening) : Type 0 where
  pub begun : IsBegun (admitted aim) m old
  pub moment : IsMoment old h new
  pub issued : Issued aim gone m last old new
  pub returned : NothingReturned old h

-- An epoch stands at the end of a call.
pub record HasStood (aim : EpochChange) (gone : Slots) (m last : Membership) (old new : List Happening)
    : Type 0 where
  pub fencing : IsFencing aim gone m last old new new
  pub member : IsMembership last
  pub established : IsEstablished aim m last gone
  pub dropped : (j : ℕ) → HasSlot gone j → why_of last j ≡ Gone
  pub among : Contains fencing.issued.editions (edition_of last)
  pub on_disk : StandsOnDisk (admitted aim) last old new
  -- the slot that is promoted was here
  pub promoted : (slot : ℕ) → aim ≡ Promote slot → IsHere m slot

-- What is asked of the slot that the next call is to admit: it isn't here, and where it is attached its medium holds no
-- greater draw than was seen.
pub record MayJoin (next : Option ℕ) (last : Membership) (h : List Happening) : Type 0 where
  pub absent : (j : ℕ) → next ≡ Some j → ¬ IsHere last j
  pub drawn : EachImage (λ image. (j k : ℕ) (s : Superblock) → next ≡ Some j → IsAttached h j
      → k < 2 → HoldsSuper ((image j).cell k) s → s.draw ≤ last.drawn) h
