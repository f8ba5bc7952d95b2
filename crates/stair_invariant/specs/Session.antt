-- What a session keeps of an array between the calls that touch its devices, whichever media come back.
use Rattle.std.specs.Prelude.{◌≡◌, ◌⊎◌, ◌-◌, ◌<◌, ◌≤◌, ℕ, List, [], Option, None, Some, ⊤}
use Rattle.stair_model.specs.Geometry.{Geometry}
use Rattle.stair_model.specs.Stripe.{Stripe}
use Rattle.stair_rack.specs.Answers.{Ran, any_call}
use Rattle.stair_rack.specs.History.{Happening, slot_state}
use Rattle.stair_rack.specs.Offline.{IsAttached, IsHeld}
use Rattle.stair_rack.specs.Placed.{IsSlot}
use Rattle.stair_rack.specs.Sector.{Good, Sector, content, damaged, settled}
use Rattle.stair_super.specs.Newer.{IsOlder}
use Rattle.stair_super.specs.Spelling.{spelled}
use Rattle.stair_super.specs.Superblock.{Superblock, joined_in, mark_in}
use Rattle.stair_super.specs.declared.configuration.Configuration.{Configuration}
use Rattle.stair_member.specs.Aims.{mark_for}
use Rattle.stair_member.specs.Counting.{AtMost}
use Rattle.stair_member.specs.Editions.{copy_of}
use Rattle.stair_member.specs.Membership.{IsHere, IsMembership, IsMissing, Membership, place_of, why_of}
use Rattle.stair_member.specs.Seats.{Seats}
use Rattle.stair_member.specs.Superblocks.{HoldsSuper}
use Rattle.stair_member.specs.declared.fault.FenceFault.{FenceFault}
use Rattle.stair_member.specs.declared.why.Why.TheVariants.{Here, Rebuilding}
use Rattle.stair_journal.specs.declared.redo.Redo.{Redo}
use Rattle.stair_state.specs.Blocks.{Codewords}
use Rattle.stair_state.specs.Recovering.{IsShut}
use Rattle.stair_state.specs.Redoing.{AtRest, IsIn}
use Rattle.stair_state.specs.Represents.{IsLargeEnough}
use Rattle.stair_invariant.specs.Rebuilding.{IsRebuiltTo, Rebuild}

-- a stripe as it was restored
pub record Remembered : Type 0 where
  pub stripe : ℕ
  pub cells : Stripe

-- What contracts see of an array: what it knows of its slots, how far a rebuild has come, by which refusal of an epoch it was
-- stopped, and the stripe that it remembers.
pub record ArrayState : Type 0 where
  pub member : Membership
  pub rebuild : Option Rebuild
  pub stopped : Option FenceFault
  pub remembered : Option Remembered

-- what is remembered is one of these stripes
abbrev pub IsRememberedIn : Codewords → Option Remembered → Type 0
IsRememberedIn words None = ⊤
IsRememberedIn words (Some one) = one.cells ≡ words one.stripe

-- slot j is live to it, and it takes part as one that is rebuilt
pub record IsLiveIn (m : Membership) (j : ℕ) : Type 0 where
  pub below : j < m.array.geometry.n
  pub why : why_of m j ≡ Here

pub record IsRebuiltIn (m : Membership) (j : ℕ) : Type 0 where
  pub below : j < m.array.geometry.n
  pub why : why_of m j ≡ Rebuilding

-- What is so of an open array that wasn't stopped, on any rack: its epoch says what the session knows of its slots, enough of
-- them are live, and a slot that it rebuilds takes part as one that is rebuilt.
pub record IsArray (a : ArrayState) : Type 0 where
  pub member : IsMembership a.member
  pub marks : (j : ℕ) → j < a.member.array.geometry.n
      → mark_in a.member.array j ≡ mark_for (why_of a.member j)
  pub enough : AtMost a.member.array.geometry.m (IsMissing a.member)
  pub rebuilds : (rebuild : Rebuild) → a.rebuild ≡ Some rebuild
      → IsRebuiltIn a.member rebuild.slot × (rebuild.stripe ≤ a.member.array.geometry.stripes)

-- the seats that an epoch names
abbrev pub seats_in : Configuration → Seats
seats_in array j = record { mark = mark_in array j; joined = joined_in array j }

-- The slot holds these stripes, its gate is closed, whatever redo comes next, and its medium is large enough.
pub record ServesSlot (g : Geometry) (words : Codewords) (h : List Happening) (j : ℕ) : Type 0
  where
    pub rests : (redo : Redo) (new : Codewords)
        → IsIn (record { geometry = g; redo = redo; old = words; new = new }) AtRest (IsSlot j) h h
    pub large : IsLargeEnough g (slot_state h j).size

-- the superblock of slot j that names what the member's epoch does, with this draw
abbrev pub own_super : Membership → ℕ → ℕ → Superblock
own_super m draw j = copy_of (record { array = m.array; draw = draw }) j

-- it is on the disk
abbrev pub IsOwnSector : Membership → ℕ → ℕ → Sector → Type 0
IsOwnSector m draw j s = s ≡ settled (Good (spelled (own_super m draw j)))

-- Slot j has its superblock of the member's epoch in the place that isn't written next, unless that was damaged, and nothing
-- is unsynced in either place.
pub record HasOwn (m : Membership) (h : List Happening) (j : ℕ) : Type 0 where
  pub draw : ℕ
  pub reached : m.array.epoch ≤ draw
  pub seen : draw ≤ m.drawn
  pub own : ((slot_state h j).sector (1 - place_of m j) ≡ damaged)
      ⊎ IsOwnSector m draw j ((slot_state h j).sector (1 - place_of m j))
  -- the other place holds none that is newer
  pub newest : (other : Superblock)
      → HoldsSuper (content ((slot_state h j).sector (place_of m j))) other
      → ¬ IsOlder (own_super m draw j) other
  pub settled_both : (k : ℕ) → k < 2 → ((slot_state h j).sector k).since ≡ []

-- In a session that began at `before`: between the calls of an array that holds these stripes, its epoch stands.
pub record IsOpenWith (before : List Happening) (a : ArrayState) (words : Codewords)
    (h : List Happening) : Type 0 where
  pub array : IsArray a
  pub ran : Ran any_call before h
  -- each slot that takes part is attached to its medium, or offline since the session began
  pub held : (j : ℕ) → IsHere a.member j → IsHeld before h j
  -- and while it is attached it has its superblock,
  pub own : (j : ℕ) → IsHere a.member j → IsAttached h j → HasOwn a.member h j
  -- the stripes where it is live,
  pub live : (j : ℕ) → IsLiveIn a.member j → IsAttached h j
      → ServesSlot a.member.array.geometry words h j
  -- a closed gate where it is rebuilt, and those of its chunks that the rebuild has come to
  pub shut : (j : ℕ) → IsRebuiltIn a.member j → IsAttached h j
      → IsShut a.member.array.geometry h h j
  pub rebuilt : (rebuild : Rebuild) → a.rebuild ≡ Some rebuild → IsAttached h rebuild.slot
      → IsRebuiltTo a.member.array.geometry words rebuild.slot rebuild.stripe h h
