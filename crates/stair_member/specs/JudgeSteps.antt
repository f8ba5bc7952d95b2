-- What is kept of what was seen of the slots, and what bears it out.
use Rattle.std.specs.Prelude.{◌≡◌, ◌≢◌, ◌⊎◌, ◌<◌, ◌≤◌, ℕ, Bool, IsTrue, List, Option, None, Some, if◌then◌else◌, length, nat_le, slice_index, slice_index_or}
use Rattle.stair_model.specs.Geometry.{Geometry}
use Rattle.stair_rack.specs.Answers.{Ran, any_call}
use Rattle.stair_rack.specs.History.{Happening}
use Rattle.stair_rack.specs.Media.{Image}
use Rattle.stair_rack.specs.Offline.{IsHeld}
use Rattle.stair_rack.specs.Sector.{Cell}
use Rattle.stair_super.specs.Superblock.{Superblock, joined_at, mark_at}
use Rattle.stair_super.specs.declared.mark.Mark.TheVariants as mark
use Rattle.stair_member.specs.Current.{IsCurrent}
use Rattle.stair_member.specs.Asked.{FindsWithin}
use Rattle.stair_member.specs.Findings.{Findings, AreFound, IsPlaceFound}
use Rattle.stair_member.specs.Superblocks.{HasSuper, IsSuperOf, Counts, CountsFor, Identifies}
use Rattle.stair_member.specs.Survey.{IsNextPlace, IsLowestOf}
use Rattle.stair_rack.specs.RackState.{RackState, IsFoundGone}
use Rattle.stair_member.specs.declared.surveying.Sights.{Sights}
use Rattle.stair_member.specs.declared.why.Why.{Why}
use Rattle.stair_member.specs.declared.why.Why.TheVariants.{Here, Gone, NoSuper, OtherArray, OtherSlot, MarkedDown, OtherJoined, Rebuilding}

-- ONE SLOT

-- the superblock of a medium with these cells, None where it has none
abbrev pub IsNewest : (ℕ → Cell) → Option Superblock → Type 0
IsNewest cell None = ¬ HasSuper cell
IsNewest cell (Some s) = IsSuperOf cell s

-- what slot j was found to hold
pub record IsSight (j : ℕ) (old new : RackState) (block : Option Superblock) (place : ℕ)
    (lost : Bool) : Type 0 where
  pub cell : ℕ → Cell
  pub places : (k : ℕ) → k < 2 → IsPlaceFound (IsTrue lost) j k old new (cell k)
  pub finds : IsTrue new.honest → FindsWithin (IsTrue lost) j cell old.history new.history
  pub newest : IsNewest cell block
  pub next : IsNextPlace cell place
  pub gone : IsTrue lost → IsFoundGone j old new
  pub held : IsTrue new.honest → ¬ IsTrue lost → (before : List Happening)
      → Ran any_call before old.history → IsHeld before new.history j

-- ALL SLOTS

abbrev pub newest_at : List (Option Superblock) → ℕ → Option Superblock
newest_at found j = slice_index_or found j None

-- these are the superblocks of the image's media
pub record Shows (found : List (Option Superblock)) (image : Image) : Type 0 where
  pub each : (j : ℕ) → j < 32 → IsNewest ((image j).cell) (newest_at found j)

-- what was seen is what these findings say
pub record Tells (sights : Sights) (f : Findings) : Type 0 where
  pub gone : f.gone ≡ sights.gone
  pub shows : Shows sights.newest f.image
  pub next : (j : ℕ) → j < 32 → IsNextPlace ((f.image j).cell) (slice_index sights.next j)
  pub size : length sights.next ≡ 32

-- all slots were looked at
pub record AreSights (sights : Sights) (old new : RackState) : Type 0 where
  pub findings : Findings
  pub found : AreFound findings old new
  pub tells : Tells sights findings

-- WHAT THE SUPERBLOCKS SAY

-- the superblock by which slot j counts for whatever array, None where it counts for none
abbrev pub IsCounting : Image → ℕ → Option Superblock → Type 0
IsCounting image j None = (g : Geometry) → ¬ CountsFor g image j
IsCounting image j (Some s) = Counts s.array.geometry image j s

-- the superblock by which slot j counts for this array, None where it doesn't
abbrev pub IsCountingFor : Geometry → Image → ℕ → Option Superblock → Type 0
IsCountingFor g image j None = ¬ CountsFor g image j
IsCountingFor g image j (Some s) = Counts g image j s

-- the array, but for this one, that stands and for which slot j counts
abbrev pub StandsAt : Option Geometry → Image → ℕ → Option Geometry → Type 0
StandsAt but image j None = (g : Geometry) → CountsFor g image j → Identifies g image → but ≡ Some g
StandsAt but image j (Some g) = (but ≢ Some g) × CountsFor g image j × Identifies g image

-- of the arrays that stand, but for this one, the one of the lowest slot
abbrev pub IsFirst : Option Geometry → Image → Option Geometry → Type 0
IsFirst but image None = (g : Geometry) → Identifies g image → but ≡ Some g
IsFirst but image (Some g) = (slot : ℕ) × IsLowestOf g image slot × (but ≢ Some g)
    × ((other : Geometry) (j : ℕ) → IsLowestOf other image j → (but ≡ Some other) ⊎ (slot ≤ j))

-- the current superblock, None where none counts for the array
abbrev pub IsCurrentOf : Geometry → Image → Option Superblock → Type 0
IsCurrentOf g image None = (j : ℕ) → ¬ CountsFor g image j
IsCurrentOf g image (Some s) = IsCurrent g image s

-- the one of the greater epoch, and the first at a tie
abbrev pub later_super : Option Superblock → Superblock → Option Superblock
later_super None b = Some b
later_super (Some a) b = if nat_le b.array.epoch a.array.epoch then Some a else Some b

-- The reason of a slot that counts for the array by this superblock, by its mark and its joined number.
abbrev pub IsReasonByMark : Superblock → Superblock → ℕ → Why → Type 0
IsReasonByMark s current j MarkedDown = mark_at current j ≡ mark.Down
IsReasonByMark s current j OtherJoined = (mark_at current j ≢ mark.Down)
    × (s.joined ≢ joined_at current j)
IsReasonByMark s current j Rebuilding = (mark_at current j ≡ mark.Rebuilding)
    × (s.joined ≡ joined_at current j)
IsReasonByMark s current j Here = (mark_at current j ≡ mark.Live)
    × (s.joined ≡ joined_at current j)
IsReasonByMark s current j Gone = ⊥
IsReasonByMark s current j NoSuper = ⊥
IsReasonByMark s current j OtherArray = ⊥
IsReasonByMark s current j OtherSlot = ⊥
