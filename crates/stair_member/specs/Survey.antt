-- What a survey answers for what it found.
use Rattle.std.specs.Prelude.{◌≡◌, ◌⊎◌, ℕ, ◌-◌, ◌<◌, ◌≤◌, IsTrue, Result, Ok, Err}
use Rattle.stair_model.specs.Device.{first_place, second_place}
use Rattle.stair_model.specs.Geometry.{Geometry}
use Rattle.stair_model.specs.Slots.{HasSlot}
use Rattle.stair_rack.specs.Answers.{IsHistory}
use Rattle.stair_rack.specs.Media.{Image}
use Rattle.stair_rack.specs.RackCounts.{NoneFalls}
use Rattle.stair_rack.specs.Sector.{Cell}
use Rattle.stair_super.specs.Superblock.{Superblock}
use Rattle.stair_member.specs.Asked.{AsksBelow}
use Rattle.stair_member.specs.Counting.{AtMost, MoreThan}
use Rattle.stair_member.specs.Current.{IsCurrent}
use Rattle.stair_member.specs.Findings.{Findings, AreFound}
use Rattle.stair_member.specs.Membership.{Membership, IsMissing, place_of, why_of}
use Rattle.stair_member.specs.Reasons.{IsReason}
use Rattle.stair_member.specs.Superblocks.{HoldsSuper, IsSuperOf, Counts, CountsFor, Identifies, IsOnlyIdentity}
use Rattle.stair_rack.specs.RackState.{RackState}
use Rattle.stair_member.specs.declared.fault.SurveyFault.{SurveyFault}
use Rattle.stair_member.specs.declared.fault.SurveyFault.TheVariants.{NoArray, TwoArrays, TooFew}
use Rattle.stair_member.specs.declared.why.Why.TheVariants.{Here}

-- the greatest draw of the superblocks that count for the array
pub record IsGreatestDraw (g : Geometry) (image : Image) (draw : ℕ) : Type 0 where
  pub above : (j : ℕ) (s : Superblock) → Counts g image j s → s.draw ≤ draw
  pub slot : ℕ
  pub super : Superblock
  pub counts : Counts g image slot super
  pub is : super.draw ≡ draw

-- in which place of a medium with these cells its superblock lies: in the first where both hold it
pub data IsPlaceOf (cell : ℕ → Cell) (s : Superblock) : ℕ → Type 0 where
  InFirst : HoldsSuper (cell first_place) s → IsPlaceOf cell s first_place
  InSecond : HoldsSuper (cell second_place) s → ¬ HoldsSuper (cell first_place) s
      → IsPlaceOf cell s second_place

-- the place that doesn't hold the medium's superblock, where it has one
pub record IsNextPlace (cell : ℕ → Cell) (next : ℕ) : Type 0 where
  pub below : next < 2
  pub other : (s : Superblock) → IsSuperOf cell s → IsPlaceOf cell s (1 - next)

-- the array stands, and this is the lowest slot that counts for it
pub record IsLowestOf (g : Geometry) (image : Image) (slot : ℕ) : Type 0 where
  pub stands : Identifies g image
  pub counts : CountsFor g image slot
  pub lowest : (j : ℕ) → CountsFor g image j → slot ≤ j

-- two arrays stand, and these have the lowest slots of all that do, in this order
pub record AreFirstTwo (image : Image) (first second : Geometry) : Type 0 where
  pub slot : ℕ
  pub next : ℕ
  pub of_first : IsLowestOf first image slot
  pub of_second : IsLowestOf second image next
  pub order : slot < next
  pub others : (g : Geometry) (j : ℕ) → IsLowestOf g image j
      → (g ≡ first) ⊎ (g ≡ second) ⊎ (next < j)

-- The member says what was found of the one array that stands: what its current superblock names, the greatest draw, and of
-- each slot the first reason that applies and the place of its next superblock.
pub record IsSurveyed (f : Findings) (m : Membership) : Type 0 where
  pub identity : IsOnlyIdentity m.array.geometry f.image
  pub current : Superblock
  pub is_current : IsCurrent m.array.geometry f.image current
  pub array : m.array ≡ current.array
  pub drawn : IsGreatestDraw m.array.geometry f.image m.drawn
  pub reasons : (j : ℕ) → j < m.array.geometry.n
      → IsReason (HasSlot f.gone) m.array.geometry f.image current j (why_of m j)
  pub absent : (j : ℕ) → m.array.geometry.n ≤ j → j < 32 → why_of m j ≡ Here
  pub places : (j : ℕ) → j < 32 → IsNextPlace ((f.image j).cell) (place_of m j)

-- what is answered
abbrev pub IsAnswer : Findings → Result Membership SurveyFault → Type 0
IsAnswer f (Ok m) = IsSurveyed f m × AtMost m.array.geometry.m (IsMissing m)
IsAnswer f (Err NoArray) = (g : Geometry) → ¬ Identifies g f.image
IsAnswer f (Err (TwoArrays a b)) = (first second : Geometry) × AreFirstTwo f.image first second
    × (first.id ≡ a) × (second.id ≡ b)
IsAnswer f (Err (TooFew whys)) = (m : Membership) × IsSurveyed f m × (m.whys ≡ whys)
    × MoreThan m.array.geometry.m (IsMissing m)

-- What a survey does.
pub record Surveys (answer : Result Membership SurveyFault) (old new : RackState) : Type 0 where
  -- on any rack
  pub findings : Findings
  pub found : AreFound findings old new
  pub answered : IsAnswer findings answer
  pub counts : NoneFalls old.bads new.bads old.gones new.gones
  -- on an honest rack: the calls that were made
  pub began : IsTrue new.honest → IsHistory old.history
  pub asked : IsTrue new.honest → AsksBelow 32 old.history new.history
