-- What is known of an array and of its slots in a session.
use Rattle.std.specs.Prelude.{◌≡◌, ◌≢◌, ◌⊎◌, ℕ, ◌<◌, ◌≤◌, ◌^◌, List, length, slice_index, slice_index_or, ⊤}
use Rattle.stair_super.specs.Label.{IsLabel}
use Rattle.stair_super.specs.Superblock.{IsConfiguration, mark_in}
use Rattle.stair_super.specs.declared.configuration.Configuration.{Configuration}
use Rattle.stair_super.specs.declared.mark.Mark.{Mark}
use Rattle.stair_super.specs.declared.mark.Mark.TheVariants as mark
use Rattle.stair_member.specs.declared.why.Why.{Why}
use Rattle.stair_member.specs.declared.why.Why.TheVariants.{Here, Rebuilding}

pub record Membership : Type 0 where
  -- what the array's epoch names
  pub array : Configuration
  -- the greatest draw that was seen
  pub drawn : ℕ
  -- for each slot why it isn't here, or that it is
  pub whys : List Why
  -- for each slot the place that its next superblock is written to
  pub places : List ℕ

-- by its fields
abbrev pub member_of : Configuration → ℕ → List Why → List ℕ → Membership
member_of array drawn whys places =
    record { array = array; drawn = drawn; whys = whys; places = places }

abbrev pub why_of : Membership → ℕ → Why
why_of m j = slice_index_or m.whys j Here

abbrev pub place_of : Membership → ℕ → ℕ
place_of m j = slice_index m.places j

-- the slot takes part: it is live, or rebuilt
pub record IsHere (m : Membership) (j : ℕ) : Type 0 where
  pub below : j < m.array.geometry.n
  pub why : (why_of m j ≡ Here) ⊎ (why_of m j ≡ Rebuilding)

-- a slot below n that isn't live
pub record IsMissing (m : Membership) (j : ℕ) : Type 0 where
  pub below : j < m.array.geometry.n
  pub why : why_of m j ≢ Here

-- the mark that a slot has for this reason
abbrev pub IsMarkedFor : Why → Mark → Type 0
IsMarkedFor Here marked = marked ≡ mark.Live
IsMarkedFor Rebuilding marked = marked ≡ mark.Rebuilding
IsMarkedFor _ marked = ⊤

-- the fields have the sizes of their types
pub record HasMemberSizes (m : Membership) : Type 0 where
  pub id : length m.array.geometry.id ≡ 16
  pub drawn : m.drawn < 2 ^ 64
  pub marks : length m.array.marks ≡ 32
  pub joins : length m.array.joins ≡ 32
  pub label : IsLabel m.array.label
  pub whys : length m.whys ≡ 32
  pub places : length m.places ≡ 32

pub record IsMembership (m : Membership) : Type 0 where
  pub sizes : HasMemberSizes m
  pub array : IsConfiguration m.array
  pub known : m.array.epoch ≤ m.drawn
  -- slots that the array hasn't have no reason
  pub absent : (j : ℕ) → m.array.geometry.n ≤ j → j < 32 → why_of m j ≡ Here
  pub marked : (j : ℕ) → j < m.array.geometry.n → IsMarkedFor (why_of m j) (mark_in m.array j)
  pub places : (j : ℕ) → j < 32 → place_of m j < 2
