-- How a member changes while an epoch is established.
use Rattle.std.specs.Prelude.{◌≡◌, ◌⊎◌, ℕ, ◌+◌, ◌-◌, ◌<◌, ◌≤◌, List, length, ◌==◌, if◌then◌else◌, slice_index_or, slice_set, ⊤}
use Rattle.stair_super.specs.Superblock.{Superblock, joined_in, mark_in}
use Rattle.stair_super.specs.declared.configuration.Configuration.{Configuration}
use Rattle.stair_super.specs.declared.mark.Mark.{Mark}
use Rattle.stair_super.specs.declared.mark.Mark.TheVariants as mark
use Rattle.stair_member.specs.Editions.{copy_of, edition_of}
use Rattle.stair_member.specs.Aims.{aimed, frozen_then, label_then, mark_for}
use Rattle.stair_member.specs.Membership.{Membership, place_of, why_of}
use Rattle.stair_member.specs.declared.aim.EpochChange.{EpochChange}
use Rattle.stair_member.specs.declared.aim.EpochChange.TheVariants.{Fence, Admit, Promote, Stamp}
use Rattle.stair_member.specs.declared.why.Why.{Why}
use Rattle.stair_member.specs.declared.why.Why.TheVariants.{Here, Gone, Rebuilding}

-- the slot is live
pub record IsLiveSlot (m : Membership) (j : ℕ) : Type 0 where
  pub below : j < m.array.geometry.n
  pub why : why_of m j ≡ Here

-- the superblock that slot j is given now
abbrev pub issue : Membership → ℕ → Superblock
issue m j = copy_of (edition_of m) j

abbrev pub with_draw : Membership → Membership
with_draw m = record m { drawn = m.drawn + 1 }

abbrev pub without : Membership → ℕ → Membership
without m j = record m { whys = slice_set m.whys j Gone }

abbrev pub turned : Membership → ℕ → Membership
turned m j = record m { places = slice_set m.places j (1 - place_of m j) }

-- the joined number of a slot with this mark, in this epoch
abbrev pub joined_up : EpochChange → ℕ → ℕ → ℕ → ℕ
joined_up (Admit slot) epoch j joined = if j == slot then epoch else joined
joined_up (Promote slot) epoch j joined = joined
joined_up Fence epoch j joined = joined
joined_up (Stamp frozen label) epoch j joined = joined

abbrev pub joined_then : EpochChange → ℕ → ℕ → Mark → ℕ → ℕ
joined_then aim epoch j mark.Down joined = 0
joined_then aim epoch j mark.Live joined = joined_up aim epoch j joined
joined_then aim epoch j mark.Rebuilding joined = joined_up aim epoch j joined

-- the slot of the aim is one of the array's; and one that is promoted is here
abbrev pub MayBegin : EpochChange → Membership → Type 0
MayBegin (Admit slot) m = slot < m.array.geometry.n
MayBegin (Promote slot) m = (slot < m.array.geometry.n)
    × ((why_of m slot ≡ Here) ⊎ (why_of m slot ≡ Rebuilding))
MayBegin Fence m = ⊤
MayBegin (Stamp frozen label) m = ⊤

-- what an epoch names, where the slots have these reasons
pub record Names (aim : EpochChange) (array : Configuration) (whys : List Why) (epoch : ℕ)
    (named : Configuration) : Type 0 where
  pub geometry : named.geometry ≡ array.geometry
  pub epoch_is : named.epoch ≡ epoch
  pub frozen : named.frozen ≡ frozen_then aim array
  pub label : named.label ≡ label_then aim array
  pub marks : (j : ℕ) → j < array.geometry.n
      → mark_in named j ≡ mark_for (slice_index_or whys j Here)
  pub absent : (j : ℕ) → array.geometry.n ≤ j → mark_in named j ≡ mark.Down
  pub joins : (j : ℕ) → j < 32
      → joined_in named j ≡ joined_then aim epoch j (mark_in named j) (joined_in array j)
  pub marks_size : length named.marks ≡ 32
  pub joins_size : length named.joins ≡ 32

-- the epoch of the last draw begins
pub record Begins (aim : EpochChange) (m begun : Membership) : Type 0 where
  pub names : Names aim m.array begun.whys m.drawn begun.array
  pub drawn : begun.drawn ≡ m.drawn
  pub whys : (j : ℕ) → j < 32 → why_of begun j ≡ aimed aim j (why_of m j)
  pub places : begun.places ≡ m.places
