-- What an epoch is for, and what it names then.
use Rattle.std.specs.Prelude.{◌≡◌, ◌≢◌, ◌⊎◌, ℕ, ◌<◌, Bool, List, Option, None, Some, ◌==◌, if◌then◌else◌}
use Rattle.stair_super.specs.Superblock.{joined_in, mark_in}
use Rattle.stair_super.specs.declared.configuration.Configuration.{Configuration}
use Rattle.stair_super.specs.declared.mark.Mark.{Mark}
use Rattle.stair_super.specs.declared.mark.Mark.TheVariants as mark
use Rattle.stair_member.specs.Membership.{Membership, why_of}
use Rattle.stair_member.specs.declared.aim.EpochChange.{EpochChange}
use Rattle.stair_member.specs.declared.aim.EpochChange.TheVariants.{Fence, Admit, Promote, Stamp}
use Rattle.stair_member.specs.declared.why.Why.{Why}
use Rattle.stair_member.specs.declared.why.Why.TheVariants.{Here, Rebuilding}

-- the mark of a slot with this reason
abbrev pub mark_for : Why → Mark
mark_for Here = mark.Live
mark_for Rebuilding = mark.Rebuilding
mark_for _ = mark.Down

-- the reason of a slot that isn't dropped, once the epoch stands
abbrev pub aimed : EpochChange → ℕ → Why → Why
aimed (Admit slot) j why = if j == slot then Rebuilding else why
aimed (Promote slot) j why = if j == slot then Here else why
aimed Fence j why = why
aimed (Stamp frozen label) j why = why

-- the slot that is admitted
abbrev pub admitted : EpochChange → Option ℕ
admitted (Admit slot) = Some slot
admitted _ = None

-- whether the array is frozen then, and its label
abbrev pub frozen_then : EpochChange → Configuration → Bool
frozen_then (Stamp frozen label) array = frozen
frozen_then _ array = array.frozen

abbrev pub label_then : EpochChange → Configuration → List ℕ
label_then (Stamp frozen label) array = label
label_then _ array = array.label

-- What an epoch names that was begun for this by a member that was m, where these slots were gone to some call: each slot is
-- marked as aimed, or Down where it was gone; one that stays keeps its joined number, and one that is admitted joins in it.
pub record IsAimed (aim : EpochChange) (gone : ℕ → Type 0) (m : Membership) (named : Configuration)
    : Type 0 where
  pub geometry : named.geometry ≡ m.array.geometry
  pub frozen : named.frozen ≡ frozen_then aim m.array
  pub label : named.label ≡ label_then aim m.array
  pub marks : (j : ℕ) → j < m.array.geometry.n
      → (mark_in named j ≡ mark_for (aimed aim j (why_of m j)))
      ⊎ (gone j × (mark_in named j ≡ mark.Down))
  pub joined : (j : ℕ) → j < m.array.geometry.n → mark_in named j ≢ mark.Down
      → admitted aim ≢ Some j → joined_in named j ≡ joined_in m.array j
  pub joins : (j : ℕ) → admitted aim ≡ Some j → mark_in named j ≢ mark.Down
      → joined_in named j ≡ named.epoch
