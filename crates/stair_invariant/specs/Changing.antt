-- An image while an epoch is established, after a session has one that stands.
use Rattle.std.specs.Prelude.{◌≡◌, ◌≢◌, ◌<◌, ◌⊎◌, ℕ, true, false, List, Some, IsSome}
use Rattle.stair_rack.specs.History.{Happening, slot_state}
use Rattle.stair_rack.specs.Media.{Image}
use Rattle.stair_rack.specs.Sector.{damaged}
use Rattle.stair_super.specs.Superblock.{Superblock, mark_in}
use Rattle.stair_super.specs.declared.configuration.Configuration.{Configuration}
use Rattle.stair_member.specs.Aims.{IsAimed, admitted, aimed, mark_for}
use Rattle.stair_member.specs.Counting.{AllBut}
use Rattle.stair_member.specs.Membership.{Membership, why_of}
use Rattle.stair_member.specs.Reserve.{Bears, BearsFor, HasReached, IsOrderly}
use Rattle.stair_member.specs.declared.aim.EpochChange.{EpochChange}
use Rattle.stair_member.specs.declared.why.Why.TheVariants.{Here}

-- A slot is in use; or it isn't, and nothing can be read of it.
abbrev pub IsAttachedOrBare : List Happening → ℕ → Type 0
IsAttachedOrBare h j = (((slot_state h j).attached ≡ true) × IsSome (slot_state h j).size)
    ⊎ (((slot_state h j).attached ≡ false) × ((k : ℕ) → (slot_state h j).sector k ≡ damaged))

-- What a superblock names that is borne meanwhile: an earlier epoch, the member's, or one that is for this, in which slots
-- were left out.
pub data IsOneOfThese (aim : EpochChange) (left_out : ℕ → Type 0) (m : Membership) (array : Configuration)
    : Type 0 where
  Earlier : array.epoch < m.array.epoch → IsOneOfThese aim left_out m array
  Present : array ≡ m.array → IsOneOfThese aim left_out m array
  Coming : m.array.epoch < array.epoch → IsAimed aim left_out m array
      → IsOneOfThese aim left_out m array

-- the marks of the member's epoch are those of the reasons, and the slot that is to be admitted isn't here
pub record IsSettled (aim : EpochChange) (m : Membership) : Type 0 where
  pub marks : (j : ℕ) → j < m.array.geometry.n → mark_in m.array j ≡ mark_for (why_of m j)
  pub joining : (j : ℕ) → why_of m j ≡ Here → admitted aim ≢ Some j

-- An image of a rack on which an epoch is established that is for this, by a member whose own epoch all slots but m have
-- reached. A slot that is live or would be, and that a new epoch has left out, bears nothing of the array.
pub record IsChanging (aim : EpochChange) (left_out : ℕ → Type 0) (m : Membership) (image : Image)
    : Type 0 where
  pub orderly : IsOrderly m.array.geometry image
  pub names : (j : ℕ) (s : Superblock) → Bears m.array.geometry j ((image j).cell) s
      → IsOneOfThese aim left_out m s.array
  pub reached : AllBut m.array.geometry.n m.array.geometry.m
      (HasReached m.array.geometry image m.array.epoch)
  pub bare : (j : ℕ) → left_out j → aimed aim j (why_of m j) ≡ Here
      → ¬ BearsFor m.array.geometry image j
