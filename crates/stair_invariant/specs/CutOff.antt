-- What is left of what an array tolerates where more of its slots were cut off.
use Rattle.std.specs.Prelude.{ℕ}
use Rattle.stair_model.specs.Geometry.{Geometry}
use Rattle.stair_rack.specs.Media.{Image}
use Rattle.stair_super.specs.Superblock.{Superblock}
use Rattle.stair_member.specs.Current.{IsCurrent}
use Rattle.stair_member.specs.Superblocks.{IsOnlyIdentity}
use Rattle.stair_state.specs.Tolerance.{HasJournal}

-- This array stands, and no other one; and one of these slots serves, with a whole journal. Of how many have failed, and of the
-- stripes, nothing is said.
pub record IsStillThere (offline : ℕ → Type 0) (g : Geometry) (some : ℕ → Type 0) (image : Image)
    : Type 0 where
  pub identity : IsOnlyIdentity g image
  pub current : Superblock
  pub is_current : IsCurrent g image current
  pub journal_slot : ℕ
  pub journal : HasJournal offline g image current journal_slot
  pub among : some journal_slot
