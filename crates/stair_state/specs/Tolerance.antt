-- When what has failed is within what the array tolerates.
use Rattle.std.specs.Prelude.{◌≡◌, ◌<◌, ◌≤◌, ◌⊎◌, ℕ, List, None}
use Rattle.stair_model.specs.CellSet.{CellSet, HasCell}
use Rattle.stair_model.specs.Coverage.{IsCovered}
use Rattle.stair_model.specs.Device.{cell_sector, chunks_start, gate_sector}
use Rattle.stair_model.specs.Geometry.{Geometry}
use Rattle.stair_rack.specs.Crash.{EachImage}
use Rattle.stair_rack.specs.History.{Happening}
use Rattle.stair_rack.specs.Media.{Image}
use Rattle.stair_rack.specs.Moments.{IsMoment}
use Rattle.stair_rack.specs.Offline.{IsOffline}
use Rattle.stair_rack.specs.Sector.{Damaged}
use Rattle.stair_super.specs.Superblock.{Superblock}
use Rattle.stair_member.specs.Counting.{AtMost}
use Rattle.stair_member.specs.Current.{IsCurrent, IsFailed, IsLost, Serves}
use Rattle.stair_member.specs.Reserve.{MayStand}
use Rattle.stair_member.specs.Superblocks.{IsOnlyIdentity}

-- Some covered pattern has every cell of stripe t that lies on a failed slot or is damaged. What is covered stays so where
-- fewer cells are erased, so the pattern of exactly these cells is covered then.
pub record IsStripeCovered (offline : ℕ → Type 0) (g : Geometry) (image : Image)
    (current : Superblock) (t : ℕ) : Type 0 where
  pub erased : CellSet
  pub covered : IsCovered g erased
  pub has : (i j : ℕ) → i < g.r → j < g.n
      → IsFailed offline g image current j ⊎ ((image j).cell (cell_sector g t i) ≡ Damaged)
      → HasCell erased i j

-- slot j serves, and no sector of its journal's area is lost
pub record HasJournal (offline : ℕ → Type 0) (g : Geometry) (image : Image)
    (current : Superblock) (j : ℕ) : Type 0 where
  pub serves : Serves offline g image current j
  pub whole : (k : ℕ) → gate_sector ≤ k → k < chunks_start g → ¬ IsLost ((image j).cell k)

-- This array, and no other one, stands in the image, nor would another one if of some media a hidden superblock counted. At
-- most m slots have failed, every stripe is covered, and some slot that serves has a whole journal.
pub record IsWithinTolerance (offline : ℕ → Type 0) (g : Geometry) (image : Image) : Type 0 where
  pub identity : IsOnlyIdentity g image
  pub others : (other : Geometry) → MayStand other image → other ≡ g
  pub current : Superblock
  pub is_current : IsCurrent g image current
  pub few : AtMost g.m (IsFailed offline g image current)
  pub stripes : (t : ℕ) → t < g.stripes → IsStripeCovered offline g image current t
  pub journal_slot : ℕ
  pub journal : HasJournal offline g image current journal_slot

-- every image that a crash at h may leave is, in a session that began at `before`
abbrev pub IsTolerated : Geometry → List Happening → List Happening → Type 0
IsTolerated g before h = EachImage (IsWithinTolerance (IsOffline before h) g) h

-- at every moment from the session's beginning up to h
abbrev pub ToleratedSince : Geometry → List Happening → List Happening → Type 0
ToleratedSince g before h = (moment : List Happening) → IsMoment before moment h
    → IsTolerated g before moment

-- the image alone is, where the slots that hold a medium aren't offline
abbrev pub IsToleratedAlone : Geometry → Image → Type 0
IsToleratedAlone g image = IsWithinTolerance (λ j. (image j).size ≡ None) g image
