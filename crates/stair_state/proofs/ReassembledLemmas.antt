-- Where what a reassembled slot bears comes from.
use Rattle.std.proofs.Common.{◌≡◌, ℕ, subst, None, Some}
use Rattle.stair_model.specs.Geometry.{Geometry}
use Rattle.stair_rack.specs.Media.{Medium, Image}
use Rattle.stair_super.specs.Superblock.{Superblock}
use Rattle.stair_member.specs.Counting.{AtMost}
use Rattle.stair_member.specs.Superblocks.{Counts}
use Rattle.stair_member.specs.Current.{IsCurrent, IsFailed}
use Rattle.stair_member.specs.Reserve.{Bears}
use Rattle.stair_member.proofs.SuperLemmas.{one_current, counts_bears}
use Rattle.stair_state.specs.Tolerance.{IsToleratedAlone}
use Rattle.stair_state.specs.Degraded.{AreDamagedCopies}
use Rattle.stair_state.specs.Reassembly.{Location, IsMediumOf, IsReassembledSlot, OneOf, Unwritten, Empty, IsReassembly, IsBorne}
use Rattle.stair_state.proofs.DegradedLemmas.{bears_before}
use Rattle.stair_state.proofs.FormLemmas.{good_whole}

-- slot j of the reassembled image holds a damaged copy of this medium of the image, which bears the superblock
pub record IsBorneFrom (g : Geometry) (image to : Image) (j : ℕ) (s : Superblock) : Type 0 where
  pub place : Location
  pub medium : Medium
  pub is_one : IsMediumOf (image j) place medium
  pub size : (to j).size ≡ Some medium.size
  pub copies : AreDamagedCopies medium.cell ((to j).cell)
  pub bears : Bears g j medium.cell s

pub from_slot : (g : Geometry) (image to : Image) (j : ℕ) (s : Superblock) → IsReassembledSlot (image j) (to j) → Bears g j ((to j).cell) s
    → IsBorneFrom g image to j s
from_slot g image to j s (Unwritten size same all) bears = absurd (good_whole bears.holds.good (all bears.place))
from_slot g image to j s (Empty same all) bears = absurd (good_whole bears.holds.good (all bears.place))
from_slot g image to j s (OneOf place medium is same copies past) bears = record {
  place = place;
  medium = medium;
  is_one = is;
  size = same;
  copies = copies;
  bears = bears_before copies bears;
}

pub counts_from : (g : Geometry) (image to : Image) (j : ℕ) (s : Superblock) → IsReassembly image to → Counts g to j s → IsBorneFrom g image to j s
counts_from g image to j s reassembly counts = from_slot g image to j s (reassembly j) (counts_bears g to j s counts)

pub borne_of : {g : Geometry} {image to : Image} {j : ℕ} {s : Superblock} (from : IsBorneFrom g image to j s) → IsBorne g image j from.place s
borne_of from = record { medium = from.medium; is_one = from.is_one; bears = from.bears }

-- at most m slots have failed by whatever superblock is current
pub few_by : (g : Geometry) (to : Image) (current : Superblock) → IsToleratedAlone g to → IsCurrent g to current
    → AtMost g.m (IsFailed (λ k. (to k).size ≡ None) g to current)
few_by g to current tolerated is_current =
    subst (λ (x : Superblock). AtMost g.m (IsFailed (λ k. (to k).size ≡ None) g to x))
    (one_current g to tolerated.current current tolerated.is_current is_current) tolerated.few
