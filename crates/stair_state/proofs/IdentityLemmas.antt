-- Where one array stands alone, no degraded image is within another one's tolerance.
use Rattle.std.proofs.Common.{◌≡◌, ℕ, arith}
use Rattle.std.specs.Prelude.{None}
use Rattle.stair_model.specs.Geometry.{Geometry, IsWithinLimits}
use Rattle.stair_rack.specs.Media.{Image}
use Rattle.stair_member.specs.Counting.{AllBut}
use Rattle.stair_member.specs.Current.{Serves}
use Rattle.stair_member.specs.Superblocks.{CountsFor, Identifies, IsOnlyIdentity}
use Rattle.stair_member.proofs.CountingLemmas.{all_but_mapped, more_from_all_but}
use Rattle.stair_member.proofs.StandingLemmas.{others}
use Rattle.stair_member.proofs.SuperLemmas.{counts_limits}
use Rattle.stair_state.specs.Degraded.{IsDegraded}
use Rattle.stair_state.specs.Tolerance.{IsToleratedAlone}
use Rattle.stair_state.proofs.DegradedLemmas.{counts_before, degraded_copies}

-- an array that is tolerated has its limits
pub tolerated_limits : (g : Geometry) (image : Image) → IsToleratedAlone g image → IsWithinLimits g
tolerated_limits g image tolerated = counts_limits g image tolerated.current.slot tolerated.current tolerated.is_current.counts

-- of an array that is tolerated in the lesser image more than m slots counted before
pub stood_before : (g : Geometry) (more less : Image) → IsDegraded more less → IsToleratedAlone g less → Identifies g more
stood_before g more less degraded tolerated =
    let limits = tolerated_limits g less tolerated in
    let offline : ℕ → Type 0 = λ j. (less j).size ≡ None in
    let serving : AllBut g.n g.m (Serves offline g less tolerated.current) =
    others {offline = offline} g less tolerated.current tolerated.few in
    more_from_all_but {P = CountsFor g more} limits.devices.1 limits.majority
    (all_but_mapped {P = Serves offline g less tolerated.current} {Q = CountsFor g more}
    (λ j below serves. record {
      super = serves.live.super;
      counts =
          counts_before {more = more} {less = less} (degraded_copies (degraded j)) (serves.places 0 (omega arith))
          (serves.places 1 (omega arith)) serves.live.counts;
    }) serving)

pub same_identity : (g other : Geometry) (more less : Image) → IsOnlyIdentity g more → IsDegraded more less
    → IsToleratedAlone other less → other ≡ g
same_identity g other more less only degraded tolerated = only.alone other (stood_before other more less degraded tolerated)
