-- What a code keeps.
use Rattle.std.specs.Prelude.{◌≡◌, ℕ, ◌+◌, ◌*◌, ◌<◌, ◌≤◌, List, length, slice_index}
use Rattle.stair_mds.specs.Lagrange.{weight, solving}

-- the weight of each place, of which there are at most 256
pub record HasWeights (held : ℕ) (weights : List ℕ) : Type 0 where
  pub some : 1 ≤ held
  pub within : held ≤ length weights
  pub bytes : length weights ≤ 256
  pub each : (p : ℕ) → p < length weights → slice_index weights p ≡ weight held p

-- what each known place contributes to each of the first `count` wanted ones, wanted place by wanted place
pub record HasCoefficients (held : ℕ) (known wanted coefficients : List ℕ) (count : ℕ)
    : Type 0 where
  pub many : length coefficients ≡ count * held
  pub each :
      (k i : ℕ) → k < count → i < held →
      slice_index coefficients (k * held + i) ≡ solving held known i (slice_index wanted k)
