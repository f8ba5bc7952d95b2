-- Two reassemblies of one image.
use Rattle.std.specs.Prelude.{ℕ}
use Rattle.stair_rack.specs.Media.{Image, Medium}
use Rattle.stair_state.specs.Degraded.{AreDamagedCopies}
use Rattle.stair_state.specs.Reassembly.{IsMediumOf, Location}

-- slot j holds copies of one medium in both, of whose cells some may be damaged in each
pub record HasOneMedium (image a b : Image) (j : ℕ) : Type 0 where
  pub place : Location
  pub medium : Medium
  pub is_one : IsMediumOf (image j) place medium
  pub first : AreDamagedCopies medium.cell ((a j).cell)
  pub second : AreDamagedCopies medium.cell ((b j).cell)
