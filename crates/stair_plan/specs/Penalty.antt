-- The penalty of a data cell: how many parities change with it.
use Rattle.std.specs.Prelude.{◌≡◌, ℕ, ◌+◌, ◌<◌, ◌≤◌}
use Rattle.stair_model.specs.CellSet.{CellSet, IsCellSet, cell_count}
use Rattle.stair_model.specs.Dependents.{AreDependents}
use Rattle.stair_model.specs.Geometry.{Geometry}

-- so many cells are dependents of data cell d, beside itself
pub record IsPenalty (g : Geometry) (d penalty : ℕ) : Type 0 where
  pub dependents : CellSet
  pub is_set : IsCellSet dependents
  pub are : AreDependents g d dependents
  pub count : cell_count dependents ≡ penalty + 1

-- each of the first n data cells has a penalty, none is below the least or above the greatest, and some have these
pub record ArePenalties (g : Geometry) (n least greatest : ℕ) : Type 0 where
  pub each : (d : ℕ) → d < n → (penalty : ℕ) × IsPenalty g d penalty
  pub within :
      (d penalty : ℕ) → d < n → IsPenalty g d penalty → (least ≤ penalty) × (penalty ≤ greatest)
  pub some_least : (d : ℕ) × (d < n) × IsPenalty g d least
  pub some_greatest : (d : ℕ) × (d < n) × IsPenalty g d greatest
