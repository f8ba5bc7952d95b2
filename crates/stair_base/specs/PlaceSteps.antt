-- Where the blocks of a row stand.
use Rattle.std.specs.Prelude.{◌≡◌, ℕ, ◌<◌, ◌≤◌, true, false}
use Rattle.stair_model.specs.Geometry.{Geometry, data_chunks}
use Rattle.stair_model.specs.Cell.{is_global}

-- of the chunks that aren't row parity, the first so many have a block in row i, and the others have a global parity
pub record HasBlocksFirst (g : Geometry) (i count : ℕ) : Type 0 where
  pub within : count ≤ data_chunks g
  pub blocks : (j : ℕ) → j < count → is_global g i j ≡ false
  pub globals : (j : ℕ) → count ≤ j → j < data_chunks g → is_global g i j ≡ true
