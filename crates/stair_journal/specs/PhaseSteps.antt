-- How far the body of a redo is written.
use Rattle.std.specs.Prelude.{◌≡◌, ◌+◌, ◌<◌, ◌≤◌, ℕ}
use Rattle.stair_model.specs.Device.{body_sector}
use Rattle.stair_model.specs.Geometry.{Geometry}

-- on this slot, the sectors of the body that are for the cells of one row
abbrev pub IsInRow : Geometry → ℕ → ℕ → ℕ → ℕ → Type 0
IsInRow g slot row j k = (j ≡ slot) × (body_sector g row 0 ≤ k) × (k < body_sector g (row + 1) 0)
