-- What the coefficients are kept with.
use Rattle.std.specs.Prelude.{◌≡◌}
use Rattle.stair_model.specs.Geometry.{data_cells}
use Rattle.stair_std.specs.Cells.{AreParts}
use Rattle.stair_std.specs.Coefficients.{Coefficients, IsGenerator}
use Rattle.stair_std.specs.declared.coefficients.Coefficients.TheInside.{Inside}

abbrev pub shown : Inside → Coefficients
shown a = record { geometry = a.geometry; bytes = a.bytes.items }

-- they are those of their geometry, and a parity is found by what each cell is
pub record AreKept (a : Inside) : Type 0 where
  pub generator : IsGenerator (shown a)
  pub blocks : a.blocks ≡ data_cells a.geometry
  pub parts : AreParts a.geometry a.parts.items
