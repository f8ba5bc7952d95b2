-- What a generator keeps.
use Rattle.std.specs.Prelude.{◌≡◌}
use Rattle.stair_std.specs.Coefficients.{StandardCode, IsGenerator, nonzero_coefficients}
use Rattle.stair_std.specs.declared.generator.Generator.TheInside.{Inside}

abbrev pub shown : Inside → StandardCode
shown a = record { geometry = a.coefficients.geometry; cost = a.cost }

-- its coefficients are those of their geometry, and the cost is how many of them aren't zero
pub record IsKept (a : Inside) : Type 0 where
  pub generator : IsGenerator a.coefficients
  pub cost : a.cost ≡ nonzero_coefficients a.coefficients
