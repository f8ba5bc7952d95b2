-- What a canonical stripe keeps.
use Rattle.std.specs.Prelude.{◌≡◌}
use Rattle.stair_canon.specs.Canonical.{CanonicalStripe, IsWellFormed}
use Rattle.stair_canon.specs.Order.{IsOrderOf}
use Rattle.stair_canon.specs.Parities.{AreParities}
use Rattle.stair_canon.specs.Solving.{row_shape, column_shape}
use Rattle.stair_canon.specs.declared.canon.Canon.TheInside.{Inside}

abbrev pub shown : Inside → CanonicalStripe
shown a = record { geometry = a.geometry; symbols = a.symbols }

-- as many symbols as its geometry says, the codes of its geometry, and the order of its parities
pub record IsKept (a : Inside) : Type 0 where
  pub formed : IsWellFormed (shown a)
  pub row_codes : a.row_codes ≡ row_shape a.geometry
  pub column_codes : a.column_codes ≡ column_shape a.geometry
  pub parities : AreParities a.geometry a.order.erased
  pub order : IsOrderOf a.geometry a.order
