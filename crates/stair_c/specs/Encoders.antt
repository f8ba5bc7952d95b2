-- What contracts see of an encoder with what it needs.
use Rattle.stair_model.specs.Geometry.{Geometry}
use Rattle.stair_c.specs.declared.encoders.Prepared.{Prepared}
use Rattle.stair_c.specs.declared.encoders.Prepared.TheVariants.{Standard, Upstairs, Downstairs}

-- the geometry of the stripes that it encodes
abbrev pub shape : Prepared → Geometry
shape (Standard generator) = generator.geometry
shape (Upstairs canon) = canon.geometry
shape (Downstairs canon) = canon.geometry
