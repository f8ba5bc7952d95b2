-- Two geometries whose cells are counted by hand.
use Rattle.std.specs.Prelude.{[], ◌∷◌, replicate}
use Rattle.stair_model.specs.Geometry.{Geometry}

-- four devices with one row parity, two rows, and one global parity
abbrev pub four_devices : Geometry
four_devices = record { n = 4; m = 1; r = 2; e = 1 ∷ []; stripes = 3; id = replicate 16 0 }

-- eight devices with two row parities, four rows, and the coverage (1, 1, 2)
abbrev pub eight_devices : Geometry
eight_devices = record { n = 8; m = 2; r = 4; e = 1 ∷ 1 ∷ 2 ∷ []; stripes = 3; id = replicate 16 0 }
