-- The stripe that a job asks for.
use Rattle.std.specs.Prelude.{ℕ, List, replicate}
use Rattle.stair_model.specs.Geometry.{Geometry, geometry_of}

-- the geometry of one stripe, with a zero identity
abbrev pub one_stripe : ℕ → ℕ → ℕ → List ℕ → Geometry
one_stripe n m r e = geometry_of n m r e 1 (replicate 16 0)
