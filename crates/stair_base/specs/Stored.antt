-- How a geometry and a stripe are kept.
use Rattle.std.specs.Prelude.{◌≡◌, length, take}
use Rattle.stair_model.specs.Geometry.{Geometry, IsWithinLimits}
use Rattle.stair_base.specs.Padding.{padded}
use Rattle.stair_base.specs.declared.geometry.Geometry.TheInside.{Inside}

-- what is kept, as the numbers of the code
abbrev pub shown : Inside → Geometry
shown a = record {
  n = a.n;
  m = a.m;
  r = a.r;
  e = take a.classes a.coverage;
  stripes = a.stripes;
  id = a.id;
}

-- the fields of these numbers
abbrev pub kept : Geometry → Inside
kept g = record {
  n = g.n;
  m = g.m;
  r = g.r;
  classes = length g.e;
  coverage = padded g.e;
  stripes = g.stripes;
  id = g.id;
}

-- what is kept is a geometry within the limits, and no more
pub record IsStored (a : Inside) : Type 0 where
  pub limits : IsWithinLimits (shown a)
  pub count : length (take a.classes a.coverage) ≡ a.classes
  pub padding : padded (take a.classes a.coverage) ≡ a.coverage

-- a geometry gives its fields back
pub kept-shown : (a : Inside) → IsStored a → kept (shown a) ≡ a
kept-shown a stored =
    λ i. record {
      n = a.n;
      m = a.m;
      r = a.r;
      classes = stored.count i;
      coverage = stored.padding i;
      stripes = a.stripes;
      id = a.id;
    }
