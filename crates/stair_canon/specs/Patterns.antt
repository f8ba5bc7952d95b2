-- Codes of one shape, which are seen as that shape.
use Rattle.std.specs.Prelude.{◌≡◌, ◌<◌, List, [], length, slice_index_or, All}
use Rattle.stair_mds.specs.Solving.{Code, Shape}
use Rattle.stair_canon.specs.declared.codes.Codes.TheInside.{Inside}

abbrev pub no_code : Code
no_code = record { shape = record { held = 0; total = 0 }; known = []; wanted = [] }

-- that of the first code
abbrev pub shape_of : Inside → Shape
shape_of a = (slice_index_or a.codes.items 0 no_code).shape

-- codes of this shape
abbrev pub HaveShape : Shape → List Code → Type 0
HaveShape shape codes = All (λ code. code.shape ≡ shape) codes

-- 16 codes of one shape, one of which was used last
pub record AreKeptCodes (a : Inside) : Type 0 where
  pub count : length a.codes.items ≡ 16
  pub last : a.last < 16
  pub links : length a.next ≡ 16
  pub next : All (λ number. number < 16) a.next
  pub alike : HaveShape (shape_of a) a.codes.items
