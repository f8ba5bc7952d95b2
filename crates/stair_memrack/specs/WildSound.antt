-- What the fields of a rack that isn't honest keep.
use Rattle.std.specs.Prelude.{◌≡◌, ℕ, ◌^◌, ◌<◌, slice_index, vec_len}
use Rattle.stair_memrack.specs.declared.wild.WildRack.TheInside.{Inside}

pub record IsSoundWild (r : Inside) : Type 0 where
  pub next_within : r.next < vec_len r.answers
  pub count : vec_len r.gones ≡ 32
  pub bads_fit : r.bads < 2 ^ 64
  pub gones_fit : (j : ℕ) → slice_index r.gones.items j < 2 ^ 64
