-- The places by which the rows and the intermediate chunks are solved downwards. A list may go on after them.
use Rattle.std.specs.Prelude.{◌≡◌, ℕ, ◌+◌, ◌-◌, ◌<◌, ◌≤◌, List, length, slice_index}
use Rattle.stair_model.specs.Cell.{global_chunk}
use Rattle.stair_model.specs.Geometry.{Geometry, IsWithinLimits, classes, coverage, data_chunks}

-- of the two chunks of class l in row i, its chunk of the stripe is known above its global parities, and its intermediate
-- chunk in their rows; the other one is wanted
pub record IsPairOfClass (g : Geometry) (i l known wanted : ℕ) : Type 0 where
  pub above : i < g.r - coverage g l → (known ≡ global_chunk g l) × (wanted ≡ g.n + l)
  pub below : g.r - coverage g l ≤ i → (known ≡ g.n + l) × (wanted ≡ global_chunk g l)

-- row i: n-m known chunks, and m+m' wanted ones
pub record ArePlacesOfRow (g : Geometry) (i : ℕ) (known wanted : List ℕ) : Type 0 where
  pub limits : IsWithinLimits g
  pub known_room : length known ≡ 64
  pub wanted_room : length wanted ≡ 64
  pub first : (k : ℕ) → k < data_chunks g - classes g → slice_index known k ≡ k
  pub parities : (k : ℕ) → k < g.m → slice_index wanted k ≡ data_chunks g + k
  pub pairs : (l : ℕ) → l < classes g → IsPairOfClass g i l (slice_index known (global_chunk g l))
      (slice_index wanted (g.m + l))

-- intermediate chunk l: the rows above its global parities and as many virtual rows as it covers, and the rows of these parities
pub record ArePlacesOfChunk (g : Geometry) (l : ℕ) (known wanted : List ℕ) : Type 0 where
  pub limits : IsWithinLimits g
  pub covered : coverage g l ≤ g.r
  pub known_room : length known ≡ 64
  pub wanted_room : length wanted ≡ 64
  pub above : (i : ℕ) → i < g.r - coverage g l → slice_index known i ≡ i
  pub virtual : (i : ℕ) → g.r - coverage g l ≤ i → i < g.r → slice_index known i ≡ i + coverage g l
  pub below : (h : ℕ) → h < coverage g l → slice_index wanted h ≡ g.r - coverage g l + h
