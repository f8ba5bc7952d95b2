-- What vectors of bytes hold: of 16, and of the 64 of a block.
use Rattle.std.specs.Prelude.{◌≡◌, ℕ, ◌+◌, ◌*◌, ◌^◌, ◌<◌, ◌≤◌, ◌==◌, if◌then◌else◌, List, length, slice_index, bit_and, bit_xor}
use Rattle.stair_model.specs.Field.{product}

-- v has so many lanes, and lane k holds f k
pub record AreLanes (count : ℕ) (v : List ℕ) (f : ℕ → ℕ) : Type 0 where
  pub long : length v ≡ count
  pub lane : (k : ℕ) → k < count → slice_index v k ≡ f k

-- new is old with the block v from place start on
pub record HasLanesAt (old new : List ℕ) (start : ℕ) (v : List ℕ) : Type 0 where
  pub same_length : length new ≡ length old
  pub here : (k : ℕ) → k < 64 → slice_index new (start + k) ≡ slice_index v k
  pub below : (k : ℕ) → k < start → slice_index new k ≡ slice_index old k
  pub above : (k : ℕ) → start + 64 ≤ k → slice_index new k ≡ slice_index old k

-- the first eight of 16 bytes are the products of by with 1, 2, 4 and so on up to 128
pub record HasDoublings (by : ℕ) (v : List ℕ) : Type 0 where
  pub long : length v ≡ 16
  pub each : (i : ℕ) → i < 8 → slice_index v i ≡ product by (2 ^ i)

-- the sum of those of w, x, y and z whose bits, which are 1, 2, 4 and 8, k has
abbrev pub by_bits : ℕ → ℕ → ℕ → ℕ → ℕ → ℕ
by_bits k w x y z =
    bit_xor
    (bit_xor
    (bit_xor (if bit_and k 1 == 1 then w else 0) (if bit_and k 2 == 2 then x else 0))
    (if bit_and k 4 == 4 then y else 0))
    (if bit_and k 8 == 8 then z else 0)

-- low has the products of by with the bytes below 16, and high those with the bytes whose low half is 0
pub record HasProducts (by : ℕ) (low high : List ℕ) : Type 0 where
  pub low_halves : AreLanes 16 low (λ k. product by k)
  pub high_halves : AreLanes 16 high (λ k. product by (k * 16))

-- lanes of low and high halves, which together make these bytes
pub record AreHalves (low high bytes : List ℕ) : Type 0 where
  pub low_below : (k : ℕ) → k < 64 → slice_index low k < 16
  pub high_below : (k : ℕ) → k < 64 → slice_index high k < 16
  pub whole :
      (k : ℕ) → k < 64 → slice_index high k * 16 + slice_index low k ≡ slice_index bytes k
