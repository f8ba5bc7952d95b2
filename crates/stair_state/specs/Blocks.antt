-- The blocks of an array, and the stripes that encode them.
use Rattle.std.specs.Prelude.{◌≡◌, ◌+◌, ◌*◌, ◌%◌, ◌<◌, ◌≤◌, ◌==◌, ℕ, List, [], ◌∷◌, map, replicate, if◌then◌else◌}
use Rattle.std.specs.List.{range_with_len}
use Rattle.stair_model.specs.Cell.{IsPlaceOf}
use Rattle.stair_model.specs.Encoding.{IsEncodedFrom, IsEncodingOf}
use Rattle.stair_model.specs.Geometry.{Geometry, data_cells}
use Rattle.stair_model.specs.Stripe.{IsSector, SECTOR, Stripe, with_cell}

-- by number
abbrev pub Blocks : Type 0
Blocks = ℕ → List ℕ

-- the blocks with other bytes in block b
abbrev pub with_block : Blocks → ℕ → List ℕ → Blocks
with_block blocks b bytes k = if k == b then bytes else blocks k

-- the blocks with these in the place of those from `first` on
abbrev pub with_blocks : Blocks → ℕ → List (List ℕ) → Blocks
with_blocks blocks first [] = blocks
with_blocks blocks first (bytes ∷ more) =
    with_blocks (with_block blocks first bytes) (first + 1) more

-- there is at least one block, and all from `first` on are of one stripe
pub record AreOfOneStripe (g : Geometry) (first count : ℕ) : Type 0 where
  pub some : 0 < count
  pub within : first % data_cells g + count ≤ data_cells g

-- stripe t after these of its blocks were set, from block `first` on, one after the other
abbrev pub IsSetFrom : Geometry → ℕ → ℕ → List (List ℕ) → Stripe → Stripe → Type 0
IsSetFrom g t first [] before after = after ≡ before
IsSetFrom g t first (bytes ∷ more) before after =
    (i j : ℕ) × (mid : Stripe) × IsPlaceOf g first t i j × IsSector bytes
    × IsEncodedFrom g (with_cell before i j bytes) mid × IsSetFrom g t (first + 1) more mid after

-- a block of zeros, and blocks that are all such
abbrev pub zero_block : List ℕ
zero_block = replicate SECTOR 0

abbrev pub zero_blocks : Blocks
zero_blocks b = zero_block

-- the blocks of stripe t, in the order of its data cells: block b is data cell b mod u of stripe b div u
unfoldable pub stripe_blocks : Geometry → Blocks → ℕ → List (List ℕ)
stripe_blocks g blocks t =
    map (λ d. blocks (t * data_cells g + d)) (range_with_len 0 (data_cells g))

-- stripes by number
abbrev pub Codewords : Type 0
Codewords = ℕ → Stripe

-- the stripes of which stripe t is another
abbrev pub with_word : Codewords → ℕ → Stripe → Codewords
with_word words t word k = if k == t then word else words k

-- each stripe of the array is the encoded stripe of its blocks
pub record AreEncodingsOf (g : Geometry) (blocks : Blocks) (words : Codewords) : Type 0 where
  pub each : (t : ℕ) → t < g.stripes → IsEncodingOf g (stripe_blocks g blocks t) (words t)
