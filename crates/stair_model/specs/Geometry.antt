-- The geometry of an array, in the letters of Li and Lee (STAIR Codes, FAST 2014).
use Rattle.std.specs.Prelude.{ℕ, ◌+◌, ◌-◌, ◌*◌, ◌<◌, ◌≤◌, ◌&&◌, Bool, List, length, nat_le, sum, slice_index, All}
use Rattle.std.specs.List.Sorted.{IsNonDecreasing}

pub record Geometry : Type 0 where
  -- devices: a stripe has one chunk on each
  pub n : ℕ
  -- row parities: so many whole devices may be lost
  pub m : ℕ
  -- rows: sectors of a chunk
  pub r : ℕ
  -- the coverage vector: e_l sectors may be lost in a further chunk, for each class l
  pub e : List ℕ
  -- stripes of the array
  pub stripes : ℕ
  -- the array's identity, sixteen bytes
  pub id : List ℕ

-- a geometry by its numbers
abbrev pub geometry_of : ℕ → ℕ → ℕ → List ℕ → ℕ → List ℕ → Geometry
geometry_of n m r e stripes id = record { n = n; m = m; r = r; e = e; stripes = stripes; id = id }

-- the coverage classes, m'
abbrev pub classes : Geometry → ℕ
classes g = length g.e

-- e_l
abbrev pub coverage : Geometry → ℕ → ℕ
coverage g l = slice_index g.e l

-- the sum of the coverage vector, s: the global parity cells of a stripe
abbrev pub global_cells : Geometry → ℕ
global_cells g = sum g.e

-- the last entry of the coverage vector, e_max
abbrev pub greatest_coverage : Geometry → ℕ
greatest_coverage g = coverage g (classes g - 1)

-- the chunks of a stripe that aren't row parity
abbrev pub data_chunks : Geometry → ℕ
data_chunks g = g.n - g.m

-- the blocks of a stripe, u
abbrev pub data_cells : Geometry → ℕ
data_cells g = g.r * data_chunks g - global_cells g

-- the blocks of the array
abbrev pub block_count : Geometry → ℕ
block_count g = data_cells g * g.stripes

-- the sectors that a device needs: two superblocks and a gate, the journal's body, and a chunk of each stripe
abbrev pub sectors_needed : Geometry → ℕ
sectors_needed g = 3 + g.n * g.r + g.stripes * g.r

-- The eight limits, numbered in the order in which they are tested.
abbrev pub HasDevices : Geometry → Type 0
HasDevices g = (3 ≤ g.n) × (g.n ≤ 32)

abbrev pub HasParity : Geometry → Type 0
HasParity g = 1 ≤ g.m

abbrev pub HasMajority : Geometry → Type 0
HasMajority g = 2 * g.m < g.n

abbrev pub HasClasses : Geometry → Type 0
HasClasses g = (1 ≤ classes g) × (classes g ≤ data_chunks g)

abbrev pub HasRows : Geometry → Type 0
HasRows g = (1 ≤ g.r) × (g.r ≤ 32)

-- each entry is 1 to r, and none is below the one before
abbrev pub IsCoverageVector : List ℕ → ℕ → Type 0
IsCoverageVector e r = All (λ x. (1 ≤ x) × (x ≤ r)) e × IsNonDecreasing e

abbrev pub HasCoverage : Geometry → Type 0
HasCoverage g = IsCoverageVector g.e g.r

abbrev pub HasBlocks : Geometry → Type 0
HasBlocks g = 1 ≤ data_cells g

-- the sectors of a device are numbered in 32 bits; the second part follows from the third, and has no product in it
abbrev pub HasSize : Geometry → Type 0
HasSize g = (1 ≤ g.stripes) × (g.stripes < 4294967295) × (sectors_needed g ≤ 4294967295)

pub record IsWithinLimits (g : Geometry) : Type 0 where
  pub devices : HasDevices g
  pub parities : HasParity g
  pub majority : HasMajority g
  pub covered_chunks : HasClasses g
  pub rows : HasRows g
  pub covered_sectors : HasCoverage g
  pub blocks : HasBlocks g
  pub size : HasSize g

-- a small array: what the eighth limit was before there were large ones, and still is where no one asks for a large array
abbrev pub IsSmall : Geometry → Type 0
IsSmall g = (g.stripes ≤ 65536) × (g.n * g.r * g.stripes ≤ 4194304)

-- the same as a test
unfoldable pub is_small : Geometry → Bool
is_small g = nat_le g.stripes 65536 && nat_le (g.n * g.r * g.stripes) 4194304

-- limit number k fails, where this is the eighth, and those before it hold
pub data IsFirstBrokenUnder (Size : Type 0) (g : Geometry) : ℕ → Type 0 where
  devices : ¬ HasDevices g → IsFirstBrokenUnder Size g 1
  parities : HasDevices g → ¬ HasParity g → IsFirstBrokenUnder Size g 2
  majority : HasDevices g → HasParity g → ¬ HasMajority g → IsFirstBrokenUnder Size g 3
  covered_chunks : HasDevices g → HasParity g → HasMajority g → ¬ HasClasses g →
      IsFirstBrokenUnder Size g 4
  rows : HasDevices g → HasParity g → HasMajority g → HasClasses g → ¬ HasRows g →
      IsFirstBrokenUnder Size g 5
  covered_sectors : HasDevices g → HasParity g → HasMajority g → HasClasses g → HasRows g →
      ¬ HasCoverage g → IsFirstBrokenUnder Size g 6
  blocks : HasDevices g → HasParity g → HasMajority g → HasClasses g → HasRows g → HasCoverage g →
      ¬ HasBlocks g → IsFirstBrokenUnder Size g 7
  size : HasDevices g → HasParity g → HasMajority g → HasClasses g → HasRows g → HasCoverage g →
      HasBlocks g → ¬ Size → IsFirstBrokenUnder Size g 8

-- limit number k fails, and those before it hold
abbrev pub IsFirstBrokenLimit : Geometry → ℕ → Type 0
IsFirstBrokenLimit g k = IsFirstBrokenUnder (HasSize g) g k
