-- Stripes in memory: n chunks in slot order, and each chunk has r sectors of each of k stripes in order.
use Rattle.std.specs.Prelude.{◌≡◌, ℕ, ◌+◌, ◌*◌, ◌<◌, List, [], length, slice_index_or}
use Rattle.stair_model.specs.Cell.{Data, cell_at}
use Rattle.stair_model.specs.Codeword.{IsCodeword}
use Rattle.stair_model.specs.Geometry.{Geometry}
use Rattle.stair_model.specs.Stripe.{Stripe, IsStripeOf, IsWellFormed, cell}

-- the number of the sector that holds cell (i, j) of stripe s
abbrev pub sector_number : Geometry → ℕ → ℕ → ℕ → ℕ → ℕ
sector_number g k s i j = (j * k + s) * g.r + i

-- the bytes of that sector
abbrev pub sector_at : Geometry → ℕ → List (List ℕ) → ℕ → ℕ → ℕ → List ℕ
sector_at g k sectors s i j = slice_index_or sectors (sector_number g k s i j) []

-- the sectors are those of k stripes
abbrev pub HasStripes : Geometry → ℕ → List (List ℕ) → Type 0
HasStripes g k sectors = length sectors ≡ g.n * k * g.r

-- stripe s of k
pub record IsStripeAt (g : Geometry) (k : ℕ) (sectors : List (List ℕ)) (s : ℕ) (stripe : Stripe) : Type 0 where
  pub of : IsStripeOf g stripe
  pub formed : IsWellFormed stripe
  pub cells : (i j : ℕ) → i < g.r → j < g.n → cell stripe i j ≡ sector_at g k sectors s i j

-- stripe s of k is a codeword
pub record IsCodewordAt (g : Geometry) (k : ℕ) (sectors : List (List ℕ)) (s : ℕ) : Type 0 where
  pub stripe : Stripe
  pub at : IsStripeAt g k sectors s stripe
  pub codeword : IsCodeword g stripe

-- stripe s of k was encoded in place: it is a codeword, and its data sectors are as they were
pub record IsEncodedAt (g : Geometry) (k : ℕ) (old new : List (List ℕ)) (s : ℕ) : Type 0 where
  pub codeword : IsCodewordAt g k new s
  pub same_data : (i j d : ℕ) → i < g.r → j < g.n → cell_at g i j ≡ Data d →
      sector_at g k new s i j ≡ sector_at g k old s i j

-- each sector of stripe s of k is the same in both
abbrev pub IsSameAt : Geometry → ℕ → List (List ℕ) → List (List ℕ) → ℕ → Type 0
IsSameAt g k old new s =
    (i j : ℕ) → i < g.r → j < g.n → sector_at g k new s i j ≡ sector_at g k old s i j

-- the first `rows` cells of the chunk in slot j have the bytes of their sectors
abbrev pub HasChunkOf : Geometry → ℕ → List (List ℕ) → ℕ → Stripe → ℕ → ℕ → Type 0
HasChunkOf g k sectors s stripe j rows =
    (i : ℕ) → i < rows → cell stripe i j ≡ sector_at g k sectors s i j

-- the data cells have the bytes of their sectors
abbrev pub HasDataOf : Geometry → ℕ → List (List ℕ) → ℕ → Stripe → Type 0
HasDataOf g k sectors s stripe =
    (i j d : ℕ) → i < g.r → j < g.n → cell_at g i j ≡ Data d → cell stripe i j ≡ sector_at g k sectors s i j
