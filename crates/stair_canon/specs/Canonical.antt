-- What contracts see of a canonical stripe.
use Rattle.std.specs.Prelude.{◌≡◌, ℕ, ◌+◌, ◌*◌, ◌&&◌, List, [], Bool, true, false, if◌then◌else◌, nat_lt, length, replicate, slice_index, slice_index_or, All}
use Rattle.stair_model.specs.Canonical.{canonical_chunks, canonical_rows}
use Rattle.stair_model.specs.Codeword.{Word}
use Rattle.stair_model.specs.Geometry.{Geometry, IsWithinLimits}
use Rattle.stair_model.specs.Stripe.{IsSector, SECTOR}

-- symbols by their numbers: what their memory holds, and which of them are known
pub record KnownSymbols : Type 0 where
  pub memory : List (List ℕ)
  pub known : List Bool

-- symbol number k is known
abbrev pub is_known : KnownSymbols → ℕ → Bool
is_known symbols k = slice_index_or symbols.known k false

-- the bytes of symbol number k: one that isn't known is zero, whatever its memory holds
abbrev pub bytes_of : KnownSymbols → ℕ → List ℕ
bytes_of symbols k =
    if is_known symbols k then slice_index_or symbols.memory k [] else replicate SECTOR 0

-- the symbols of a geometry, row by row
pub record CanonicalStripe : Type 0 where
  pub geometry : Geometry
  pub symbols : KnownSymbols

-- the number of the symbol in row i of column j
abbrev pub number : Geometry → ℕ → ℕ → ℕ
number g i j = i * canonical_chunks g + j

-- the bytes of the symbol in row i of column j; none beyond the last column
abbrev pub symbol : CanonicalStripe → ℕ → ℕ → List ℕ
symbol c i j =
    if nat_lt j (canonical_chunks c.geometry) then bytes_of c.symbols (number c.geometry i j)
    else []

-- byte q of each symbol: row and column to byte
abbrev pub byte_at : CanonicalStripe → ℕ → Word
byte_at c q i j = slice_index (symbol c i j) q

-- whether the symbol in row i of column j is known
abbrev pub mark : CanonicalStripe → ℕ → ℕ → Bool
mark c i j = nat_lt j (canonical_chunks c.geometry) && is_known c.symbols (number c.geometry i j)

-- the symbol in row i of column j is known
abbrev pub IsKnown : CanonicalStripe → ℕ → ℕ → Type 0
IsKnown c i j = mark c i j ≡ true

-- r + e_max rows of n + m' symbols, each with room for 512 bytes
pub record IsWellFormed (c : CanonicalStripe) : Type 0 where
  pub limits : IsWithinLimits c.geometry
  pub count :
      length c.symbols.memory ≡ canonical_rows c.geometry * canonical_chunks c.geometry
  pub marks : length c.symbols.known ≡ canonical_rows c.geometry * canonical_chunks c.geometry
  pub sectors : All IsSector c.symbols.memory
