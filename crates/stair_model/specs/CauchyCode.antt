-- Systematic Cauchy codes (Blömer, Kalfane, Karp, Karpinski, Luby and Zuckerman, An XOR-Based Erasure-Resilient Coding
-- Scheme, 1995). Of the places 0 .. total - 1 of a word the first `held` hold symbols as they are, and each further one a
-- parity of those. The points of the Cauchy matrix are the places' own numbers.
use Rattle.std.specs.Prelude.{◌≡◌, ◌≢◌, ℕ, ◌+◌, ◌<◌, List, length, slice_index, All, bit_xor}
use Rattle.stair_model.specs.Field.{product, inverse}
use Rattle.stair_model.specs.Stripe.{SECTOR}
use Rattle.stair_model.specs.Sum.{field_sum}

-- of parity k over held symbol j: 1/((held+k) + j)
abbrev pub coefficient : ℕ → ℕ → ℕ → ℕ
coefficient held k j = inverse (bit_xor (held + k) j)

-- the first n values are bytes
abbrev pub AreBytes : ℕ → (ℕ → ℕ) → Type 0
AreBytes n values = (i : ℕ) → i < n → values i < 256

-- no two of the first n values are the same
abbrev pub AreDistinct : ℕ → (ℕ → ℕ) → Type 0
AreDistinct n values = (i j : ℕ) → i < n → j < n → values i ≡ values j → i ≡ j

-- a word of bytes whose parities are those of its held symbols
pub record IsSystematicCodeword (held total : ℕ) (matrix : ℕ → ℕ → ℕ) (w : ℕ → ℕ) : Type 0 where
  pub bytes : AreBytes total w
  pub parity : (k : ℕ) → held + k < total →
      w (held + k) ≡ field_sum held (λ j. product (matrix k j) (w j))

-- places at which a word is known: as many as are held, and none of them twice
pub record AreKnownPlaces (held total : ℕ) (known : List ℕ) : Type 0 where
  pub count : length known ≡ held
  pub below : All (λ p. p < total) known
  pub distinct : AreDistinct (length known) (slice_index known)

-- two words agree at each of these places
abbrev pub Agree : List ℕ → (ℕ → ℕ) → (ℕ → ℕ) → Type 0
Agree places v w = All (λ p. v p ≡ w p) places

-- At each byte position the wanted symbols are those of the one codeword that has the known ones as they were before: some
-- codeword has both, and each that has the known ones has the wanted ones. Before and after are position to word.
pub record AreSolved (IsCode : (ℕ → ℕ) → Type 0) (known wanted : List ℕ) (before after : ℕ → ℕ → ℕ)
    : Type 0 where
  pub some :
      (q : ℕ) → q < SECTOR →
      (c : ℕ → ℕ) × IsCode c × Agree known c (before q) × Agree wanted c (after q)
  pub each :
      (q : ℕ) (c : ℕ → ℕ) → q < SECTOR → IsCode c → Agree known c (before q) →
      Agree wanted c (after q)

-- the points of a square Cauchy matrix, x of its rows and y of its columns: bytes, and no two of them the same
pub record AreCauchyPoints (n : ℕ) (x y : ℕ → ℕ) : Type 0 where
  pub row_bytes : AreBytes n x
  pub column_bytes : AreBytes n y
  pub rows_distinct : AreDistinct n x
  pub columns_distinct : AreDistinct n y
  pub apart : (i j : ℕ) → i < n → j < n → x i ≢ y j
