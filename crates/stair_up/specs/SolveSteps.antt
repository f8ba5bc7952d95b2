-- How the symbols of codewords are found, one after another.
use Rattle.std.specs.Prelude.{◌≡◌, ℕ, ◌+◌, ◌<◌, ◌≤◌, List, slice_index}
use Rattle.stair_model.specs.Geometry.{Geometry, classes, coverage}
use Rattle.stair_model.specs.Codeword.{Word}
use Rattle.stair_model.specs.Canonical.{IsCanonicalCodeword}
use Rattle.stair_model.specs.Stripe.{Stripe, SECTOR, byte_of}
use Rattle.stair_model.specs.CellSet.{CellSet, HasCell, count_in_slot}
use Rattle.stair_model.specs.Coverage.{rest}
use Rattle.stair_canon.specs.Canonical.{CanonicalStripe, symbol, byte_at}

-- a canonical codeword at each byte position
abbrev pub AreCanonical : Geometry → (ℕ → Word) → Type 0
AreCanonical g x = (q : ℕ) → q < SECTOR → IsCanonicalCodeword g (x q)

-- the symbol in row i of column j is that of the codewords
abbrev pub IsFound : (ℕ → Word) → CanonicalStripe → ℕ → ℕ → Type 0
IsFound x c i j = (q : ℕ) → q < SECTOR → byte_at c q i j ≡ x q i j

-- the cells that aren't erased, and the global zeros, are those of the codewords
pub record HasGiven (g : Geometry) (erased : CellSet) (x : ℕ → Word) (c : CanonicalStripe)
    : Type 0 where
  pub held : (i j : ℕ) → i < g.r → j < g.n → ¬ HasCell erased i j → IsFound x c i j
  pub zeros : (l h : ℕ) → l < classes g → h < coverage g l → IsFound x c (g.r + h) (g.n + l)

-- what was found stays found
abbrev pub StaysFound : (ℕ → Word) → CanonicalStripe → CanonicalStripe → Type 0
StaysFound x old new = (i j : ℕ) → IsFound x old i j → IsFound x new i j

-- the cells that aren't erased stay as they were
pub record Keeps (erased : CellSet) (old new : CanonicalStripe) : Type 0 where
  pub geometry : new.geometry ≡ old.geometry
  pub held : (i j : ℕ) → i < old.geometry.r → j < old.geometry.n → ¬ HasCell erased i j →
      symbol new i j ≡ symbol old i j

-- of codewords whose given symbols are here, and the virtual symbols of a chunk below its number of erased cells, the
-- chunk's symbols below row r+height are found
abbrev pub FindsChunk : CellSet → ℕ → ℕ → CanonicalStripe → CanonicalStripe → Type 0
FindsChunk erased slot height old new =
    (x : ℕ → Word) → AreCanonical old.geometry x → HasGiven old.geometry erased x old →
    ((h : ℕ) → h < count_in_slot erased slot → IsFound x old (old.geometry.r + h) slot) →
    StaysFound x old new × ((i : ℕ) → i < old.geometry.r + height → IsFound x new i slot)

-- the virtual symbols from `from` on and below `to` of the chunks from place m on of the order are found where they were in
-- those after this place
abbrev pub FindsVirtualRows : CellSet → List ℕ → ℕ → ℕ → ℕ → CanonicalStripe → CanonicalStripe →
    Type 0
FindsVirtualRows erased columns place from to old new =
    (x : ℕ → Word) → AreCanonical old.geometry x → HasGiven old.geometry erased x old →
    ((p h : ℕ) → place < p → p < old.geometry.n → h < to →
    IsFound x old (old.geometry.r + h) (slice_index columns p)) →
    StaysFound x old new ×
    ((p h : ℕ) → old.geometry.m ≤ p → p < old.geometry.n → from ≤ h → h < to →
    IsFound x new (old.geometry.r + h) (slice_index columns p))

-- the cells of all chunks from place m on of the order are found
abbrev pub FindsLastChunks : CellSet → List ℕ → CanonicalStripe → CanonicalStripe → Type 0
FindsLastChunks erased columns old new =
    (x : ℕ → Word) → AreCanonical old.geometry x → HasGiven old.geometry erased x old →
    StaysFound x old new ×
    ((p i : ℕ) → old.geometry.m ≤ p → p < old.geometry.n → i < old.geometry.r →
    IsFound x new i (slice_index columns p))

-- the cells of a row in the chunks from this place on and before that one are found where they were in those from place m on
abbrev pub FindsStretch : List ℕ → ℕ → ℕ → ℕ → CanonicalStripe → CanonicalStripe → Type 0
FindsStretch columns row from to old new =
    (x : ℕ → Word) → AreCanonical old.geometry x →
    ((p : ℕ) → old.geometry.m ≤ p → p < old.geometry.n →
    IsFound x old row (slice_index columns p)) →
    StaysFound x old new × ((p : ℕ) → from ≤ p → p < to →
    IsFound x new row (slice_index columns p))

-- all cells of a row are found where they were in the chunks from place m on of the order
abbrev pub FindsRow : CellSet → List ℕ → ℕ → CanonicalStripe → CanonicalStripe → Type 0
FindsRow erased columns row old new =
    (x : ℕ → Word) → AreCanonical old.geometry x → HasGiven old.geometry erased x old →
    ((p : ℕ) → old.geometry.m ≤ p → p < old.geometry.n →
    IsFound x old row (slice_index columns p)) →
    StaysFound x old new × ((p : ℕ) → p < old.geometry.n →
    IsFound x new row (slice_index columns p))

-- all cells are found
abbrev pub FindsCells : CellSet → CanonicalStripe → CanonicalStripe → Type 0
FindsCells erased old new =
    (x : ℕ → Word) → AreCanonical old.geometry x → HasGiven old.geometry erased x old →
    (i j : ℕ) → i < old.geometry.r → j < old.geometry.n → IsFound x new i j

-- all cells of a row are found
abbrev pub FindsLightRow : CellSet → ℕ → CanonicalStripe → CanonicalStripe → Type 0
FindsLightRow erased row old new =
    (x : ℕ → Word) → AreCanonical old.geometry x → HasGiven old.geometry erased x old →
    StaysFound x old new × ((j : ℕ) → j < old.geometry.n → IsFound x new row j)

-- all cells but those of the rest are found
abbrev pub FindsLightRows : CellSet → CanonicalStripe → CanonicalStripe → Type 0
FindsLightRows erased old new =
    (x : ℕ → Word) → AreCanonical old.geometry x → HasGiven old.geometry erased x old →
    HasGiven old.geometry (rest old.geometry erased) x new

-- the stripe has the cells of all codewords with the held cells of the old one
abbrev pub FindsStripe : Geometry → CellSet → Stripe → Stripe → Type 0
FindsStripe g erased old new =
    (x : ℕ → Word) → AreCanonical g x →
    ((q i j : ℕ) → q < SECTOR → i < g.r → j < g.n → ¬ HasCell erased i j →
    byte_of old q i j ≡ x q i j) →
    (q i j : ℕ) → q < SECTOR → i < g.r → j < g.n → byte_of new q i j ≡ x q i j
