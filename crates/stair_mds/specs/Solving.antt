-- What solving makes of the symbols.
use Rattle.std.specs.Prelude.{◌≡◌, ◌≢◌, ℕ, ◌+◌, ◌*◌, ◌<◌, ◌≤◌, List, [], length, slice_index, slice_index_or, All, Contains}
use Rattle.stair_model.specs.CauchyCode.{AreDistinct, AreSolved, IsSystematicCodeword, coefficient}
use Rattle.stair_model.specs.Stripe.{SECTOR, symbol_byte}
use Rattle.stair_mds.specs.declared.line.Line.{Line}

-- a code of so many held symbols and so many places in all
pub record Shape : Type 0 where
  pub held : ℕ
  pub total : ℕ

-- a code and the places of the pattern that was prepared last; none where none was
pub record Code : Type 0 where
  pub shape : Shape
  pub known : List ℕ
  pub wanted : List ℕ

-- a pattern is prepared: as many places are known as the code holds
abbrev pub IsPrepared : Code → Type 0
IsPrepared code = length code.known ≡ code.shape.held

-- the word is a codeword of the Cauchy code
abbrev pub IsCodewordOf : Shape → (ℕ → ℕ) → Type 0
IsCodewordOf code w = IsSystematicCodeword code.held code.total (coefficient code.held) w

-- places to be solved: none of them twice, and none of them known
pub record AreWantedPlaces (code : Shape) (known wanted : List ℕ) : Type 0 where
  pub below : All (λ p. p < code.total) wanted
  pub distinct : AreDistinct (length wanted) (slice_index wanted)
  pub unknown : All (λ p. Contains known p → ⊥) wanted

-- the wanted symbols are those of the one codeword with the known ones, and all others are as they were
pub record Solves (code : Shape) (known wanted : List ℕ) (old new : List (List ℕ)) : Type 0 where
  pub count : length new ≡ length old
  pub others : (p : ℕ) → (Contains wanted p → ⊥) → slice_index_or new p [] ≡ slice_index_or old p []
  pub symbols : AreSolved (IsCodewordOf code) known wanted (symbol_byte old) (symbol_byte new)

-- the symbol at which place p of a code lies, along a line of symbols
abbrev pub along : Line → ℕ → ℕ
along line p = line.start + line.step * p

-- every place of the code lies at one of so many symbols, and no two at the same one
pub record IsLineOf (code : Shape) (count : ℕ) (line : Line) : Type 0 where
  pub apart : 1 ≤ line.step
  pub within : (p : ℕ) → p < code.total → along line p < count

-- before (position to word) has the first `read` known places as their symbols are, along the line, and
-- zero at the other known places, whatever lies there
pub record IsReadAlong (line : Line) (read : ℕ) (known : List ℕ) (symbols : List (List ℕ))
    (before : ℕ → ℕ → ℕ) : Type 0 where
  pub as_read :
      (i q : ℕ) → i < read → q < SECTOR →
      before q (slice_index known i) ≡ symbol_byte symbols q (along line (slice_index known i))
  pub zero :
      (i q : ℕ) → read ≤ i → i < length known → q < SECTOR →
      before q (slice_index known i) ≡ 0

-- the wanted symbols along the line are those of the one codeword with the known ones, as these are read,
-- and all other symbols are as they were
pub record SolvesAlong (code : Shape) (line : Line) (read : ℕ) (known wanted : List ℕ)
    (old new : List (List ℕ)) : Type 0 where
  pub count : length new ≡ length old
  pub others :
      (s : ℕ) → ((p : ℕ) → Contains wanted p → along line p ≢ s) →
      slice_index_or new s [] ≡ slice_index_or old s []
  pub symbols :
      (before : ℕ → ℕ → ℕ) → IsReadAlong line read known old before →
      AreSolved (IsCodewordOf code) known wanted before (λ q p. symbol_byte new q (along line p))
