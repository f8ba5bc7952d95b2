-- Symbols, of which some are known, along a line.
use Rattle.std.specs.Prelude.{◌≡◌, ℕ, ◌<◌, ◌⊎◌, ◌↔◌, List, [], true, length, slice_index, slice_index_or, Contains}
use Rattle.stair_model.specs.CauchyCode.{AreSolved}
use Rattle.stair_mds.specs.Solving.{IsCodewordOf, Shape, along}
use Rattle.stair_mds.specs.declared.line.Line.{Line}
use Rattle.stair_canon.specs.Canonical.{KnownSymbols, bytes_of, is_known}

-- one of these places lies at symbol k
abbrev pub LiesAt : Line → List ℕ → ℕ → Type 0
LiesAt line places k = (p : ℕ) × Contains places p × (along line p ≡ k)

-- the memory of the symbols at these places holds their bytes, and that of known symbols is as it was
pub record FillsIn (line : Line) (places : List ℕ) (old new : KnownSymbols) : Type 0 where
  pub count : length new.memory ≡ length old.memory
  pub marks : new.known ≡ old.known
  pub filled :
      (i : ℕ) → i < length places →
      let k = along line (slice_index places i) in
      slice_index_or new.memory k [] ≡ bytes_of old k
  pub kept :
      (k : ℕ) → is_known old k ≡ true →
      slice_index_or new.memory k [] ≡ slice_index_or old.memory k []

-- the symbols at these places are known besides
pub record MakesKnown (line : Line) (places : List ℕ) (old new : KnownSymbols) : Type 0 where
  pub memory : new.memory ≡ old.memory
  pub marks : length new.known ≡ length old.known
  pub known :
      (k : ℕ) → (is_known new k ≡ true) ↔ ((is_known old k ≡ true) ⊎ LiesAt line places k)

-- the wanted symbols along the line are those of the one codeword that has the known ones; they are known from then on,
-- and nothing else has changed
pub record SolvesKnown (code : Shape) (line : Line) (known wanted : List ℕ) (old new : KnownSymbols)
    : Type 0 where
  pub count : length new.memory ≡ length old.memory
  pub marks : length new.known ≡ length old.known
  pub symbols : AreSolved (IsCodewordOf code) known wanted
      (λ q p. slice_index (bytes_of old (along line p)) q)
      (λ q p. slice_index (bytes_of new (along line p)) q)
  pub others : (k : ℕ) → ¬ LiesAt line wanted k → bytes_of new k ≡ bytes_of old k
  pub marked :
      (k : ℕ) → (is_known new k ≡ true) ↔ ((is_known old k ≡ true) ⊎ LiesAt line wanted k)
