-- Images from which media were taken away, in which blank ones were put in, or in which cells were damaged. What was pulled
-- and lies outside isn't compared.
use Rattle.std.specs.Prelude.{◌≡◌, ◌⊎◌, ℕ, None, Some}
use Rattle.stair_rack.specs.Media.{Image, SlotImage}
use Rattle.stair_rack.specs.Sector.{Cell, Damaged}

-- the same cells, of which some may be damaged
abbrev pub AreDamagedCopies : (ℕ → Cell) → (ℕ → Cell) → Type 0
AreDamagedCopies was is = (k : ℕ) → (is k ≡ was k) ⊎ (is k ≡ Damaged)

-- each cell is damaged
abbrev pub AreAllDamaged : (ℕ → Cell) → Type 0
AreAllDamaged cells = (k : ℕ) → cells k ≡ Damaged

pub data IsDegradedSlot (more less : SlotImage) : Type 0 where
  -- the medium is taken away
  Taken : less.size ≡ None → AreAllDamaged less.cell → IsDegradedSlot more less
  -- a medium that was never written is put in
  Blank : (size : ℕ) → less.size ≡ Some size → AreAllDamaged less.cell → IsDegradedSlot more less
  -- the medium stays
  Stays : less.size ≡ more.size → AreDamagedCopies more.cell less.cell → IsDegradedSlot more less

abbrev pub IsDegraded : Image → Image → Type 0
IsDegraded more less = (j : ℕ) → IsDegradedSlot (more j) (less j)
