-- The order of the equations: rows by row, parity and byte, then globals by class, number and byte.
use Rattle.std.specs.Prelude.{◌≡◌, ℕ, ◌<◌, ◌⊎◌}
use Rattle.stair_model.specs.Geometry.{Geometry, classes, coverage}
use Rattle.stair_model.specs.Stripe.{Stripe, SECTOR, byte_of}
use Rattle.stair_model.specs.Codeword.{IsRowEquation, IsGlobalEquation}

pub data Equation : Type 0 where
  -- row parity k of row i, at byte p
  RowEquation : (i k p : ℕ) → Equation
  -- global parity h of class l, at byte p
  GlobalEquation : (l h p : ℕ) → Equation

-- the equation is one of the geometry's
abbrev pub IsEquationOf : Geometry → Equation → Type 0
IsEquationOf g (RowEquation i k p) = (i < g.r) × (k < g.m) × (p < SECTOR)
IsEquationOf g (GlobalEquation l h p) = (l < classes g) × (h < coverage g l) × (p < SECTOR)

abbrev pub HoldsIn : Geometry → Stripe → Equation → Type 0
HoldsIn g stripe (RowEquation i k p) = IsRowEquation g (byte_of stripe p) i k
HoldsIn g stripe (GlobalEquation l h p) = IsGlobalEquation g (byte_of stripe p) l h

-- (a, b, c) before (x, y, z), by the first number in which they differ
abbrev pub ComesBefore : ℕ → ℕ → ℕ → ℕ → ℕ → ℕ → Type 0
ComesBefore a b c x y z = (a < x) ⊎ ((a ≡ x) × (b < y)) ⊎ ((a ≡ x) × (b ≡ y) × (c < z))

abbrev pub Precedes : Equation → Equation → Type 0
Precedes (RowEquation i k p) (RowEquation x y z) = ComesBefore i k p x y z
Precedes (RowEquation i k p) (GlobalEquation x y z) = Unit {0}
Precedes (GlobalEquation l h p) (RowEquation x y z) = ⊥
Precedes (GlobalEquation l h p) (GlobalEquation x y z) = ComesBefore l h p x y z

-- the stripe breaks this equation, and each that precedes it holds
pub record IsFirstBroken (g : Geometry) (stripe : Stripe) (equation : Equation) : Type 0 where
  pub of : IsEquationOf g equation
  pub broken : ¬ HoldsIn g stripe equation
  pub first : (earlier : Equation) → IsEquationOf g earlier → Precedes earlier equation →
      HoldsIn g stripe earlier
