-- What the search for the first broken equation finds on its way.
use Rattle.std.specs.Prelude.{◌≡◌, ◌≢◌, ℕ, ◌+◌, ◌<◌, List, Option, slice_index, MatchOption}
use Rattle.stair_model.specs.Geometry.{Geometry}
use Rattle.stair_model.specs.Stripe.{Stripe, SECTOR, symbol_byte, byte_of}
use Rattle.stair_model.specs.Codeword.{MeetsRowEquations, MeetsGlobalEquations, row_sum}
use Rattle.stair_model.specs.Equation.{Equation, RowEquation, GlobalEquation}
use Rattle.stair_base.specs.declared.equations.Broken.{Broken}
use Rattle.stair_base.specs.declared.equations.Broken.TheVariants.{Row, Global}

abbrev pub equation_of : Broken → Equation
equation_of (Row i k p) = RowEquation i k p
equation_of (Global l h p) = GlobalEquation l h p

abbrev pub RowEquationsHold : Geometry → Stripe → Type 0
RowEquationsHold g stripe = (p : ℕ) → p < SECTOR → MeetsRowEquations g (byte_of stripe p)

abbrev pub GlobalEquationsHold : Geometry → Stripe → Type 0
GlobalEquationsHold g stripe = (p : ℕ) → p < SECTOR → MeetsGlobalEquations g (byte_of stripe p)

-- the symbols are those of intermediate chunk l
abbrev pub IsIntermediateChunk : Geometry → Stripe → ℕ → List (List ℕ) → Type 0
IsIntermediateChunk g stripe l symbols =
    (i p : ℕ) → i < g.r → p < SECTOR → symbol_byte symbols p i
    ≡ row_sum g (byte_of stripe p) i (g.m + l)

-- the bytes agree, or differ first at this one
abbrev pub FirstDifference : List ℕ → List ℕ → Option ℕ → Type 0
FirstDifference a b found =
    MatchOption found ((p : ℕ) → p < SECTOR → slice_index a p ≡ slice_index b p)
    (λ p. (p < SECTOR) × (slice_index a p ≢ slice_index b p)
    × ((q : ℕ) → q < p → slice_index a q ≡ slice_index b q))
