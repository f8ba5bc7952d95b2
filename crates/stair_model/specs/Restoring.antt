-- What the held cells of a stripe say of it.
use Rattle.std.specs.Prelude.{◌≡◌, ℕ, ◌<◌}
use Rattle.stair_model.specs.Geometry.{Geometry}
use Rattle.stair_model.specs.CellSet.{CellSet, HasCell}
use Rattle.stair_model.specs.Codeword.{IsCodeword}
use Rattle.stair_model.specs.Stripe.{Stripe, IsStripeOf, IsWellFormed, cell}

-- each cell that isn't erased has the same bytes in both stripes
abbrev pub SameHeld : Geometry → CellSet → Stripe → Stripe → Type 0
SameHeld g erased a b = (i j : ℕ) → i < g.r → j < g.n → ¬ HasCell erased i j →
    cell a i j ≡ cell b i j

-- the new stripe is each codeword that has the held cells of the old one
abbrev pub IsRestored : Geometry → CellSet → Stripe → Stripe → Type 0
IsRestored g erased old new =
    (c : Stripe) → IsStripeOf g c → IsWellFormed c → IsCodeword g c → SameHeld g erased c old →
    new ≡ c
