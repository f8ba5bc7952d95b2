-- What `restore` answers for a map and a stripe.
use Rattle.std.specs.Prelude.{◌≡◌, ◌≢◌, ℕ, ◌+◌, ◌*◌, ◌<◌, ◌≤◌, ◌↔◌, List, [], length, slice_index}
use Rattle.std.specs.List.{concat}
use Rattle.stair_model.specs.Geometry.{Geometry}
use Rattle.stair_model.specs.Stripe.{Stripe, IsStripeOf, IsWellFormed}
use Rattle.stair_model.specs.CellSet.{CellSet, HasCell, IsInStripe, count_in_slot}
use Rattle.stair_model.specs.Codeword.{IsCodeword}
use Rattle.stair_model.specs.Coverage.{IsCovered}
use Rattle.stair_model.specs.Restoring.{SameHeld}
use Rattle.stair_status.specs.declared.status.Status.{Status}
use Rattle.stair_status.specs.declared.status.Status.TheVariants.{Done, NoCodeword, Lost}

-- the erased cells are those whose byte of the map, row by row, is not `.`
pub record IsErasedBy (g : Geometry) (map : List ℕ) (erased : CellSet) : Type 0 where
  pub within : IsInStripe g erased
  pub marked : (i j : ℕ) → i < g.r → j < g.n →
      HasCell erased i j ↔ (slice_index map (i * g.n + j) ≢ 46)

-- a codeword of the geometry that has the stripe's cells, but for the erased ones
pub record HoldsCells (g : Geometry) (erased : CellSet) (stripe codeword : Stripe) : Type 0 where
  pub of : IsStripeOf g codeword
  pub well_formed : IsWellFormed codeword
  pub meets_equations : IsCodeword g codeword
  pub held : SameHeld g erased codeword stripe

-- how many cells of each slot are erased, and zeros after them
pub record CountsErased (g : Geometry) (erased : CellSet) (counts : List ℕ) : Type 0 where
  pub count : length counts ≡ 32
  pub slots : (j : ℕ) → j < g.n → slice_index counts j ≡ count_in_slot erased j
  pub behind : (j : ℕ) → g.n ≤ j → slice_index counts j ≡ 0

-- the status and the output for a stripe with these erased cells
abbrev pub JudgesErased : Geometry → CellSet → Stripe → Status → List ℕ → Type 0
JudgesErased g erased stripe (Lost number counts n) output =
    (¬ IsCovered g erased) × (number ≡ 0) × CountsErased g erased counts × (n ≡ g.n) × (output ≡ [])
JudgesErased g erased stripe NoCodeword output =
    IsCovered g erased × ((codeword : Stripe) → ¬ HoldsCells g erased stripe codeword)
    × (output ≡ [])
JudgesErased g erased stripe Done output =
    IsCovered g erased × ((codeword : Stripe) × HoldsCells g erased stripe codeword
    × (output ≡ concat codeword.cells))
JudgesErased g erased stripe _ output = ⊥
