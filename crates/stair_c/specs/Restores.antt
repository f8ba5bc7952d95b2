-- What restoring stripes in memory does. A byte for each sector says whether it is erased, in the order of the sectors.
use Rattle.std.specs.Prelude.{◌≡◌, ◌≢◌, ◌⊎◌, ◌↔◌, ℕ, ◌<◌, List, length, slice_index}
use Rattle.stair_model.specs.CellSet.{CellSet, HasCell, IsCellSet}
use Rattle.stair_model.specs.Coverage.{IsCovered}
use Rattle.stair_model.specs.Geometry.{Geometry, IsWithinLimits, IsFirstBrokenLimit}
use Rattle.stair_model.specs.Restoring.{IsRestored, SameHeld}
use Rattle.stair_model.specs.Stripe.{Stripe}
use Rattle.stair_c.specs.Chunks.{HasStripes, IsStripeAt, sector_number}
use Rattle.stair_c.specs.Statuses.{OK, SIZE, MEMORY}

-- more is erased in a stripe than the code covers
abbrev pub LOST : ℕ
LOST = 11

-- cell (i, j) of stripe s of k is erased: its byte isn't 0
abbrev pub IsErased : Geometry → ℕ → List ℕ → ℕ → ℕ → ℕ → Type 0
IsErased g k erased s i j = slice_index erased (sector_number g k s i j) ≢ 0

-- the erased cells of stripe s of k
pub record AreErasedAt (g : Geometry) (k : ℕ) (erased : List ℕ) (s : ℕ) (cells : CellSet) : Type 0 where
  pub formed : IsCellSet cells
  pub members : (i j : ℕ) → HasCell cells i j ↔ ((i < g.r) × (j < g.n) × IsErased g k erased s i j)

-- the erased cells of stripe s of k are covered
pub record IsCoveredAt (g : Geometry) (k : ℕ) (erased : List ℕ) (s : ℕ) : Type 0 where
  pub cells : CellSet
  pub are : AreErasedAt g k erased s cells
  pub covered : IsCovered g cells

-- stripe s of k was restored in place: its erased cells were covered, the others stayed, and it is each codeword that has them
pub record IsRestoredAt (g : Geometry) (k : ℕ) (erased : List ℕ) (old new : List (List ℕ)) (s : ℕ) : Type 0 where
  pub cells : CellSet
  pub before : Stripe
  pub after : Stripe
  pub are : AreErasedAt g k erased s cells
  pub was : IsStripeAt g k old s before
  pub is : IsStripeAt g k new s after
  pub covered : IsCovered g cells
  pub held : SameHeld g cells after before
  pub restored : IsRestored g cells before after

-- what restoring all stripes does, by its status
pub data Restores (g : Geometry) (erased : List ℕ) (old new : List (List ℕ)) : ℕ → Type 0 where
  done : IsWithinLimits g → (k : ℕ) → HasStripes g k old → HasStripes g k new → length erased ≡ length old →
      ((s : ℕ) → s < k → IsRestoredAt g k erased old new s) → Restores g erased old new OK
  limit : (status : ℕ) → IsFirstBrokenLimit g status → new ≡ old → Restores g erased old new status
  size : IsWithinLimits g → ((k : ℕ) → ¬ HasStripes g k old) ⊎ (length erased ≢ length old) → new ≡ old →
      Restores g erased old new SIZE
  lost : IsWithinLimits g → (k s : ℕ) → HasStripes g k old → length erased ≡ length old → s < k →
      ¬ IsCoveredAt g k erased s → new ≡ old → Restores g erased old new LOST
  memory : IsWithinLimits g → new ≡ old → Restores g erased old new MEMORY
