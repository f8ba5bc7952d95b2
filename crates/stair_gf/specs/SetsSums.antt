-- What a call that makes symbols sums of multiples of others makes of them.
use Rattle.std.specs.Prelude.{◌≡◌, ◌≢◌, ℕ, ◌+◌, ◌*◌, ◌<◌, ◌≤◌, List, [], All, Contains, length, slice_index, slice_index_or}
use Rattle.stair_model.specs.CauchyCode.{AreDistinct}
use Rattle.stair_model.specs.Field.{product}
use Rattle.stair_model.specs.Stripe.{SECTOR, symbol_byte}
use Rattle.stair_model.specs.Sum.{field_sum}

-- places of symbols that differ, none of which is one of the others
pub record AreApart (count : ℕ) (into from : List ℕ) : Type 0 where
  pub below : All (λ p. p < count) into
  pub sources : All (λ p. p < count) from
  pub distinct : AreDistinct (length into) (slice_index into)
  pub apart : All (λ p. Contains from p → ⊥) into

-- the sum of the first n of these symbols at byte k, each times its factor: those from number `first` on
abbrev pub part_by : List (List ℕ) → List ℕ → List ℕ → ℕ → ℕ → ℕ → ℕ
part_by symbols from by first k n = field_sum n (λ i. product (slice_index by (first + i))
    (symbol_byte symbols k (slice_index from i)))

-- and of all of them
abbrev pub sum_by : List (List ℕ) → List ℕ → List ℕ → ℕ → ℕ → ℕ
sum_by symbols from by first k = part_by symbols from by first k (length from)

-- the symbols at the places `into` from number `first` on and before `last` are such sums of what the
-- others were, the d-th by the factors from number d·width on; all other symbols stay
pub record SetsSumsWithin (old new : List (List ℕ)) (into from by : List ℕ) (width first last : ℕ)
    : Type 0 where
  pub count : length new ≡ length old
  pub others :
      (p : ℕ) → ((d : ℕ) → first ≤ d → d < last → slice_index into d ≢ p) →
      slice_index_or new p [] ≡ slice_index_or old p []
  pub long :
      (d : ℕ) → first ≤ d → d < last →
      length (slice_index_or new (slice_index into d) []) ≡ SECTOR
  pub bytes :
      (d k : ℕ) → first ≤ d → d < last → k < SECTOR →
      symbol_byte new k (slice_index into d) ≡ sum_by old from by (d * width) k

-- all of them are
abbrev pub SetsSums : List (List ℕ) → List (List ℕ) → List ℕ → List ℕ → List ℕ → ℕ → Type 0
SetsSums old new into from by width =
    SetsSumsWithin old new into from by width 0 (length into)
