-- The counts of a rack: of bad sectors, of gone slots, and of reads.
use Rattle.std.specs.Prelude.{◌≡◌, ◌⊎◌, ℕ, ◌+◌, ◌^◌, ◌<◌, ◌≤◌, Option, None, Some, option_map}
use Rattle.stair_rack.specs.declared.rack.Got.{Got}
use Rattle.stair_rack.specs.declared.rack.Got.TheVariants as got

-- a count at a later moment: it didn't fall, and where it fitted a u64 it still does
pub record IsLaterCount (old new : ℕ) : Type 0 where
  pub not_less : old ≤ new
  pub fits : old < 2 ^ 64 → new < 2 ^ 64

-- no count of bad sectors and of gone slots fell, and all go on to fit a u64
pub record NoneFalls (bads bads' : ℕ) (gones gones' : ℕ → ℕ) : Type 0 where
  pub bad : IsLaterCount bads bads'
  pub gone : (j : ℕ) → IsLaterCount (gones j) (gones' j)

-- The number of reads, where it is told, after a read with this answer: one more, or where the slot was gone at most one
-- more. A rack that tells it goes on to tell it, and one that doesn't goes on not to.
abbrev pub CountsRead : Got → Option ℕ → Option ℕ → Type 0
CountsRead got.Good old new = new ≡ option_map (λ n. n + 1) old
CountsRead got.Bad old new = new ≡ option_map (λ n. n + 1) old
CountsRead got.Gone old new = (new ≡ old) ⊎ (new ≡ option_map (λ n. n + 1) old)

-- a number, where it is told, rises by at most so much
abbrev pub RisesAtMost : ℕ → Option ℕ → Option ℕ → Type 0
RisesAtMost most None new = new ≡ None
RisesAtMost most (Some count) new = (later : ℕ) × (new ≡ Some later) × (later ≤ count + most)
