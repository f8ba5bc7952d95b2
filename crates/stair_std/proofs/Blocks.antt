-- Which cells hold a block, as an optional number tells.
use Rattle.std.proofs.Common.{◌≡◌, ℕ, Option, Some, None, true, false, is_some, sym}
use Rattle.std.specs.Prelude.{MatchOption}
use Rattle.std.proofs.lemmas.Bool.{true≢false}

pub from_none : (found : Option ℕ) (P : Type 0) (Q : ℕ → Type 0) → MatchOption found P Q → is_some found ≡ false → P
from_none None P Q holds none = holds
from_none (Some d) P Q holds none = absurd (true≢false none)

pub from_some : (found : Option ℕ) (P : Type 0) (Q : ℕ → Type 0) → MatchOption found P Q → is_some found ≡ true → (d : ℕ) × Q d
from_some None P Q holds some = absurd (true≢false (sym some))
from_some (Some d) P Q holds some = (d, holds)
