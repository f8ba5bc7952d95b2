-- What a take from a source answers, and what it does to the bytes that are left, where the source tells them.
use Rattle.std.specs.Prelude.{ℕ, ◌≤◌, List, [], length, take, Option, None, Some, ⊤}
use Rattle.std.proofs.Common.{ap, arith, length-append}
use Rattle.std.proofs.lemmas.List.{length-take-le}
use Rattle.std.specs.Io.KnownBytes.{Consumes, IsAtEnd, Keeps}
use Rattle.stair_rack.specs.declared.source.Taken.{Taken}
use Rattle.stair_rack.specs.declared.source.Taken.TheVariants.{Bytes, End, Failed}

-- a take that gives bytes gives at least one, and at most `room`
abbrev pub TakesWithin : Taken → ℕ → Type 0
TakesWithin (Bytes k) room = (1 ≤ k) × (k ≤ room)
TakesWithin End room = ⊤
TakesWithin Failed room = ⊤

-- told bytes begin with the k bytes that were given and lose them; at the end none are left;
-- where no byte is given they stay as they were
abbrev pub TakeConsumes : Option (List ℕ) → Option (List ℕ) → Taken → List ℕ → Type 0
TakeConsumes old new (Bytes k) into = Consumes old new (take k into)
TakeConsumes old new End into = IsAtEnd old × Keeps old new
TakeConsumes old new Failed into = Keeps old new

-- where no told byte is left, no bytes come
pub TakeConsumes-none_left : (new : Option (List ℕ)) (k : ℕ) (into : List ℕ) →
    TakesWithin (Bytes k) (length into)
    → TakeConsumes (Some []) new (Bytes k) into → ⊥
TakeConsumes-none_left None k into within gives = gives
TakeConsumes-none_left (Some xs) k into within gives =
    omega (
      arith,
      ap length gives,
      length-append (take k into) xs,
      length-take-le k into within.1,
      within.0,
    )
