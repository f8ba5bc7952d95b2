-- Which blocks of the input of a `write` were written.
use Rattle.std.specs.Prelude.{◌≡◌, ◌+◌, ℕ, List, [], ◌∷◌, ◌++◌, length, Ok, ⊤}
use Rattle.stair_array.specs.Machine.{WriteBlocks}
use Rattle.stair_command.specs.Trace.{TraceItem, Stepped}
use Rattle.stair_status.specs.declared.status.Status.{Status}
use Rattle.stair_status.specs.declared.status.Status.TheVariants.{Done, Input, InputFault, OutputFault}

-- The acknowledged writes of a trace wrote these contents, from `block` on, and no others.
abbrev pub AreWritten : ℕ → List (List ℕ) → List TraceItem → Type 0
AreWritten block contents [] = contents ≡ []
AreWritten block contents (Stepped (WriteBlocks first some) (Ok done) events left ∷ trace) =
    (first ≡ block) × (rest : List (List ℕ)) × (contents ≡ some ++ rest)
    × AreWritten (block + length some) rest trace
AreWritten block contents (_ ∷ trace) = AreWritten block contents trace

-- No step was refused: all was done, or the input or the sink ended the call.
abbrev pub IsUnrefused : Status → Type 0
IsUnrefused Done = ⊤
IsUnrefused (Input needed took) = ⊤
IsUnrefused InputFault = ⊤
IsUnrefused OutputFault = ⊤
IsUnrefused _ = ⊥
