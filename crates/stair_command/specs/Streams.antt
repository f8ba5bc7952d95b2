-- What is taken from a source and put into a sink by more than one call.
use Rattle.std.specs.Prelude.{ℕ, ◌<◌, ◌≤◌, List, length, take, Result, MatchResult}
use Rattle.stair_command.specs.declared.streams.Filled.{Filled}
use Rattle.stair_command.specs.declared.streams.Filled.TheVariants.{Enough, Short, Failed}
use Rattle.stair_command.specs.Executes.{Gives, Holds}
use Rattle.stair_command.specs.Outside.{SinkView, SourceView}
use Rattle.stair_command.specs.Trace.{IsPart, Took, TookLast, TakeFailed, HasPut, PutFailed}

-- the front of a piece was taken, at least so many bytes or fewer
abbrev pub FillGives : {S : Type 0} → SourceView S → ℕ → Filled → List ℕ → S → S → Type 0
FillGives view least (Enough count) into old new = (least ≤ count) × (count ≤ length into)
    × Gives view (Took (take count into)) old new
FillGives view least (Short count) into old new = (count < least)
    × Gives view (TookLast (take count into)) old new
FillGives view least Failed into old new = (taken : List ℕ) × (length taken < least)
    × Gives view (TakeFailed taken) old new

-- the bytes were put, or after a fault a part of them
abbrev pub PutsAll : {K T E : Type 0} → SinkView K → Result T E → List ℕ → K → K → Type 0
PutsAll view result bytes old new = MatchResult result
    (λ _. Holds view (HasPut bytes) old new)
    (λ _. (part : List ℕ) × IsPart part bytes × Holds view (PutFailed part) old new)
