-- What is taken from a source on the way to an answer.
use Rattle.std.specs.Prelude.{◌≡◌, ℕ, ◌+◌, ◌<◌, ◌≤◌, false, List, [], ◌∷◌, length, Result, Ok, Err, IfOk, ⊤}
use Rattle.std.specs.Io.KnownBytes.{Consumes}
use Rattle.stair_command.specs.declared.fault.Fault.{Fault}
use Rattle.stair_command.specs.declared.fault.Fault.TheVariants as fault
use Rattle.stair_command.specs.declared.intake.Intake.{Intake}
use Rattle.stair_command.specs.Fault.{status_of_fault}
use Rattle.stair_command.specs.Executes.{Gives}
use Rattle.stair_command.specs.Outside.{SourceView}
use Rattle.stair_command.specs.Program.{Program, Over, whole_input}
use Rattle.stair_command.specs.Trace.{TraceItem, Took, TookLast, TakeFailed, AlongTrace, StepsProgram}

-- the intake before anything was taken
abbrev pub intake_of : ℕ → Intake
intake_of needed = record { needed = needed; took = 0 }

-- These bytes were taken so far, in any number of pieces, and the source has not ended. Where none were
-- it isn't known whether it had ended before.
pub record TookSoFar {S : Type 0} (view : SourceView S) (bytes : List ℕ) (old new : S)
    : Type 0 where
  pub consumed : Consumes (view.left old) (view.left new) bytes
  pub count : view.faults old ≤ view.faults new
  pub running : 0 < length bytes → (view.ended old ≡ false) × (view.ended new ≡ false)
  pub fresh : length bytes ≡ 0 → view.ended new ≡ view.ended old

-- exactly these bytes were taken, and counted
pub record TakesBytes {S : Type 0} (view : SourceView S) (first now : Intake) (bytes : List ℕ)
    (old new : S) : Type 0 where
  pub taken : TookSoFar view bytes old new
  pub counted : now ≡ record first { took = first.took + length bytes }

-- Why not all bytes of a piece came, of which the intake had counted some before: the source ended
-- within it, or failed.
abbrev pub CutsShort : {S : Type 0} → SourceView S → Intake → S → S → Fault → Type 0
CutsShort view intake old new (fault.Length needed took) =
    (needed ≡ intake.needed) × ((taken : List ℕ) × (took ≡ intake.took + length taken)
    × (took < needed) × Gives view (TookLast taken) old new)
CutsShort view intake old new fault.Input =
    (taken : List ℕ) × (intake.took + length taken < intake.needed)
    × Gives view (TakeFailed taken) old new
CutsShort view intake old new _ = ⊥

-- Why fewer bytes than `least` came of a piece, where the intake had counted some before.
abbrev pub PieceIsCut : {S : Type 0} → SourceView S → (least : ℕ) → Intake → S → S → Fault → Type 0
PieceIsCut view least intake old new (fault.Length needed took) =
    (needed ≡ intake.needed) × ((taken : List ℕ) × (took ≡ intake.took + length taken)
    × (length taken < least) × Gives view (TookLast taken) old new)
PieceIsCut view least intake old new fault.Input =
    (taken : List ℕ) × (length taken < least) × Gives view (TakeFailed taken) old new
PieceIsCut view least intake old new _ = ⊥

-- Why the end was not found after the bytes that are needed: one more came, or the source failed.
abbrev pub GoesOn : {S : Type 0} → SourceView S → ℕ → S → S → Fault → Type 0
GoesOn view bytes old new (fault.Length needed took) = (needed ≡ bytes) × (took ≡ bytes + 1)
    × ((more : List ℕ) × (length more ≡ 1) × Gives view (Took more) old new)
GoesOn view bytes old new fault.Input = Gives view (TakeFailed []) old new
GoesOn view bytes old new _ = ⊥

-- the items take from a source, and nothing else
abbrev pub TakesOnly : List TraceItem → Type 0
TakesOnly [] = ⊤
TakesOnly (Took bytes ∷ trace) = TakesOnly trace
TakesOnly (TookLast bytes ∷ trace) = TakesOnly trace
TakesOnly (TakeFailed bytes ∷ trace) = TakesOnly trace
TakesOnly (_ ∷ trace) = ⊥

-- how a program goes on after its input
abbrev pub after_input : {T : Type 0} → Result T Fault → List ℕ → (List ℕ → Program) → Program
after_input (Ok x) bytes k = k bytes
after_input (Err fault) bytes k = Over (status_of_fault fault)

-- All of the input was taken, these bytes, and the end was seen after them; or it was refused.
pub record TakesWhole {S T : Type 0} (view : SourceView S) (needed : ℕ) (result : Result T Fault)
    (IsInput : T → List ℕ → Type 0) (old new : S) : Type 0 where
  pub bytes : List ℕ
  pub is_input : IfOk result (λ x. IsInput x bytes)
  pub trace : List TraceItem
  pub takes_only : TakesOnly trace
  pub follows : (k : List ℕ → Program) →
      AlongTrace StepsProgram trace (whole_input needed k) (after_input result bytes k)
  pub gives : AlongTrace (Gives view) trace old new
