-- Texts of lines, and a program that takes one line after the other.
use Rattle.std.specs.Prelude.{◌≡◌, ◌⊎◌, ◌==◌, ◌+◌, ◌<◌, ℕ, zero, suc, Bool, nat_lt, List, [], ◌∷◌, ◌++◌, Option, None, Some, length, slice_index}
use Rattle.stair_command.specs.declared.fault.Fault.{Fault}
use Rattle.stair_command.specs.declared.fault.Fault.TheVariants as fault
use Rattle.stair_status.specs.declared.status.Status.TheVariants.{BadLine, Input}
use Rattle.stair_command.specs.Executes.{Gives}
use Rattle.stair_command.specs.Outside.{SourceView}
use Rattle.stair_command.specs.Program.{Program, Over, if_so, take_exactly}
use Rattle.stair_command.specs.Trace.{TakeFailed, Took, TookLast}

-- The lines of these bytes, in order: each but the last has its end (10). The last may have none, unless it is blank.
abbrev pub AreLines : {L : Type 0} → (List ℕ → L → Type 0) → List L → List ℕ → Type 0
AreLines Spells [] bytes = bytes ≡ []
AreLines Spells (said ∷ lines) bytes =
    ((lines ≡ []) × Spells bytes said × (0 < length bytes))
    ⊎ ((text rest : List ℕ) × Spells text said × (bytes ≡ text ++ 10 ∷ rest)
    × AreLines Spells lines rest)

-- a script has at most so many bytes, and so has any text of lines
abbrev pub SCRIPT_LIMIT : ℕ
SCRIPT_LIMIT = 1073741824

-- this byte ends a line (10)
abbrev pub ends_line : List ℕ → Bool
ends_line byte = slice_index byte 0 == 10

-- a byte was taken, or the end was seen; or the source failed
abbrev pub TakesByte : {S : Type 0} → SourceView S → Option ℕ → S → S → Type 0
TakesByte view (Some byte) old new = Gives view (Took (byte ∷ [])) old new
TakesByte view None old new = Gives view (TookLast []) old new

pub record FailsByte {S : Type 0} (view : SourceView S) (why : Fault) (old new : S) : Type 0 where
  pub is : why ≡ fault.Input
  pub gives : Gives view (TakeFailed []) old new

-- What a line of this number and of these bytes does, of a text whose lines before it came to this: the rest takes what they come
-- to with it.
abbrev pub LineDoes : Type 0 → Type 0
LineDoes X = (number : ℕ) → List ℕ → X → (X → Program) → Program

-- What stands after the last end of a line, up to the end of the text, is its last line, unless it is nothing.
abbrev pub last_of : {X : Type 0} → LineDoes X → (X → Program) → (number : ℕ) → List ℕ → X → Program
last_of does ends number [] x = ends x
last_of does ends number (byte ∷ line) x = does number (byte ∷ line) x ends

-- What is left of a text of at most so many bytes more, of whose line of this number these bytes came. A line has at most `longest`,
-- without its end. The text is taken byte by byte, so nothing is taken after the end of a line before that is done.
abbrev pub by_lines : {X : Type 0} → (longest : ℕ) → LineDoes X → (X → Program) → (room number : ℕ)
    → List ℕ → X → Program
by_lines longest does ends zero number line x =
    take_exactly 1 (λ more. Over (Input SCRIPT_LIMIT (SCRIPT_LIMIT + 1)))
    (λ none. last_of does ends number line x)
by_lines longest does ends (suc room) number line x =
    take_exactly 1 (λ byte. if_so (ends_line byte)
    (does number line x (by_lines longest does ends room (number + 1) []))
    (if_so (nat_lt (length line) longest)
    (by_lines longest does ends room number (line ++ byte) x) (Over (BadLine number))))
    (λ none. last_of does ends number line x)
