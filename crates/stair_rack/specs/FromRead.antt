-- A source over a reader, as contracts see it.
use Rattle.std.specs.Prelude.{◌≡◌, ℕ, Bool, true, List, Option, Result, Ok, Err, ◌==◌, if◌then◌else◌}
use Rattle.std.specs.Io.KnownBytes.{IsAtEnd}
use Rattle.stair_rack.specs.declared.source.Taken.{Taken}
use Rattle.stair_rack.specs.declared.source.Taken.TheVariants.{Bytes, End, Failed}
use Rattle.stair_rack.specs.Count.{one_more}

-- the bytes that the reader is known to have left, the count of faults, and whether End was answered
pub record FromReadState : Type 0 where
  pub left : Option (List ℕ)
  pub faults : ℕ
  pub ended : Bool

-- a source that has ended has no known byte left
pub record IsSoundFromRead (left : Option (List ℕ)) (ended : Bool) : Type 0 where
  pub none_left : ended ≡ true → IsAtEnd left

-- the count of faults after a take with this answer: one more at a fault, and else the same
abbrev pub faults_after_take : ℕ → Taken → ℕ
faults_after_take faults (Bytes k) = faults
faults_after_take faults End = faults
faults_after_take faults Failed = one_more faults

-- what a take answers for the answer of a read: for 0 bytes the end, and a fault for every error
abbrev pub taken_of : {E : Type 0} → Result ℕ E → Taken
taken_of (Ok count) = if count == 0 then End else Bytes count
taken_of (Err error) = Failed
