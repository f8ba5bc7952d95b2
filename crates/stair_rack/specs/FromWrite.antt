-- A sink over a writer, as contracts see it.
use Rattle.std.specs.Prelude.{ℕ, List, Option, Result, Ok, Err, ◌==◌, if◌then◌else◌}
use Rattle.stair_rack.specs.declared.sink.Put.{Put}
use Rattle.stair_rack.specs.declared.sink.Put.TheVariants.{Bytes, Failed}
use Rattle.stair_rack.specs.Count.{one_more}

-- the bytes that the writer is known to hold, and the count of faults
pub record FromWriteState : Type 0 where
  pub held : Option (List ℕ)
  pub faults : ℕ

-- the count of faults after a put with this answer: one more at a fault, and else the same
abbrev pub faults_after_put : ℕ → Put → ℕ
faults_after_put faults (Bytes k) = faults
faults_after_put faults Failed = one_more faults

-- what a put answers for the answer of a write: a fault for 0 bytes, and for every error
abbrev pub put_of : {E : Type 0} → Result ℕ E → Put
put_of (Ok count) = if count == 0 then Failed else Bytes count
put_of (Err error) = Failed
