-- A sink over memory, as contracts see it.
use Rattle.std.specs.Prelude.{◌≡◌, ℕ, ◌-◌, List, ◌++◌, length, take, min}
use Rattle.stair_rack.specs.declared.sink.Put.{Put}
use Rattle.stair_rack.specs.declared.sink.Put.TheVariants.{Bytes, Failed}
use Rattle.stair_rack.specs.Count.{one_more}

-- the bytes that the sink holds, the most that it can hold, and the count of faults
pub record MemSinkState : Type 0 where
  pub held : List ℕ
  pub room : ℕ
  pub faults : ℕ

-- which answer a put of this many bytes gives: Bytes of as many as there is room for, Failed where
-- there is none
abbrev pub AnswersPut : MemSinkState → ℕ → Put → Type 0
AnswersPut s offered (Bytes k) = k ≡ min offered (s.room - length s.held)
AnswersPut s offered Failed = length s.held ≡ s.room

-- the sink after a put with this answer
abbrev pub after_put : MemSinkState → Put → List ℕ → MemSinkState
after_put s (Bytes k) from = record s { held = s.held ++ take k from }
after_put s Failed from = record s { faults = one_more s.faults }
