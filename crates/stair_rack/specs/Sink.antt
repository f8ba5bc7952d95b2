-- What a put into a sink answers, and what it does to the bytes that the sink holds, where it tells them.
use Rattle.std.specs.Prelude.{ℕ, ◌≤◌, List, take, Option, ⊤}
use Rattle.std.specs.Io.KnownBytes.{Appends, Keeps}
use Rattle.stair_rack.specs.declared.sink.Put.{Put}
use Rattle.stair_rack.specs.declared.sink.Put.TheVariants.{Bytes, Failed}

-- a put that takes bytes takes at least one, and at most `offered`
abbrev pub PutsWithin : Put → ℕ → Type 0
PutsWithin (Bytes k) offered = (1 ≤ k) × (k ≤ offered)
PutsWithin Failed offered = ⊤

-- told bytes grow by the first k bytes of the piece; where no byte is taken they stay as they were
abbrev pub PutAppends : Option (List ℕ) → Option (List ℕ) → Put → List ℕ → Type 0
PutAppends old new (Bytes k) from = Appends old new (take k from)
PutAppends old new Failed from = Keeps old new
