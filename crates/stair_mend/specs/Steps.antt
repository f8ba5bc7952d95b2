-- What one call of an array for its slots came to, as the answer of a step.
use Rattle.std.specs.Prelude.{ℕ, Result, Ok, Err}
use Rattle.stair_rack.specs.declared.rack.Reply.{Reply}
use Rattle.stair_rack.specs.declared.rack.Reply.TheVariants as reply
use Rattle.stair_array.specs.Machine.{Chunk, Dropped, Progress, Refusal}

-- of slot j's chunk of stripe t: it was written, its slot was gone and dropped, or it was refused
abbrev pub chunk_came : ℕ → ℕ → Result Reply Refusal → Result Progress Refusal
chunk_came j t (Ok reply.Done) = Ok (Chunk j t)
chunk_came j t (Ok reply.Gone) = Ok (Dropped j)
chunk_came j t (Err refusal) = Err refusal
