-- What each of the five calls leaves of a rack in memory.
use Rattle.std.specs.Prelude.{◌≡◌, ℕ, true, Some, slice_index}
use Rattle.stair_rack.specs.Count.{Rose}
use Rattle.stair_rack.specs.Answers.{IsAnswered, Calls, IsHistory}
use Rattle.stair_rack.specs.RackCounts.{NoneFalls}
use Rattle.stair_memrack.specs.declared.record.Call.{Call}
use Rattle.stair_memrack.specs.Record.{MemRackState, slot_call, history_of, moment, call_is_gone, call_is_bad, CountsReads, after_call}

pub record IsOneCall (old new : MemRackState) (j : ℕ) (call : Call) : Type 0 where
  pub answered : IsAnswered (moment old) j (slot_call call)
  pub after : new ≡ after_call j call old
  pub began : IsHistory (history_of old)
  pub told : Calls (history_of old) (history_of new) j (slot_call call)
  pub counts : NoneFalls old.bads new.bads (slice_index old.gones) (slice_index new.gones)
  pub gone : call_is_gone call ≡ true → Rose (slice_index old.gones j) (slice_index new.gones j)
  pub bad : call_is_bad call ≡ true → Rose old.bads new.bads
  pub reads : CountsReads call (Some old.reads) (Some new.reads)
