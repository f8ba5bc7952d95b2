-- A rack whose answers follow a list of bytes, as contracts see it.
use Rattle.std.specs.Prelude.{ℕ, ◌+◌, List, length, if◌then◌else◌, ◌==◌, nat_lt, slice_index, slice_set}
use Rattle.stair_rack.specs.Count.{one_more}
use Rattle.stair_rack.specs.declared.rack.Reply.{Reply}
use Rattle.stair_rack.specs.declared.rack.Reply.TheVariants as reply
use Rattle.stair_rack.specs.declared.rack.Got.{Got}
use Rattle.stair_rack.specs.declared.rack.Got.TheVariants as got
use Rattle.stair_memrack.specs.declared.record.Call.{Call}
use Rattle.stair_memrack.specs.declared.wild.Turn.{Turn}
use Rattle.stair_memrack.specs.declared.wild.Turn.TheVariants as turn
use Rattle.stair_memrack.specs.Record.{MemRackState, call_is_bad, call_is_gone, after_call}

pub record WildState : Type 0 where
  pub inner : MemRackState
  -- a byte for each call, beginning again after the last, and the place of the next one
  pub answers : List ℕ
  pub next : ℕ
  pub bads : ℕ
  pub gones : List ℕ

-- what a byte says of a call
abbrev pub turn_of : ℕ → Turn
turn_of byte = if nat_lt byte 200 then turn.Inner else (if nat_lt byte 220 then turn.Gone
    else (if nat_lt byte 240 then turn.Bad else turn.Wild byte))

abbrev pub next_turn : WildState → Turn
next_turn s = turn_of (slice_index s.answers s.next)

abbrev pub following : ℕ → ℕ → ℕ
following count n = if n + 1 == count then 0 else n + 1

-- what an attach, a write or a sync answers, where the inner rack would answer this
abbrev pub reply_by : Turn → Reply → Reply
reply_by turn.Inner answer = answer
reply_by turn.Gone answer = reply.Gone
reply_by turn.Bad answer = reply.Gone
reply_by (turn.Wild byte) answer = reply.Done

-- what a read answers
abbrev pub got_by : Turn → Got → Got
got_by turn.Inner answer = answer
got_by turn.Gone answer = got.Gone
got_by turn.Bad answer = got.Bad
got_by (turn.Wild byte) answer = got.Good

-- the inner rack takes the call where it is its turn
abbrev pub inner_after : Turn → ℕ → Call → MemRackState → MemRackState
inner_after turn.Inner j call s = after_call j call s
inner_after turn.Gone j call s = s
inner_after turn.Bad j call s = s
inner_after (turn.Wild byte) j call s = s

-- a call of slot j with this answer raises the counts
abbrev pub wild_counted : ℕ → Call → WildState → WildState
wild_counted j call s = record s {
  bads = if call_is_bad call then one_more s.bads else s.bads;
  gones = if call_is_gone call then slice_set s.gones j (one_more (slice_index s.gones j))
      else s.gones;
}

-- the rack after a call that took a byte
abbrev pub wild_after : ℕ → Call → WildState → WildState
wild_after j call s = wild_counted j call (record s {
  inner = inner_after (next_turn s) j call s.inner;
  next = following (length s.answers) s.next;
})
