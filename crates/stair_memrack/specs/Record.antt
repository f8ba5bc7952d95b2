-- A rack in memory, as contracts see it: what it was made over, its script, and the record of its calls.
use Rattle.std.specs.Prelude.{◌≡◌, ℕ, ◌+◌, Bool, true, false, not, ◌||◌, List, [], ◌∷◌, length, replicate, ◌==◌, Option, None, Some, if◌then◌else◌, nat_lt, slice_index, slice_set}
use Rattle.stair_rack.specs.Count.{one_more}
use Rattle.stair_rack.specs.Sector.{Damaged}
use Rattle.stair_rack.specs.Media.{Image}
use Rattle.stair_rack.specs.History.{SlotCall, SlotState, Happening, Made, Stopped, Called, slot_state}
use Rattle.stair_rack.specs.History as slot
use Rattle.stair_rack.specs.RackCounts.{CountsRead}
use Rattle.stair_rack.specs.declared.rack.Reply.{Reply}
use Rattle.stair_rack.specs.declared.rack.Reply.TheVariants as reply
use Rattle.stair_rack.specs.declared.rack.Got.{Got}
use Rattle.stair_rack.specs.declared.rack.Got.TheVariants as got
use Rattle.stair_memrack.specs.declared.act.Act.{Act}
use Rattle.stair_memrack.specs.declared.record.Ask.{Ask}
use Rattle.stair_memrack.specs.declared.record.Ask.TheVariants as ask
use Rattle.stair_memrack.specs.declared.record.Call.{Call}
use Rattle.stair_memrack.specs.declared.record.Call.TheVariants.{Attach, Sectors, Read, Write, Sync}
use Rattle.stair_memrack.specs.declared.record.Recorded.{Recorded}
use Rattle.stair_memrack.specs.Script.{after_acts}
use Rattle.stair_memrack.specs.Origin.{OriginState, image_over}

pub record MemRackState : Type 0 where
  -- what each slot held when it was made
  pub made : List OriginState
  pub script : List Act
  -- for how many calls the record has room, and those that it holds, the newest first
  pub room : ℕ
  pub calls : List Recorded
  -- a call came after the record was spent
  pub spent : Bool
  -- the slots that were attached then, the last one first: of each the first attach that releases what was found before
  pub late : List ℕ
  -- the counts of bad sectors, of gone slots and of reads
  pub bads : ℕ
  pub gones : List ℕ
  pub reads : ℕ

-- blank media in the first slots, and none in the others
abbrev pub blank_image : ℕ → ℕ → Image
blank_image media sectors j = record {
  size = if nat_lt j media then Some sectors else None;
  cell = λ k. Damaged;
  removed = [];
}

abbrev pub slot_call : Call → SlotCall
slot_call (Attach answer) = slot.Attach answer
slot_call (Sectors size) = slot.Sectors size
slot_call (Read k answer) = slot.Read k answer
slot_call (Write k bytes answer) = slot.Write k bytes answer
slot_call (Sync answer) = slot.Sync answer

-- the history of a rack with this script that was made so, after these calls, before each of which its acts were done
abbrev pub after_calls : List Act → Happening → List Recorded → List Happening
after_calls script made [] = made ∷ []
after_calls script made (c ∷ calls) = Called c.slot (slot_call c.call)
    ∷ after_acts (length calls) script (after_calls script made calls)

-- the history up to the last call for which there was room
abbrev pub recorded : MemRackState → List Happening
recorded s = after_calls s.script (Made (image_over s.made)) s.calls

-- with these attaches of a stopped rack, the last one first
abbrev pub after_late : List ℕ → List Happening → List Happening
after_late [] h = h
after_late (j ∷ late) h = Called j (slot.Attach reply.Gone) ∷ after_late late h

-- the history of a rack that is stopped since its record is spent
abbrev pub stopped_by_record : MemRackState → List Happening
stopped_by_record s = after_late s.late (Stopped ∷ recorded s)

abbrev pub history_of : MemRackState → List Happening
history_of s = if s.spent then stopped_by_record s else recorded s

-- the record has room for a call
abbrev pub has_room : MemRackState → Bool
has_room s = nat_lt (length s.calls) s.room

-- The history up to the answer of the next call. The acts before it were done; where the record is spent the rack was
-- stopped.
abbrev pub moment : MemRackState → List Happening
moment s = if has_room s then after_acts (length s.calls) s.script (recorded s)
    else stopped_by_record s

-- a rack that was just made, over this, with this script and room for so many calls
abbrev pub new_rack : List OriginState → List Act → ℕ → MemRackState
new_rack made script room = record {
  made = made;
  script = script;
  room = room;
  calls = [];
  spent = false;
  late = [];
  bads = 0;
  gones = replicate 32 0;
  reads = 0;
}

-- WHAT WAS ANSWERED

-- the reply of an attach, a write or a sync, and Done of the others
abbrev pub reply_of : Call → Reply
reply_of (Attach answer) = answer
reply_of (Sectors size) = reply.Done
reply_of (Read k answer) = reply.Done
reply_of (Write k bytes answer) = answer
reply_of (Sync answer) = answer

-- what `sectors` answered, and 0 of the others
abbrev pub number_of : Call → ℕ
number_of (Sectors size) = size
number_of call = 0

-- what a read got, and Good of the others
abbrev pub got_of : Call → Got
got_of (Read k answer) = answer
got_of call = got.Good

-- the call is what was asked, with its answer
abbrev pub IsAnswerTo : Ask → Call → Type 0
IsAnswerTo ask.Attach call = call ≡ Attach (reply_of call)
IsAnswerTo ask.Sectors call = call ≡ Sectors (number_of call)
IsAnswerTo (ask.Read k) call = call ≡ Read k (got_of call)
IsAnswerTo (ask.Write k bytes) call = call ≡ Write k bytes (reply_of call)
IsAnswerTo ask.Sync call = call ≡ Sync (reply_of call)

-- THE COUNTS

abbrev pub is_gone : Reply → Bool
is_gone reply.Done = false
is_gone reply.Gone = true

abbrev pub is_gone_got : Got → Bool
is_gone_got got.Good = false
is_gone_got got.Bad = false
is_gone_got got.Gone = true

abbrev pub is_bad : Got → Bool
is_bad got.Good = false
is_bad got.Bad = true
is_bad got.Gone = false

-- the call was answered as gone
abbrev pub call_is_gone : Call → Bool
call_is_gone (Attach answer) = is_gone answer
call_is_gone (Sectors size) = false
call_is_gone (Read k answer) = is_gone_got answer
call_is_gone (Write k bytes answer) = is_gone answer
call_is_gone (Sync answer) = is_gone answer

-- the call was answered as bad
abbrev pub call_is_bad : Call → Bool
call_is_bad call = is_bad (got_of call)

abbrev pub call_is_read : Call → Bool
call_is_read (Read k answer) = true
call_is_read call = false

-- the number of reads after a call: after a read as after one with its answer, and else unchanged
abbrev pub CountsReads : Call → Option ℕ → Option ℕ → Type 0
CountsReads (Read k answer) old new = CountsRead answer old new
CountsReads call old new = new ≡ old

-- a call with this answer raises the counts
abbrev pub counted : ℕ → Call → MemRackState → MemRackState
counted j call s = record s {
  bads = if call_is_bad call then one_more s.bads else s.bads;
  gones = if call_is_gone call then slice_set s.gones j (one_more (slice_index s.gones j))
      else s.gones;
}

-- it is recorded
abbrev pub with_call : ℕ → Call → MemRackState → MemRackState
with_call j call s = record s {
  calls = record { slot = j; call = call } ∷ s.calls;
  reads = if call_is_read call then s.reads + 1 else s.reads;
}

-- the call is an attach of a slot of which something was found before
abbrev pub lets_go : Call → SlotState → Bool
lets_go (Attach answer) b = b.attached || not (b.found == 0)
lets_go call b = false

-- there was no room for it: the rack is stopped, and the call is told where it releases what was found
abbrev pub without_room : ℕ → Call → MemRackState → MemRackState
without_room j call s = record s {
  spent = true;
  late = if lets_go call (slot_state (moment s) j) then j ∷ s.late else s.late;
}

-- The rack after a call of slot j with its answer. The record takes it where there is room, and else the rack is stopped.
abbrev pub after_call : ℕ → Call → MemRackState → MemRackState
after_call j call s = counted j call
    (if has_room s then with_call j call s else without_room j call s)
