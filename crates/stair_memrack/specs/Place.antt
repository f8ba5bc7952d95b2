-- A slot in memory, as contracts see it.
use Rattle.std.specs.Prelude.{ℕ, Bool, true, false, not, ◌&&◌, ◌||◌, ◌==◌, List, [], ◌∷◌, ◌++◌, length, map, Option, None, Some, is_some, if◌then◌else◌, nat_lt, slice_get, slice_set, remove, option_map}
use Rattle.stair_rack.specs.Answers.{reply_if, is_good}
use Rattle.stair_rack.specs.declared.rack.Reply.{Reply}
use Rattle.stair_rack.specs.declared.rack.Reply.TheVariants as reply
use Rattle.stair_rack.specs.declared.rack.Got.{Got}
use Rattle.stair_rack.specs.declared.rack.Got.TheVariants as got
use Rattle.stair_memrack.specs.declared.disk.StoredSector.{StoredSector}
use Rattle.stair_memrack.specs.declared.disk.Settling.{Settling}
use Rattle.stair_memrack.specs.declared.disk.Settling.TheVariants.{AsRead}
use Rattle.stair_memrack.specs.declared.record.Ask.{Ask}
use Rattle.stair_memrack.specs.declared.record.Ask.TheVariants as ask
use Rattle.stair_memrack.specs.declared.record.Call.{Call}
use Rattle.stair_memrack.specs.declared.record.Call.TheVariants as call
use Rattle.stair_memrack.specs.Disk.{cell_of, unwritten, settle, written, stored_at, stored_in}

pub record PlaceState : Type 0 where
  -- the sectors of its medium, None where it holds none
  pub medium : Option (List StoredSector)
  -- its drawer: the media that were pulled from it and aren't back in it, the first of them first
  pub removed : List (List StoredSector)
  pub attached : Bool
  -- the number of sectors that the last attach found
  pub found : ℕ
  -- for how many media the drawer has memory
  pub room : ℕ

abbrev pub no_place : PlaceState
no_place = record { medium = None; removed = []; attached = false; found = 0; room = 0 }

-- What the outside does to it, and nothing where that doesn't apply.

abbrev pub with_pulled : Settling → Option (List StoredSector) → PlaceState → PlaceState
with_pulled how None p = p
with_pulled how (Some sectors) p = record p {
  medium = None;
  removed = p.removed ++ map (settle how) sectors ∷ [];
  attached = false;
}

-- its medium settles so
abbrev pub pulled : Settling → PlaceState → PlaceState
pulled how p = with_pulled how p.medium p

abbrev pub inserted : Option (List StoredSector) → PlaceState → PlaceState
inserted medium p = if is_some p.medium then p else record p { medium = medium }

abbrev pub inserted_old : ℕ → PlaceState → PlaceState
inserted_old i p =
    if not (is_some p.medium) && nat_lt i (length p.removed)
    then record p {
      medium = option_map (map (settle AsRead)) (slice_get p.removed i);
      removed = remove p.removed i;
    } else p

abbrev pub damaged_at : ℕ → PlaceState → PlaceState
damaged_at k p = record p {
  medium = option_map
      (λ sectors. slice_set sectors k unwritten) p.medium;
}

-- What it answers, and what it is afterwards.

abbrev pub size_of : Option (List StoredSector) → ℕ
size_of None = 0
size_of (Some sectors) = length sectors

abbrev pub is_open : Bool → PlaceState → Bool
is_open stopped p = p.attached && not stopped

abbrev pub attach_reply : Bool → PlaceState → Reply
attach_reply stopped p = reply_if (is_some p.medium && not stopped)

abbrev pub attached_as : Reply → PlaceState → PlaceState
attached_as reply.Done p = record p { attached = true; found = size_of p.medium }
attached_as reply.Gone p = record p { attached = false; found = 0 }

abbrev pub read_got : Bool → ℕ → PlaceState → Got
read_got stopped k p = if is_open stopped p then (if is_good (cell_of (stored_in p.medium k).now)
    then got.Good else got.Bad) else got.Gone

abbrev pub write_reply : Bool → ℕ → PlaceState → Reply
write_reply stopped k p = reply_if (is_open stopped p && nat_lt k (size_of p.medium))

abbrev pub written_as : ℕ → List ℕ → Reply → PlaceState → PlaceState
written_as k bytes reply.Done p =
    record p {
      medium = option_map (λ sectors. slice_set sectors k (written bytes
          (stored_at sectors k))) p.medium;
    }
written_as k bytes reply.Gone p = p

abbrev pub sync_reply : Bool → PlaceState → Reply
sync_reply stopped p = reply_if (is_open stopped p)

abbrev pub synced_as : Reply → PlaceState → PlaceState
synced_as reply.Done p = record p { medium = option_map (map (settle AsRead)) p.medium }
synced_as reply.Gone p = p

-- it keeps what an attach found
abbrev pub has_found : PlaceState → Bool
has_found p = p.attached || not (p.found == 0)

-- THE FIVE CALLS

abbrev pub answer_of : Bool → Ask → PlaceState → Call
answer_of stopped ask.Attach p = call.Attach (attach_reply stopped p)
answer_of stopped ask.Sectors p = call.Sectors p.found
answer_of stopped (ask.Read k) p = call.Read k (read_got stopped k p)
answer_of stopped (ask.Write k bytes) p = call.Write k bytes (write_reply stopped k p)
answer_of stopped ask.Sync p = call.Sync (sync_reply stopped p)

abbrev pub answered_as : Call → PlaceState → PlaceState
answered_as (call.Attach answer) p = attached_as answer p
answered_as (call.Sectors size) p = p
answered_as (call.Read k answer) p = p
answered_as (call.Write k bytes answer) p = written_as k bytes answer p
answered_as (call.Sync answer) p = synced_as answer p

-- what is asked releases what an attach found
abbrev pub asks_to_let_go : Ask → PlaceState → Bool
asks_to_let_go ask.Attach p = has_found p
asks_to_let_go a p = false
