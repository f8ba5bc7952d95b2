-- What a crash leaves of the slots in memory, by picks.
use Rattle.std.specs.Prelude.{◌≡◌, ℕ, ◌+◌, ◌-◌, ◌<◌, Bool, List, [], ◌∷◌, length, map, Option, None, Some, option_map, unwrap_or, slice_get, if◌then◌else◌, ◌==◌, nat_lt, nat_le, slice_index, slice_index_or}
use Rattle.stair_rack.specs.declared.rack.Reply.TheVariants as reply
use Rattle.stair_memrack.specs.declared.record.Call.TheVariants.{Write}
use Rattle.stair_memrack.specs.declared.record.Call.{Call}
use Rattle.stair_memrack.specs.declared.record.Recorded.{Recorded}
use Rattle.stair_memrack.specs.declared.disk.StoredCell.{StoredCell}
use Rattle.stair_memrack.specs.declared.disk.StoredCell.TheVariants as stored
use Rattle.stair_memrack.specs.declared.disk.StoredSector.{StoredSector}
use Rattle.stair_memrack.specs.Disk.{cell_of, stored_at, stored_in}
use Rattle.stair_memrack.specs.Place.{PlaceState, size_of}
use Rattle.stair_memrack.specs.Origin.{OriginState, cell_in, origin_at}
use Rattle.stair_memrack.specs.Record.{slot_call}
use Rattle.stair_memrack.specs.Shelf.{Written, with_write, place_at}
use Rattle.stair_memrack.specs.Picks.{count_below, total_below}

-- what a call wrote to sector k
abbrev pub bytes_on : Call → ℕ → Option (List ℕ)
bytes_on (Write l bytes reply.Done) k = if k == l then Some bytes else None
bytes_on call k = None

-- what a call wrote to sector k of slot j
abbrev pub wrote_on : Recorded → ℕ → ℕ → Option (List ℕ)
wrote_on c j k = if c.slot == j then bytes_on c.call k else None

-- the bytes of the writes of these calls, of which the newest comes first, that were done to slot j, by sector
abbrev pub writes_of : List Recorded → ℕ → Written
writes_of [] j = λ k. []
writes_of (c ∷ calls) j = if c.slot == j then with_write (slot_call c.call) (writes_of calls j)
    else writes_of calls j

abbrev pub torn_over : StoredCell → StoredCell
torn_over (stored.Good bytes) = stored.Torn
torn_over stored.Damaged = stored.TornOverDamage
torn_over stored.Torn = stored.Torn
torn_over stored.TornOverDamage = stored.TornOverDamage

abbrev pub has_pending : StoredSector → Bool
has_pending x = nat_lt 0 x.pending

-- what the pick leaves of a sector with pending writes, where these are all its writes, the newest first
abbrev pub left_pending : ℕ → StoredSector → List (List ℕ) → StoredCell
left_pending n x w = if n == 0 then x.base else (if nat_le n x.pending
    then unwrap_or (option_map stored.Good (slice_get w (x.pending - n))) (torn_over x.base)
    else torn_over x.base)

abbrev pub left_sector : ℕ → StoredSector → List (List ℕ) → StoredCell
left_sector n x w = if has_pending x then left_pending n x w else x.base

abbrev pub pending_at : List StoredSector → ℕ → Bool
pending_at sectors k = has_pending (stored_at sectors k)

abbrev pub pending_in : Option (List StoredSector) → ℕ → Bool
pending_in medium k = has_pending (stored_in medium k)

-- these cells are left of the first n sectors, where so many pending ones lie before the medium
pub record AreLeft (w : Written) (picks : List ℕ) (from n : ℕ) (sectors : List StoredSector)
    (cells : List StoredCell) : Type 0 where
  pub count : length cells ≡ n
  pub each : (k : ℕ) → k < n → slice_index_or cells k stored.Damaged ≡
      left_sector (slice_index picks (from + count_below (pending_at sectors) k))
      (stored_at sectors k) (w k)

-- this is left of the medium
pub record IsMediumLeft (w : Written) (picks : List ℕ) (from : ℕ)
    (medium : Option (List StoredSector)) (cells : Option (List StoredCell)) : Type 0 where
  pub size_is : option_map length cells ≡ option_map length medium
  pub each : (k : ℕ) → cell_in cells k ≡ cell_of
      (left_sector (slice_index picks (from + count_below (pending_in medium) k))
      (stored_in medium k) (w k))

-- what reads find
abbrev pub now_of : StoredSector → StoredCell
now_of x = x.now

-- this is left of the slot; its drawer settled as reads find it
pub record IsLeft (w : Written) (picks : List ℕ) (from : ℕ) (p : PlaceState) (o : OriginState)
    : Type 0 where
  pub medium : IsMediumLeft w picks from p.medium o.medium
  pub removed_is : o.removed ≡ map (map now_of) p.removed

abbrev pub pending_of : PlaceState → ℕ
pending_of p = count_below (pending_in p.medium) (size_of p.medium)

-- how many sectors of the slots below j have pending writes
abbrev pub pending_below : List PlaceState → ℕ → ℕ
pending_below places j = total_below (λ i. pending_in (place_at places i).medium)
    (λ i. size_of (place_at places i).medium) j

-- these are left of the first n slots
pub record SlotsAreLeft (n : ℕ) (w : ℕ → Written) (picks : List ℕ) (places : List PlaceState)
    (made : List OriginState) : Type 0 where
  pub count : length made ≡ n
  pub each : (j : ℕ) → j < n → IsLeft (w j) picks (pending_below places j) (place_at places j)
      (origin_at made j)
