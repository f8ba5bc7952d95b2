-- The slots in memory hold what the history of the rack tells.
use Rattle.std.specs.Prelude.{◌≡◌, ◌⊎◌, ℕ, ◌+◌, ◌<◌, ◌≤◌, Bool, true, false, List, [], ◌∷◌, length, take, map, replicate, Option, None, Some, option_map, if◌then◌else◌, nat_lt, nat_le, ◌==◌, slice_index_or, slice_set, count_by}
use Rattle.stair_rack.specs.Sector.{Sector, content}
use Rattle.stair_rack.specs.History.{SlotCall, Write, SlotState, Happening, Made, Stopped, Acted, Called, made, empty_slot, slot_state, stopped}
use Rattle.stair_rack.specs.declared.rack.Reply.TheVariants as reply
use Rattle.stair_memrack.specs.declared.act.Act.{Act}
use Rattle.stair_memrack.specs.declared.act.What.{What}
use Rattle.stair_memrack.specs.declared.act.What.TheVariants.{Pull, PullLosing, InsertBlank, InsertOld, Damage, Stop}
use Rattle.stair_memrack.specs.declared.disk.Settling.TheVariants.{AsRead, AsSynced}
use Rattle.stair_memrack.specs.declared.disk.StoredSector.{StoredSector}
use Rattle.stair_memrack.specs.Disk.{cell_of, unwritten, stored_in, medium_of}
use Rattle.stair_memrack.specs.Place.{PlaceState, no_place, pulled, inserted, inserted_old, damaged_at}

-- What was written to the sectors of a slot.
abbrev pub Written : Type 0
Written = ℕ → List (List ℕ)

abbrev pub with_write : SlotCall → Written → Written
with_write (Write l bytes reply.Done) w k = if k == l then bytes ∷ w k else w k
with_write call w k = w k

-- the bytes of all writes of slot j that were done, by sector, the newest first
abbrev pub writes_in : List Happening → ℕ → Written
writes_in [] j = λ k. []
writes_in (Made image ∷ h) j = writes_in h j
writes_in (Stopped ∷ h) j = writes_in h j
writes_in (Acted i act ∷ h) j = writes_in h j
writes_in (Called i call ∷ h) j = if i == j then with_write call (writes_in h j) else writes_in h j

-- the stored sector is this one, where these writes were done to it, the newest first
pub record IsStored (writes : List (List ℕ)) (stored : StoredSector) (s : Sector) : Type 0 where
  pub base_is : cell_of stored.base ≡ s.base
  pub content_is : cell_of stored.now ≡ content s
  pub since_is : s.since ≡ take stored.pending writes
  pub pending_is : stored.pending ≡ length s.since

-- the medium in memory has this size and these sectors
pub record IsMediumOf (w : Written) (medium : Option (List StoredSector)) (size : Option ℕ)
    (sector : ℕ → Sector) : Type 0 where
  pub size_is : size ≡ option_map length medium
  pub each : (k : ℕ) → IsStored (w k) (stored_in medium k) (sector k)

-- the slot in memory stands so
pub record IsPlaceOf (w : Written) (p : PlaceState) (b : SlotState) : Type 0 where
  pub medium : IsMediumOf w p.medium b.size b.sector
  pub removed_is : b.removed ≡ map medium_of p.removed
  pub attached_is : b.attached ≡ p.attached
  pub found_is : b.found ≡ p.found

abbrev pub place_at : List PlaceState → ℕ → PlaceState
place_at places j = slice_index_or places j no_place

-- the 32 slots in memory stand as they do after this history
pub record IsShelfOf (places : List PlaceState) (stop : Bool) (h : List Happening) : Type 0 where
  pub count : length places ≡ 32
  pub stopped_is : stopped h ≡ stop
  pub each : (j : ℕ) → j < 32 → IsPlaceOf (writes_in h j) (place_at places j) (slot_state h j)
  -- there are no others
  pub beyond : (j : ℕ) → 32 ≤ j → slot_state h j ≡ made empty_slot

-- each drawer has memory for so many media more
pub record HasRoom (places : List PlaceState) (more : ℕ) : Type 0 where
  pub each : (j : ℕ) → j < 32 → length (place_at places j).removed + more ≤ (place_at places j).room

-- one of the 32 slots is changed
abbrev pub changed : ℕ → (PlaceState → PlaceState) → List PlaceState → List PlaceState
changed j change places = if nat_lt j 32 then slice_set places j (change (place_at places j))
    else places

-- what an act does to the slots in memory, where this is the medium that it may put in
abbrev pub performed : What → Option (List StoredSector) → List PlaceState → List PlaceState
performed (Pull j) blank places = changed j (pulled AsRead) places
performed (PullLosing j) blank places = changed j (pulled AsSynced) places
performed (InsertBlank j size) blank places = changed j (inserted blank) places
performed (InsertOld j i) blank places = changed j (inserted_old i) places
performed (Damage j k) blank places = changed j (damaged_at k) places
performed Stop blank places = places

abbrev pub is_stop : What → Bool
is_stop Stop = true
is_stop what = false

-- the medium that an act may put in
abbrev pub blank_for : What → Option (List StoredSector)
blank_for (InsertBlank j size) = Some (replicate size unwritten)
blank_for what = None

-- these blank media are those of the acts that are still to come: of the acts before call n those from i on, and all later
pub record AreBlanks (n i : ℕ) (acts : List Act) (blanks : List (Option (List StoredSector)))
    : Type 0 where
  pub count : length blanks ≡ length acts
  pub each : (k : ℕ) (act : Act) → k < length acts → slice_index_or acts k act ≡ act → (n < act.at)
      ⊎ ((act.at ≡ n) × (i ≤ k))
      → slice_index_or blanks k None ≡ blank_for act.what

-- how many of these acts stand before call n, and how many before it or a later one
abbrev pub acts_at : ℕ → List Act → ℕ
acts_at n acts = count_by (λ act. act.at == n) acts

abbrev pub acts_from : ℕ → List Act → ℕ
acts_from n acts = count_by (λ act. nat_le n act.at) acts
