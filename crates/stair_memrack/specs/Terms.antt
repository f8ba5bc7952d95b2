-- The terms of the laws.
use Rattle.std.specs.Prelude.{◌≢◌, ℕ, ◌<◌, List, None, Some, ◌==◌, ◌&&◌, nat_lt, if◌then◌else◌, ⊤}
use Rattle.stair_rack.specs.Sector.{Cell, Good}
use Rattle.stair_rack.specs.History.{SlotCall, Attach, Sectors, Read, Write, Sync}
use Rattle.stair_rack.specs.Placed.{Writes}
use Rattle.stair_rack.specs.Stretch.{IsNoWrite}

-- calls that write nothing, as those of a survey
abbrev pub no_write : ℕ → SlotCall → Type 0
no_write j call = IsNoWrite call

abbrev pub IsNoWriteOf : List ℕ → SlotCall → Type 0
IsNoWriteOf bytes (Attach answer) = ⊤
IsNoWriteOf bytes (Sectors size) = ⊤
IsNoWriteOf bytes (Read k answer) = ⊤
IsNoWriteOf bytes (Write k others answer) = others ≢ bytes
IsNoWriteOf bytes (Sync answer) = ⊤

-- calls that write these bytes nowhere
abbrev pub no_write_of : List ℕ → ℕ → SlotCall → Type 0
no_write_of bytes j call = IsNoWriteOf bytes call

abbrev pub IsNoSync : SlotCall → Type 0
IsNoSync (Attach answer) = ⊤
IsNoSync (Sectors size) = ⊤
IsNoSync (Read k answer) = ⊤
IsNoSync (Write k bytes answer) = ⊤
IsNoSync (Sync answer) = ⊥

-- calls that sync nothing
abbrev pub no_sync : ℕ → SlotCall → Type 0
no_sync j call = IsNoSync call

-- of a sector of a medium: it doesn't hold these bytes
abbrev pub HoldsNot : List ℕ → ℕ → Cell → Type 0
HoldsNot bytes k cell = cell ≢ Good bytes

abbrev pub any_cell : ℕ → Cell → Type 0
any_cell k cell = ⊤

-- one sector, which gets bytes of its own on each slot, as a superblock does
abbrev pub by_slot : ℕ → (ℕ → List ℕ) → Writes
by_slot sector bytes j k = if k == sector then Some (bytes j) else None

-- these bytes to sectors 0 and 1 of one slot
abbrev pub copies : ℕ → List ℕ → Writes
copies slot bytes j k = if (j == slot) && nat_lt k 2 then Some bytes else None

-- the slots below n
abbrev pub IsBelow : ℕ → ℕ → Type 0
IsBelow n j = j < n
