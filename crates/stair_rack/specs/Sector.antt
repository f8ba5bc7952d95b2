-- What a sector of a device holds, and what a crash may leave of it.
use Rattle.std.specs.Prelude.{◌≡◌, ◌⊎◌, ℕ, List, [], ◌∷◌}

-- what a read finds in a sector: these bytes, or nothing that can be read
pub data Cell : Type 0 where
  Good : List ℕ → Cell
  -- the outside damaged it, or it was never written
  Damaged : Cell
  -- a crash cut a write over a cell that was neither damaged nor worn
  Torn : Cell
  -- a worn cell: a crash cut a write over a damaged or a worn one
  TornOverDamage : Cell

-- a sector while its device is in use
pub record Sector : Type 0 where
  -- what it held at the device's last sync, or Damaged where the outside damaged it since
  pub base : Cell
  -- what was written since, the newest first
  pub since : List (List ℕ)

-- nothing was written since the last sync
abbrev pub settled : Cell → Sector
settled cell = record { base = cell; since = [] }

-- damage also takes what was written before it
abbrev pub damaged : Sector
damaged = settled Damaged

abbrev pub newest : Cell → List (List ℕ) → Cell
newest base [] = base
newest base (bytes ∷ since) = Good bytes

-- what a read finds now
abbrev pub content : Sector → Cell
content s = newest s.base s.since

abbrev pub wrote : List ℕ → Sector → Sector
wrote bytes s = record { base = s.base; since = bytes ∷ s.since }

-- a sync settles what a read finds
abbrev pub synced : Sector → Sector
synced s = settled (content s)

-- what a cut write leaves over this cell, where it leaves neither the old bytes nor the new ones
abbrev pub torn : Cell → Cell
torn (Good bytes) = Torn
torn Damaged = TornOverDamage
torn Torn = Torn
torn TornOverDamage = TornOverDamage

-- a crash leaves the base, one of the contents written since, or, where there are any, a torn cell
abbrev pub LeftOf : Cell → List (List ℕ) → Cell → Type 0
LeftOf base [] cell = cell ≡ base
LeftOf base (bytes ∷ since) cell = (cell ≡ Good bytes) ⊎ (cell ≡ torn base) ⊎ LeftOf base since cell

-- a crash may leave this cell of the sector
abbrev pub MayLeave : Sector → Cell → Type 0
MayLeave s cell = LeftOf s.base s.since cell

-- Every cell that a crash may leave of the sector has Q, and the cell under its unsynced writes has Base.
pub record Leaves (Q Base : Cell → Type 0) (s : Sector) : Type 0 where
  pub each : (cell : Cell) → MayLeave s cell → Q cell
  pub base : Base s.base
