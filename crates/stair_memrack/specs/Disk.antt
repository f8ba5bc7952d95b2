-- A medium in memory, as contracts see it: the list of its sectors.
use Rattle.std.specs.Prelude.{ℕ, ◌+◌, List, length, Option, None, Some, slice_index_or}
use Rattle.stair_rack.specs.Sector.{Cell, Good, Damaged, Torn, TornOverDamage}
use Rattle.stair_rack.specs.Media.{Medium}
use Rattle.stair_memrack.specs.declared.disk.StoredCell.{StoredCell}
use Rattle.stair_memrack.specs.declared.disk.StoredCell.TheVariants as stored
use Rattle.stair_memrack.specs.declared.disk.StoredSector.{StoredSector}
use Rattle.stair_memrack.specs.declared.disk.Settling.{Settling}
use Rattle.stair_memrack.specs.declared.disk.Settling.TheVariants.{AsRead, AsSynced}

-- what a read finds in it
abbrev pub cell_of : StoredCell → Cell
cell_of (stored.Good bytes) = Good bytes
cell_of stored.Damaged = Damaged
cell_of stored.Torn = Torn
cell_of stored.TornOverDamage = TornOverDamage

abbrev pub unwritten : StoredSector
unwritten = record { base = stored.Damaged; now = stored.Damaged; pending = 0 }

-- what stays of it where its medium settles so
abbrev pub kept_cell : Settling → StoredSector → StoredCell
kept_cell AsRead s = s.now
kept_cell AsSynced s = s.base

abbrev pub settle : Settling → StoredSector → StoredSector
settle how s = record { base = kept_cell how s; now = kept_cell how s; pending = 0 }

abbrev pub written : List ℕ → StoredSector → StoredSector
written bytes s = record { base = s.base; now = stored.Good bytes; pending = s.pending + 1 }

-- nothing can be read past the end
abbrev pub stored_at : List StoredSector → ℕ → StoredSector
stored_at sectors k = slice_index_or sectors k unwritten

-- nothing can be read where there is no medium
abbrev pub stored_in : Option (List StoredSector) → ℕ → StoredSector
stored_in None k = unwritten
stored_in (Some sectors) k = stored_at sectors k

-- the medium outside a slot
abbrev pub medium_of : List StoredSector → Medium
medium_of sectors = record { size = length sectors; cell = λ k. cell_of (stored_at sectors k).now }
