-- the sectors below the index
use Rattle.std.proofs.Common.{◌≡◌, map, take}
use Rattle.stair_memrack.specs.Left.{now_of}
use Rattle.stair_memrack.proofs.disk.Disk.now.Given as goal

abbrev pub invariant-loop-sector : goal.invariant-loop-sector
invariant-loop-sector l = l.cells.items ≡ map now_of (take l.sector-index l.sector-items)
