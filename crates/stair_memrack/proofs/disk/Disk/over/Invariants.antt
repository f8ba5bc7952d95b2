-- the sectors below the index
use Rattle.std.proofs.Common.{◌≡◌, map, take}
use Rattle.stair_memrack.specs.Origin.{held}
use Rattle.stair_memrack.proofs.disk.Disk.over.Given as goal

abbrev pub invariant-loop-cell : goal.invariant-loop-cell
invariant-loop-cell l = l.sectors.items ≡ map held (take l.cell-index l.cell-items)
