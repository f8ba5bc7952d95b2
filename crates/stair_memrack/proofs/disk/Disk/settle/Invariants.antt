-- the sectors below the index are settled
use Rattle.std.proofs.Common.{◌≡◌, ◌++◌, map, take, drop}
use Rattle.stair_memrack.specs.Disk.{settle}
use Rattle.stair_memrack.proofs.disk.Disk.settle.Given as goal

abbrev pub invariant-loop-sector : goal.invariant-loop-sector
invariant-loop-sector l = l.sector-items ≡ map (settle l.how) (take l.sector-index l.initial.sector-items) ++ drop l.sector-index l.initial.sector-items
