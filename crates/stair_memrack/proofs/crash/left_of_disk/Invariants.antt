-- the sectors below the index
use Rattle.std.proofs.Common.{◌≡◌, ◌+◌, reverse}
use Rattle.stair_memrack.specs.Picks.{count_below}
use Rattle.stair_memrack.specs.Left.{writes_of, pending_at, AreLeft}
use Rattle.stair_memrack.proofs.crash.left_of_disk.Given as goal

abbrev pub invariant-loop-index : goal.invariant-loop-index
invariant-loop-index l =
    AreLeft (writes_of (reverse l.log.items) l.slot) l.picks l.before l.index l.disk l.cells.items
    × (l.next ≡ l.before + count_below (pending_at l.disk) l.index)
