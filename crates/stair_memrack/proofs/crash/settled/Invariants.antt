-- the media below the index
use Rattle.std.proofs.Common.{◌≡◌, map, take}
use Rattle.stair_memrack.specs.Left.{now_of}
use Rattle.stair_memrack.proofs.crash.settled.Given as goal

abbrev pub invariant-loop-disk : goal.invariant-loop-disk
invariant-loop-disk l = l.media.items ≡ map (map now_of) (take l.disk-index l.disk-items)
