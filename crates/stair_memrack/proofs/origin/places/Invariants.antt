-- the slots below the index
use Rattle.std.proofs.Common.{◌≡◌, map, take}
use Rattle.stair_memrack.specs.Origin.{place_over}
use Rattle.stair_memrack.proofs.origin.places.Given as goal

abbrev pub invariant-loop-origin : goal.invariant-loop-origin
invariant-loop-origin l = l.places.items ≡ map (place_over l.more) (take l.origin-index l.origin-items)
