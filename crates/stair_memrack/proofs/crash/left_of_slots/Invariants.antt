-- the slots below this one
use Rattle.std.proofs.Common.{◌≡◌, ◌≤◌, ◌*◌, ◌^◌, reverse}
use Rattle.stair_memrack.specs.Left.{writes_of, pending_below, SlotsAreLeft}
use Rattle.stair_memrack.proofs.crash.left_of_slots.Given as goal

abbrev pub invariant-loop-slot : goal.invariant-loop-slot
invariant-loop-slot l =
    SlotsAreLeft l.slot (writes_of (reverse l.log.items)) l.picks l.places.items l.made.items
    × (l.before ≡ pending_below l.places.items l.slot) × (l.before ≤ l.slot * 2 ^ 32)
