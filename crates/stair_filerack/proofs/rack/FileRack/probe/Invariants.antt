-- the slots so far were released, and the others are as they were
use Rattle.std.proofs.Common.{◌≡◌, ◌≤◌, ◌<◌, ℕ, [], get_or}
use Rattle.stair_filerack.specs.Slot.{untouched, detached}
use Rattle.stair_filerack.proofs.rack.FileRack.probe.Given as goal

abbrev pub invariant-loop-slot : goal.invariant-loop-slot
invariant-loop-slot g l = record {
  gone : (j : ℕ) → j < l.slot-index → get_or l.slot-items j (untouched []) ≡ detached (get_or l.initial.slot-items j (untouched []));
  left : (j : ℕ) → l.slot-index ≤ j → get_or l.slot-items j (untouched []) ≡ get_or l.initial.slot-items j (untouched []);
}
