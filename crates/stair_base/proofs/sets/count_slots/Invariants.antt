-- The slots below this one are counted.
use Rattle.std.proofs.Common.{◌≡◌, ℕ, ◌+◌, ◌<◌, ◌≤◌, slice_index}
use Rattle.std.specs.Prelude.{if◌then◌else◌}
use Rattle.stair_model.specs.Slots.{has_slot}
use Rattle.stair_base.proofs.sets.count_slots.Given as goal

abbrev pub invariant-loop-slot : goal.invariant-loop-slot
invariant-loop-slot l =
    ((j : ℕ) → j < l.slot → slice_index l.counts j ≡ slice_index l.initial.counts j + (if has_slot l.slots j then 1 else 0))
    × ((j : ℕ) → l.slot ≤ j → slice_index l.counts j ≡ slice_index l.initial.counts j)
