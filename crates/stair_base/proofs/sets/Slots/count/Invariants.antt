-- The slots below this one are counted.
use Rattle.std.proofs.Common.{◌≡◌, ◌≤◌}
use Rattle.std.specs.Prelude.{if◌then◌else◌}
use Rattle.stair_model.specs.Slots.{has_slot}
use Rattle.stair_model.specs.Sum.{sum_below}
use Rattle.stair_base.proofs.sets.Slots.count.Given as goal

abbrev pub invariant-loop-slot : goal.invariant-loop-slot
invariant-loop-slot l = record {
  so_far : l.marked ≡ sum_below l.slot (λ j. if has_slot (record { marks = l.self-inside.marks }) j then 1 else 0);
  small : l.marked ≤ l.slot;
}
