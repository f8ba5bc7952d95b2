-- The watchers before this place were told.
use Rattle.std.proofs.Common.{◌-◌, length}
use Rattle.stair_watch.proofs.TellLemmas.{InTurn}
use Rattle.stair_watch.proofs.told.tell.Given as goal

abbrev pub invariant-loop-at : goal.invariant-loop-at
invariant-loop-at g l = InTurn (λ b. (goal.Watcher-dyn g (b.vtable, b.value)).hears b.value)
    l.event l.initial.watchers.items l.watchers.items l.at

abbrev pub decreases-loop-at : goal.decreases-loop-at
decreases-loop-at g l = length l.watchers.items - l.at
