-- Each watcher in turn hears the event, and stays or is taken out.
use Rattle.std.proofs.Common.{arith, refl}
use Rattle.stair_watch.proofs.TellLemmas.{at_last, turn_stays, turn_leaves}
use Rattle.stair_watch.proofs.WatchLemmas.{stay_after}
use Rattle.stair_watch.proofs.told.tell.Goals as goal

pub loop-at-preserved-in-Stay : goal.loop-at-preserved-in-Stay
loop-at-preserved-in-Stay g c = turn_stays _ _ _ _ _ _ _ c.loop-at.invariant (omega (arith, c.loop-at-test.true, c.len.ensures))
    c.index_mut.ensures.value c.in-Stay.ensures.heard (c.in-Stay.ensures.stays refl)

pub loop-at-preserved : goal.loop-at-preserved
loop-at-preserved g c = rw c.remove.ensures.items
    (turn_leaves _ _ _ _ _ _ _ c.loop-at.invariant (omega (arith, c.loop-at-test.true, c.len.ensures))
    c.index_mut.ensures.value c.in-Leave.ensures.heard (c.in-Leave.ensures.leaves refl))

pub returns-clause-does : goal.returns-clause-does
returns-clause-does g c = at_last _ _ _ _ _ c.loop-at.invariant (omega (arith, c.loop-at-test.false, c.len.ensures))

pub returns-clause-stay : goal.returns-clause-stay
returns-clause-stay g c =
    stay_after _ _ _ _ (at_last _ _ _ _ _ c.loop-at.invariant (omega (arith, c.loop-at-test.false, c.len.ensures)))
