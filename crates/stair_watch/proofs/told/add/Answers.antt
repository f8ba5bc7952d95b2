-- The new one stands after the others.
use Rattle.stair_watch.proofs.WatchLemmas.{AllStay-more}
use Rattle.stair_watch.proofs.told.add.Goals as goal

pub returns-clause-stay : goal.returns-clause-stay
returns-clause-stay g c = rw c.in_ok-push.ensures.items (AllStay-more (λ b. (goal.Watcher-dyn g (b.vtable, b.value)).hears b.value)
    c.args.watchers.now.items c.args.watcher c.requires.others c.requires.stays)
