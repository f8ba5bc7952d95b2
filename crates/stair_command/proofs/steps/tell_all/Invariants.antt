-- The events so far were told.
use Rattle.stair_array.specs.News.{events_in}
use Rattle.stair_command.proofs.TellingLaws.{HasTold}
use Rattle.stair_command.proofs.steps.tell_all.Given as goal

abbrev pub invariant-loop-at : goal.invariant-loop-at
invariant-loop-at g l = HasTold (λ b. (goal.Watcher-dyn g (b.vtable, b.value)).hears b.value)
    (events_in l.news) l.initial.watchers.items l.at l.watchers.items
