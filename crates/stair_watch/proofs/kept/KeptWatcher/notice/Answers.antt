-- The event is counted, and so are the events that are held.
use Rattle.std.proofs.Common.{◌≡◌, ◌+◌, arith}
use Rattle.std.specs.Prelude.{vec_len}
use Rattle.stair_watch.proofs.TallyLemmas.{counted_one}
use Rattle.stair_watch.proofs.kept.KeptWatcher.notice.Goals as goal

pub invariant_of-self : goal.invariant_of-self
invariant_of-self c =
    let grew : vec_len c.push.new.self ≡ vec_len c.self.inside.events + 1 = grind (arith, c.push.ensures.len, c.unwrap.ensures) in (
      omega (arith, grew, c.self.invariant.0, counted_one c.args.event c.self.inside.tally c.notice.new.self c.notice.ensures.heard),
      omega (arith, c.push.ensures.capacity, c.self.invariant.1, c.notice.ensures.limit),
    )
