-- the event that was asked for is one of those that are left
use Rattle.std.proofs.Common.{◌≡◌, ◌-◌}
use Rattle.std.specs.Prelude.{◌++◌}
use Rattle.std.specs.List.{slice_get}
use Rattle.stair_array.specs.News.{events_in, fenced_in, other_events}
use Rattle.stair_array.proofs.news.News.event.Given as goal

abbrev pub invariant-loop-slot : goal.invariant-loop-slot
invariant-loop-slot l =
    slice_get (events_in l.self) l.at ≡ slice_get (fenced_in l.slot (32 - l.slot) l.self.fenced ++ other_events l.self) l.left
