-- One event more is counted.
use Rattle.std.proofs.Common.{◌≡◌, ◌+◌, arith}
use Rattle.stair_rack.specs.Watching.{HearsOne}
use Rattle.stair_rack.specs.declared.watcher.Event.{Event}
use Rattle.stair_rack.specs.declared.watcher.Event.TheVariants as event
use Rattle.stair_rack.specs.declared.watcher.EventKind.TheVariants.{Fenced, Repaired, Admitted, Promoted}
use Rattle.stair_watch.specs.Watchers.{TallyState, sum_in, tally_view}

pub counted_one : (one : Event) (old new : TallyState) → HearsOne tally_view one old new → sum_in new.counts ≡ sum_in old.counts + 1
counted_one (event.Fenced slot) old new heard =
    omega (arith, heard.hears.counts Fenced, heard.hears.counts Repaired, heard.hears.counts Admitted, heard.hears.counts Promoted)
counted_one (event.Repaired stripe cells) old new heard =
    omega (arith, heard.hears.counts Fenced, heard.hears.counts Repaired, heard.hears.counts Admitted, heard.hears.counts Promoted)
counted_one (event.Admitted slot) old new heard =
    omega (arith, heard.hears.counts Fenced, heard.hears.counts Repaired, heard.hears.counts Admitted, heard.hears.counts Promoted)
counted_one (event.Promoted slot) old new heard =
    omega (arith, heard.hears.counts Fenced, heard.hears.counts Repaired, heard.hears.counts Admitted, heard.hears.counts Promoted)
