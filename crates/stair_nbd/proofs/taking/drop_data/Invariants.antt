-- So many bytes were dropped.
use Rattle.std.proofs.Common.{◌-◌, ◌≤◌}
use Rattle.stair_command.specs.Outside.{source_view}
use Rattle.stair_nbd.proofs.TakeLaws.{DroppedSoFar}
use Rattle.stair_nbd.proofs.taking.drop_data.Given as goal

abbrev pub invariant-loop-dropped : goal.invariant-loop-dropped
invariant-loop-dropped g l = record {
  within : l.dropped ≤ l.needed;
  so_far : DroppedSoFar (source_view g.S.Source) l.dropped l.initial.input l.input;
}

abbrev pub decreases-loop-dropped : goal.decreases-loop-dropped
decreases-loop-dropped g l = l.needed - l.dropped
