-- The bytes so far were taken from the source, which has not ended.
use Rattle.std.proofs.Common.{◌-◌, ◌≤◌, length, take}
use Rattle.stair_command.specs.Outside.{source_view}
use Rattle.stair_command.specs.Taking.{TookSoFar}
use Rattle.stair_command.proofs.streams.take_at_least.Given as goal

abbrev pub invariant-loop-filled : goal.invariant-loop-filled
invariant-loop-filled g l = record {
  within : l.filled ≤ length l.into;
  taken : TookSoFar (source_view g.S.Source) (take l.filled l.into) l.initial.input l.input;
}

abbrev pub decreases-loop-filled : goal.decreases-loop-filled
decreases-loop-filled g l = length l.into - l.filled
