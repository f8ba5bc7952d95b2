-- what is filled is what the file gave
use Rattle.std.proofs.Common.{◌≤◌, ◌-◌, length, take}
use Rattle.std.specs.Io.KnownBytes.{Consumes}
use Rattle.stair_filerack.proofs.full.read_full.Given as goal

abbrev pub invariant-loop-filled : goal.invariant-loop-filled
invariant-loop-filled g l = record {
  within : l.filled ≤ length l.into;
  taken : Consumes (g.T.Read.remaining l.initial.file) (g.T.Read.remaining l.file) (take l.filled l.into);
}

abbrev pub decreases-loop-filled : goal.decreases-loop-filled
decreases-loop-filled g l = length l.into - l.filled
