-- The entries so far are volumes, each apart from those after it.
use Rattle.std.proofs.Common.{◌≡◌, drop}
use Rattle.stair_volume.specs.Table.{are_volumes}
use Rattle.stair_volume.proofs.table.are_volumes.Given as goal

abbrev pub invariant-loop-k : goal.invariant-loop-k
invariant-loop-k l = are_volumes l.blocks (drop l.k l.entries) ≡ are_volumes l.blocks l.entries
