-- The blocks so far.
use Rattle.stair_std.proofs.UnitStripes.{HasUnitBlocks}
use Rattle.stair_std.proofs.units.put_unit_blocks.Given as goal

abbrev pub invariant-loop-number : goal.invariant-loop-number
invariant-loop-number l = HasUnitBlocks l.geometry l.first l.number l.stripe
