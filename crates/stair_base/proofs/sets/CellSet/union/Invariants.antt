-- the rows before this one have the cells of both
use Rattle.stair_base.proofs.CellRows.{HasUnited}
use Rattle.stair_base.proofs.sets.CellSet.union.Given as goal

abbrev pub invariant-loop-row : goal.invariant-loop-row
invariant-loop-row l = HasUnited l.self l.other l.row l.both-inside.rows
