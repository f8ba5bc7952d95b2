-- The erased rows so far stand in the places of virtual rows.
use Rattle.stair_up.proofs.Exchanging.{HasExchanged}
use Rattle.stair_up.proofs.rows.rows_by_need.Given as goal

abbrev pub invariant-loop-row : goal.invariant-loop-row
invariant-loop-row l = HasExchanged l.erased l.slot l.r l.row l.virtual_row l.rows
