-- The rows so far are solved, each by as many steps.
use Rattle.std.proofs.Common.{◌≡◌, ◌+◌, ◌*◌, length}
use Rattle.stair_canon.proofs.SolvedRows.{HasSolvedRows}
use Rattle.stair_canon.proofs.canon.Canon.solve_rows.Given as goal

abbrev pub invariant-loop-row : goal.invariant-loop-row
invariant-loop-row g l = record {
  solved : HasSolvedRows l.rows l.known l.wanted l.initial.self l.self l.row-index;
  cost : l.steps ≡ l.initial.steps + l.row-index * (length l.known * length l.wanted);
}
