-- Of the places so far, none after those to be read is known.
use Rattle.std.proofs.Common.{◌≤◌}
use Rattle.stair_canon.proofs.SolvedLines.{HasNoneBehind}
use Rattle.stair_canon.proofs.known.KnownSymbols.count_to_read.Given as goal

abbrev pub invariant-loop-passed : goal.invariant-loop-passed
invariant-loop-passed l = record {
  some : l.read ≤ l.passed;
  rest : HasNoneBehind l.self l.line l.places l.read l.passed;
}
