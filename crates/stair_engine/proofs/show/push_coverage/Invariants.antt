-- The entries so far, each with a blank and at most 20 digits.
use Rattle.std.proofs.Common.{◌≡◌, ◌+◌, ◌*◌, ◌≤◌, ◌++◌, length, take}
use Rattle.stair_engine.specs.Show.{spaced}
use Rattle.stair_engine.proofs.show.push_coverage.Given as goal

abbrev pub invariant-loop-l : goal.invariant-loop-l
invariant-loop-l l = record {
  text : l.line ≡ l.initial.line ++ spaced (take l.l l.geometry.e);
  short : length l.line ≤ length l.initial.line + 21 * l.l;
}
