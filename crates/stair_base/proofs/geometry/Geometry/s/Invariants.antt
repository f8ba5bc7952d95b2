-- The sum of the entries so far.
use Rattle.std.proofs.Common.{◌≡◌, ◌*◌, ◌≤◌, take, sum}
use Rattle.stair_base.proofs.geometry.Geometry.s.Given as goal

abbrev pub invariant-loop-l : goal.invariant-loop-l
invariant-loop-l l = record {
  so_far : l.sum ≡ sum (take l.l l.self-inside.coverage);
  small : l.sum ≤ 32 * l.l;
}
