-- The sum of the entries so far.
use Rattle.std.proofs.Common.{◌≡◌, ◌*◌, ◌≤◌, take, sum}
use Rattle.stair_base.proofs.geometry.total.Given as goal

abbrev pub invariant-loop-x : goal.invariant-loop-x
invariant-loop-x l = record {
  so_far : l.sum ≡ sum (take l.x-index l.e);
  small : l.sum ≤ 32 * l.x-index;
}
