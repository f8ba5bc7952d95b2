-- The codes so far have the shape.
use Rattle.std.proofs.Common.{◌≡◌, ◌+◌, ◌-◌, length}
use Rattle.stair_canon.specs.Patterns.{HaveShape}
use Rattle.stair_canon.proofs.codes.Codes.rows.Given as goal

abbrev pub invariant-loop-made : goal.invariant-loop-made
invariant-loop-made l = record {
  count : length l.codes.items ≡ l._made;
  alike : HaveShape (record { held = l.n - l.m; total = l.n + l.classes }) l.codes.items;
}
