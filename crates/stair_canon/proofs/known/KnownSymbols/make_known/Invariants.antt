-- The places so far are marked, and the memory stays.
use Rattle.std.proofs.Common.{◌≡◌}
use Rattle.stair_canon.proofs.Marks.{HasMarked}
use Rattle.stair_canon.proofs.known.KnownSymbols.make_known.Given as goal

abbrev pub invariant-loop-place : goal.invariant-loop-place
invariant-loop-place l = record {
  memory : l.self-inside.symbols ≡ l.initial.self-inside.symbols;
  marks : HasMarked l.line l.places l.initial.self-inside.known.items l.self-inside.known.items l.place-index;
}
