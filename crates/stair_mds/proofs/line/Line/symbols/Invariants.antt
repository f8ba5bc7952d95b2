-- The symbols so far.
use Rattle.std.proofs.Common.{◌≡◌, ℕ, ◌<◌, length, slice_index}
use Rattle.stair_mds.specs.Solving.{along}
use Rattle.stair_mds.proofs.line.Line.symbols.Given as goal

abbrev pub invariant-loop-i : goal.invariant-loop-i
invariant-loop-i l = record {
  long : length l.symbols ≡ 32;
  so_far : (k : ℕ) → k < l.i → slice_index l.symbols k ≡ along l.self (slice_index l.places k);
}
