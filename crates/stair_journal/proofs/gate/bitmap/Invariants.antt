-- The bytes so far.
use Rattle.std.proofs.Common.{◌≡◌, ℕ, ◌<◌, length, get_or}
use Rattle.stair_journal.specs.Gate.{bitmap_byte}
use Rattle.stair_journal.proofs.gate.bitmap.Given as goal

abbrev pub invariant-loop-q : goal.invariant-loop-q
invariant-loop-q l = record {
  sized : length l.bitmap ≡ 128;
  written : (k : ℕ) → k < l.q → get_or l.bitmap k 0 ≡ bitmap_byte l.geometry l.cells k;
}
