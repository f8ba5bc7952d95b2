-- The entries so far are in range and don't fall, and `least` is the last of them.
use Rattle.std.proofs.Common.{◌≡◌, ℕ, ◌<◌, ◌≤◌, ◌-◌, get_or}
use Rattle.stair_base.proofs.geometry.is_coverage_vector.Given as goal

abbrev pub invariant-loop-x : goal.invariant-loop-x
invariant-loop-x l = record {
  positive : 1 ≤ l.least;
  reached : (k : ℕ) → k < l.x-index → (1 ≤ get_or l.e k 0) × (get_or l.e k 0 ≤ l.r) × (get_or l.e k 0 ≤ l.least);
  rising : (i j : ℕ) → i ≤ j → j < l.x-index → get_or l.e i 0 ≤ get_or l.e j 0;
  last : 0 < l.x-index → l.least ≡ get_or l.e (l.x-index - 1) 0;
  first : l.x-index ≡ 0 → l.least ≡ 1;
}
