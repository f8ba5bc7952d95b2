use Rattle.std.proofs.Common.{◌≡◌, length}
use Rattle.std.specs.Prelude.{All}
use Rattle.stair_model.specs.CellSet.{IsInStripe}
use Rattle.stair_bench.proofs.restoring.worst_patterns.Given as goal

abbrev pub invariant-loop-first : goal.invariant-loop-first
invariant-loop-first l = (length l.patterns.items ≡ l.first) × All (IsInStripe l.geometry) l.patterns.items
