use Rattle.stair_model.specs.CellSet.{IsInStripe}
use Rattle.stair_bench.proofs.restoring.worst_pattern.Given as goal

abbrev pub invariant-loop-chunk : goal.invariant-loop-chunk
invariant-loop-chunk l = IsInStripe l.geometry l.pattern

abbrev pub invariant-loop-class : goal.invariant-loop-class
invariant-loop-class l = IsInStripe l.geometry l.pattern
