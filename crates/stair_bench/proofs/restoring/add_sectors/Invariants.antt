use Rattle.stair_model.specs.CellSet.{IsInStripe}
use Rattle.stair_bench.proofs.restoring.add_sectors.Given as goal

abbrev pub invariant-loop-row : goal.invariant-loop-row
invariant-loop-row l = IsInStripe l.geometry l.pattern
