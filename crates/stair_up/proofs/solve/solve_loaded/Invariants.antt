-- The rows so far are found.
use Rattle.stair_up.specs.SolveSteps.{Keeps}
use Rattle.std.proofs.Common.{◌≡◌, ◌+◌, ◌*◌}
use Rattle.stair_model.specs.Geometry.{data_chunks}
use Rattle.stair_model.specs.Sum.{sum_below}
use Rattle.stair_up.specs.ErasedAlong.{erased_in_row}
use Rattle.stair_up.proofs.Stripes.{FindsRowsBefore}
use Rattle.stair_up.proofs.solve.solve_loaded.Given as goal

abbrev pub invariant-loop-row : goal.invariant-loop-row
invariant-loop-row g l = record {
  kept : Keeps l.order.erased l.initial.canon l.canon;
  found : FindsRowsBefore l.order.erased l.order.columns l.row l.initial.canon l.canon;
  cost : l.steps ≡ l.initial.steps
      + data_chunks l.initial.canon.geometry * sum_below l.row (erased_in_row l.order l.initial.canon.geometry.m);
}
