-- So many chunks from the end are found, and no chunk before them has fewer erased cells than virtual symbols were solved.
use Rattle.std.proofs.Common.{◌≡◌, ℕ, ◌+◌, ◌-◌, ◌*◌, ◌<◌, ◌≤◌}
use Rattle.stair_model.specs.Geometry.{data_chunks}
use Rattle.stair_up.specs.SolveSteps.{Keeps}
use Rattle.stair_canon.specs.Order.{count_at}
use Rattle.stair_up.specs.ErasedAlong.{erased_in_last}
use Rattle.stair_up.proofs.LastChunks.{FindsFrom}
use Rattle.stair_up.proofs.solve.solve_last_chunks.Given as goal

abbrev pub invariant-loop-passed : goal.invariant-loop-passed
invariant-loop-passed g l = record {
  kept : Keeps l.order.erased l.initial.canon l.canon;
  found : FindsFrom l.order.erased l.order.columns l.height l.passed l.solved l.initial.canon l.canon;
  low : (p : ℕ) → p + l.passed < l.n → l.solved ≤ count_at l.order p;
  cost : l.steps ≡ l.initial.steps + (l.passed * (l.initial.canon.geometry.r * l.height)
      + data_chunks l.initial.canon.geometry * (erased_in_last l.order l.n l.passed + l.solved * (l.n - l.m - l.passed)));
}
