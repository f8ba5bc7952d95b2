-- The rows so far are found.
use Rattle.stair_up.specs.SolveSteps.{Keeps}
use Rattle.stair_up.proofs.LightRows.{FindsLightRowsBefore}
use Rattle.stair_up.proofs.light_rows.solve_light_rows.Given as goal

abbrev pub invariant-loop-row : goal.invariant-loop-row
invariant-loop-row g l = record {
  kept : Keeps l.erased l.initial.canon l.canon;
  found : FindsLightRowsBefore l.erased l.row l.initial.canon l.canon;
}
