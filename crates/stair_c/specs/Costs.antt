-- The counts of a cost as those of a plan.
use Rattle.stair_c.specs.declared.exports.Cost.{Cost}
use Rattle.stair_plan.specs.declared.plans.Plan.{Plan}

abbrev pub plan_of : Cost → Plan
plan_of c = record {
  blocks = c.blocks;
  cells = c.cells;
  up = c.up;
  down = c.down;
  standard = c.standard;
  least = c.least;
  greatest = c.greatest;
}
