-- What a plan says of a geometry.
use Rattle.std.specs.Prelude.{◌≡◌, ◌*◌}
use Rattle.stair_model.specs.Costs.{downstairs_cost, upstairs_cost, IsStandardCost}
use Rattle.stair_model.specs.Geometry.{Geometry, data_cells}
use Rattle.stair_plan.specs.Penalty.{ArePenalties}
use Rattle.stair_plan.specs.declared.plans.Plan.{Plan}

-- the blocks and the cells of a stripe, the steps of the three encoders, and the bounds of the penalties
pub record IsPlanOf (g : Geometry) (plan : Plan) : Type 0 where
  pub blocks : plan.blocks ≡ data_cells g
  pub cells : plan.cells ≡ g.r * g.n
  pub up : plan.up ≡ upstairs_cost g
  pub down : plan.down ≡ downstairs_cost g
  pub standard : IsStandardCost g plan.standard
  pub penalties : ArePenalties g (data_cells g) plan.least plan.greatest
