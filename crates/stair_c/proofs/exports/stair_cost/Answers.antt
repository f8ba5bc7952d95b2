-- Each answer by its status.
use Rattle.std.proofs.Common.{refl, subst}
use Rattle.stair_model.specs.Geometry.{Geometry, IsWithinLimits}
use Rattle.stair_plan.specs.Plan.{IsPlanOf}
use Rattle.stair_c.specs.Statuses.Counts.{done, limit, memory}
use Rattle.stair_c.proofs.exports.stair_cost.Goals as goal

pub returns-in-Err : goal.returns-in-Err
returns-in-Err c =
    limit c.in-Err.limit c.in-Err.ensures.err refl

pub returns-in_default : goal.returns-in_default
returns-in_default c = memory (subst IsWithinLimits c.in-Ok.ensures.ok c.in-Ok.ensures.within) refl

pub returns : goal.returns
returns c =
    done (subst IsWithinLimits c.in-Ok.ensures.ok c.in-Ok.ensures.within) (subst (λ (g : Geometry). IsPlanOf g c.in-Ok-plan.plan) c.in-Ok.ensures.ok c.in-Ok-plan.ensures)
