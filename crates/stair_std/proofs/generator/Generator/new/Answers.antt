-- The coefficients that aren't zero are the standard cost.
use Rattle.std.proofs.Common.{sym, subst}
use Rattle.stair_model.specs.Costs.{IsStandardCost}
use Rattle.stair_std.proofs.Counting.{IsStandardCost-nonzero}
use Rattle.stair_std.proofs.generator.Generator.new.Goals as goal

pub returns-clause-standard : goal.returns-clause-standard
returns-clause-standard c =
    subst (λ g. IsStandardCost g c.nonzero_count-cost.result) c.in_ok-coefficients.ensures.geometry
    (subst (IsStandardCost c.in_ok-coefficients.coefficients.geometry) (sym c.nonzero_count-cost.ensures)
    (IsStandardCost-nonzero c.in_ok-coefficients.coefficients c.in_ok-coefficients.ensures.generator))
