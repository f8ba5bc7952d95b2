-- The coefficients that aren't zero are the standard cost.
use Rattle.std.proofs.Common.{ap, sym, subst}
use Rattle.stair_model.specs.Costs.{IsStandardCost}
use Rattle.stair_std.proofs.Counting.{IsStandardCost-nonzero}
use Rattle.stair_std.proofs.generator.Generator.cost.Goals as goal

pub returns-clause-standard : goal.returns-clause-standard
returns-clause-standard c =
    subst (λ g. IsStandardCost g c.self.inside.cost) (ap (λ x. x.geometry) c.self.view_is)
    (subst (IsStandardCost c.self.inside.coefficients.geometry) (sym c.self.invariant.cost)
    (IsStandardCost-nonzero c.self.inside.coefficients c.self.invariant.generator))
