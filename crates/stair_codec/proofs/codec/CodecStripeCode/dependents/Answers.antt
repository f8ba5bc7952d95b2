-- The generator is one of the code's geometry.
use Rattle.std.proofs.Common.{◌≡◌, ap, ◌∙◌, sym, subst}
use Rattle.stair_model.specs.Cell.{Data, cell_at}
use Rattle.stair_model.specs.Dependents.{AreDependents}
use Rattle.stair_codec.proofs.codec.CodecStripeCode.dependents.Goals as goal

pub returns-clause-dependents : goal.returns-clause-dependents
returns-clause-dependents c = λ d is.
    let shape = c.self.invariant ∙ ap (λ x. x.geometry) c.self.view_is in
    subst (λ g. AreDependents g d c.dependents.result) shape
    (c.dependents.ensures.dependents d (subst (λ g. cell_at g c.args.row c.args.slot ≡ Data d) (sym shape) is))
