-- The generator is one of the code's geometry.
use Rattle.std.proofs.Common.{◌≡◌, ap, ◌∙◌, sym, subst}
use Rattle.stair_model.specs.Cell.{Data, cell_at}
use Rattle.stair_model.specs.Dependents.{AreDependents}
use Rattle.stair_codec.proofs.codec.CodecStripeCode.update.Goals as goal

pub returns-clause-takes : goal.returns-clause-takes
returns-clause-takes g c = λ d dependents is are.
    let shape = c.self.invariant ∙ ap (λ x. x.geometry) c.self.view_is in
    c.update.ensures.takes d dependents (subst (λ g. cell_at g c.args.row c.args.slot ≡ Data d) (sym shape) is)
    (subst (λ g. AreDependents g d dependents) (sym shape) are)
