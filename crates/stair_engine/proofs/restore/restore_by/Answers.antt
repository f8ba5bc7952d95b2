-- The stripe is of the code's geometry; each return, by its items.
use Rattle.std.proofs.Common.{◌≡◌, [], length, refl, rules, subst, sym}
use Rattle.std.specs.Prelude.{IsErr, IsNone, IsOk, IsSome}
use Rattle.std.specs.List.{concat}
use Rattle.stair_model.specs.CellSet.{IsInStripe}
use Rattle.stair_model.specs.Geometry.{Geometry}
use Rattle.stair_model.specs.Stripe.{IsStripeOf}
use Rattle.stair_status.specs.declared.status.Status.TheVariants.{Lost, NoCodeword}
use Rattle.stair_command.specs.Outside.{views}
use Rattle.stair_conf.specs.declared.job.StripeCommand.TheVariants.{Restore}
use Rattle.stair_engine.proofs.AnswerLaws.{at_ok, judged_lost, judged_none, judged_restored}
use Rattle.stair_engine.proofs.restore.restore_by.Goals as goal
use Rattle.stair_engine.proofs.StripeLaws.{input_refused, judged_put, judged_unput, told_judged}

pub restore-requires-clause-cells : goal.restore-requires-clause-cells
restore-requires-clause-cells g c =
    subst (λ (of : Geometry). IsInStripe of c.in_ok-erased.erased) c.geometry-geometry.ensures c.in_ok-erased.ensures.takes.is_input.0.within

pub returns-in_err-erased : goal.returns-in_err-erased
returns-in_err-erased g c counter =
    let view = views g.S.Source g.K.Sink in
    input_refused view Restore c.geometry-geometry.result _ _ _ _ c.args.input.now c.take_input.new.input c.args.output.now counter
    c.geometry-geometry.ensures c.in_err-erased.ensures.takes c.from_residual.ensures.1

pub returns-then-is_err : goal.returns-then-is_err
returns-then-is_err g c counter =
    let view = views g.S.Source g.K.Sink in
    let whole = c.in_ok-erased.ensures.takes in
    let refused : IsErr c.restore.result = sym c.if-is_err.ensures.value in
    let long : length c.counts.result ≡ 32 = search rules in
    let is = judged_lost _ _ _ _ c.restore.new.stripe whole.bytes c.geometry-geometry.ensures whole.is_input _ c.restore.ensures.covered c.counts.result _
    c.take_input.ensures.limits refused long c.counts.ensures.value c.n.ensures.value
    in
    told_judged view Restore c.geometry-geometry.result _ _ _ c.args.input.now c.take_input.new.input c.args.output.now counter counter
    c.geometry-geometry.ensures whole (Lost 0 c.counts.result c.n.result) [] is refl

pub returns-then-is_some : goal.returns-then-is_some
returns-then-is_some g c counter =
    let view = views g.S.Source g.K.Sink in
    let whole = c.in_ok-erased.ensures.takes in
    let ok : IsOk c.restore.result = c.if-is_err.ensures.negation in
    let some : IsSome c.first_broken.result = sym c.if-is_some.ensures in
    let is = judged_none _ _ _ _ _ whole.bytes c.geometry-geometry.ensures whole.is_input _ c.restore.ensures.covered _ ok c.restore.ensures.restored
    c.first_broken.ensures.codeword some
    in
    told_judged view Restore c.geometry-geometry.result _ _ _ c.args.input.now c.take_input.new.input c.args.output.now counter counter
    c.geometry-geometry.ensures whole NoCodeword [] is refl

pub returns-in_err-put_stripe : goal.returns-in_err-put_stripe
returns-in_err-put_stripe g c counter =
    let view = views g.S.Source g.K.Sink in
    let whole = c.in_ok-erased.ensures.takes in
    let ok : IsOk c.restore.result = c.if-is_err.ensures.negation in
    let none : IsNone c.first_broken.result = sym c.if-is_some.ensures in
    let failed = c.in_err-put_stripe.ensures.puts in
    let is = judged_restored _ _ _ _ _ whole.bytes c.geometry-geometry.ensures whole.is_input _ c.restore.ensures.covered _ ok c.restore.ensures.held
    c.restore.ensures.of c.restore.ensures.well_formed c.first_broken.ensures.codeword none
    in
    judged_unput view Restore c.geometry-geometry.result _ _ _ c.args.input.now c.take_input.new.input c.args.output.now counter counter
    c.geometry-geometry.ensures whole (concat c.restore.new.stripe.cells) failed.0 c.put_stripe.new.output _ _ is refl failed.1 failed.2
    c.in_err-put_stripe.ensures.failed c.from_residual-in_err-put_stripe.ensures.1

pub returns : goal.returns
returns g c counter =
    let view = views g.S.Source g.K.Sink in
    let whole = c.in_ok-erased.ensures.takes in
    let ok : IsOk c.restore.result = c.if-is_err.ensures.negation in
    let none : IsNone c.first_broken.result = sym c.if-is_some.ensures in
    let is = judged_restored _ _ _ _ _ whole.bytes c.geometry-geometry.ensures whole.is_input _ c.restore.ensures.covered _ ok c.restore.ensures.held
    c.restore.ensures.of c.restore.ensures.well_formed c.first_broken.ensures.codeword none
    in
    judged_put view Restore c.geometry-geometry.result _ _ _ c.args.input.now c.take_input.new.input c.args.output.now counter counter
    c.geometry-geometry.ensures whole (concat c.restore.new.stripe.cells) c.put_stripe.new.output is refl c.in_ok-put_stripe.ensures.puts

pub take_input-requires-clause-of : goal.take_input-requires-clause-of
take_input-requires-clause-of g c = subst (λ (of : Geometry). IsStripeOf of c.args.stripe.now) (sym c.geometry-geometry.ensures) c.requires.of

pub take_input-requires-clause-well_formed : goal.take_input-requires-clause-well_formed
take_input-requires-clause-well_formed g c = c.requires.well_formed

pub restore-requires-clause-of : goal.restore-requires-clause-of
restore-requires-clause-of g c = subst (λ (of : Geometry). IsStripeOf of c.take_input.new.stripe) c.geometry-geometry.ensures c.take_input.ensures.of

pub first_broken-requires : goal.first_broken-requires
first_broken-requires g c = subst (λ (of : Geometry). IsStripeOf of c.restore.new.stripe) (sym c.geometry-geometry.ensures) c.restore.ensures.of

pub put_stripe-requires-clause-of : goal.put_stripe-requires-clause-of
put_stripe-requires-clause-of g c = subst (λ (of : Geometry). IsStripeOf of c.restore.new.stripe) (sym c.geometry-geometry.ensures) c.restore.ensures.of

pub put_stripe-requires-clause-well_formed : goal.put_stripe-requires-clause-well_formed
put_stripe-requires-clause-well_formed g c =
    let ok : IsOk c.restore.result = c.if-is_err.ensures.negation in
    at_ok c.restore.result ok c.restore.ensures.well_formed
