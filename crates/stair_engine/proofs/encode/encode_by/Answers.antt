-- The stripe is of the code's geometry; each return, by its items.
use Rattle.std.proofs.Common.{subst, sym}
use Rattle.stair_model.specs.Geometry.{Geometry}
use Rattle.stair_model.specs.Stripe.{IsStripeOf}
use Rattle.std.specs.List.{concat}
use Rattle.stair_command.specs.Outside.{views}
use Rattle.stair_conf.specs.declared.job.StripeCommand.TheVariants.{Encode}
use Rattle.stair_engine.proofs.AnswerLaws.{judged_blocks}
use Rattle.stair_engine.proofs.encode.encode_by.Goals as goal
use Rattle.stair_engine.proofs.StripeLaws.{input_refused, judged_put, judged_unput}

pub returns-in_err-take_input : goal.returns-in_err-take_input
returns-in_err-take_input g c =
    let view = views g.S.Source g.K.Sink in
    input_refused view (Encode c.args.method) c.geometry-geometry.result _ _ _ _ c.args.input.now c.take_input.new.input c.args.output.now c.args.steps.now
    c.geometry-geometry.ensures c.in_err-take_input.ensures.takes c.from_residual.ensures.1

pub returns-in_err-put_stripe : goal.returns-in_err-put_stripe
returns-in_err-put_stripe g c =
    let view = views g.S.Source g.K.Sink in
    let whole = c.in_ok-take_input.ensures.takes in
    let failed = c.in_err-put_stripe.ensures.puts in
    let is = judged_blocks c.args.method c.geometry-geometry.result _ c.take_input.new.stripe c.encode.new.stripe whole.bytes _ _ _ c.geometry-geometry.ensures
    c.take_input.ensures.limits whole.is_input c.encode.ensures.encoded c.requires.cost c.encode.ensures.takes
    in
    judged_unput view (Encode c.args.method) c.geometry-geometry.result _ _ _ c.args.input.now c.take_input.new.input c.args.output.now c.args.steps.now c.encode.new.steps
    c.geometry-geometry.ensures whole (concat c.encode.new.stripe.cells) failed.0 c.put_stripe.new.output _ _ is.0 is.1 failed.1 failed.2
    c.in_err-put_stripe.ensures.failed c.from_residual-in_err-put_stripe.ensures.1

pub returns : goal.returns
returns g c =
    let view = views g.S.Source g.K.Sink in
    let whole = c.in_ok-take_input.ensures.takes in
    let is = judged_blocks c.args.method c.geometry-geometry.result _ c.take_input.new.stripe c.encode.new.stripe whole.bytes _ _ _ c.geometry-geometry.ensures
    c.take_input.ensures.limits whole.is_input c.encode.ensures.encoded c.requires.cost c.encode.ensures.takes
    in
    judged_put view (Encode c.args.method) c.geometry-geometry.result _ _ _ c.args.input.now c.take_input.new.input c.args.output.now c.args.steps.now c.encode.new.steps
    c.geometry-geometry.ensures whole (concat c.encode.new.stripe.cells) c.put_stripe.new.output is.0 is.1 c.in_ok-put_stripe.ensures.puts

pub take_input-requires-clause-of : goal.take_input-requires-clause-of
take_input-requires-clause-of g c = subst (λ (of : Geometry). IsStripeOf of c.args.stripe.now) (sym c.geometry-geometry.ensures) c.requires.of

pub take_input-requires-clause-well_formed : goal.take_input-requires-clause-well_formed
take_input-requires-clause-well_formed g c = c.requires.well_formed

pub encode-requires : goal.encode-requires
encode-requires g c = subst (λ (of : Geometry). IsStripeOf of c.take_input.new.stripe) c.geometry-geometry.ensures c.take_input.ensures.of

pub put_stripe-requires-clause-of : goal.put_stripe-requires-clause-of
put_stripe-requires-clause-of g c =
    subst (λ (of : Geometry). IsStripeOf of c.encode.new.stripe) (sym c.geometry-geometry.ensures) c.encode.ensures.encoded.of

pub put_stripe-requires-clause-well_formed : goal.put_stripe-requires-clause-well_formed
put_stripe-requires-clause-well_formed g c = c.encode.ensures.encoded.formed
