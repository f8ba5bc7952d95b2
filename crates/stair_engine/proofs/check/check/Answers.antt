-- Each return, by its items.
use Rattle.std.proofs.Common.{[], refl, rules}
use Rattle.std.specs.Prelude.{IsNone}
use Rattle.stair_command.specs.Answer.{codeword_line}
use Rattle.stair_status.specs.declared.status.Status.TheVariants.{NotCodeword}
use Rattle.stair_command.specs.Outside.{views}
use Rattle.stair_conf.specs.declared.job.StripeCommand.TheVariants.{Check}
use Rattle.stair_engine.proofs.check.check.Goals as goal
use Rattle.stair_engine.proofs.StripeLaws.{after_memory, input_refused, judged_put, judged_unput, no_memory, told_judged}

pub returns-in_err-stripe : goal.returns-in_err-stripe
returns-in_err-stripe g c counter =
    let view = views g.S.Source g.K.Sink in
    no_memory view Check c.args.geometry.now _ _ c.from_residual.ensures.1

pub returns-in_err-take_input : goal.returns-in_err-take_input
returns-in_err-take_input g c counter =
    let view = views g.S.Source g.K.Sink in
    let of = c.args.geometry.now in
    after_memory view Check of _ _ _
    (input_refused view Check of of _ _ _ c.args.input.now c.take_input.new.input c.args.output.now counter refl c.in_err-take_input.ensures.takes
    c.from_residual-in_err-take_input.ensures.1)

pub returns-in-Some : goal.returns-in-Some
returns-in-Some g c counter =
    let view = views g.S.Source g.K.Sink in
    let of = c.args.geometry.now in
    let whole = c.in_ok-take_input.ensures.takes in
    after_memory view Check of _ _ _
    (told_judged view Check of of _ _ c.args.input.now c.take_input.new.input c.args.output.now counter counter refl whole (NotCodeword c.in-Some.broken) []
    (c.take_input.new.stripe, whole.is_input, (c.in-Some.ensures.broken, refl)) refl)

pub returns-in_err-put_all : goal.returns-in_err-put_all
returns-in_err-put_all g c counter =
    let view = views g.S.Source g.K.Sink in
    let of = c.args.geometry.now in
    let none : IsNone c.first_broken.result = search rules in
    let whole = c.in_ok-take_input.ensures.takes in
    let failed = c.in_err-put_all.ensures.puts in
    after_memory view Check of _ _ _
    (judged_unput view Check of of _ _ c.args.input.now c.take_input.new.input c.args.output.now counter counter refl whole codeword_line failed.0
    c.put_all.new.output _ _ (c.take_input.new.stripe, whole.is_input, (c.first_broken.ensures.codeword.0 none, refl)) refl failed.1 failed.2
    c.in_err-put_all.ensures.failed c.from_residual-in_err-put_all.ensures.1)

pub returns : goal.returns
returns g c counter =
    let view = views g.S.Source g.K.Sink in
    let of = c.args.geometry.now in
    let none : IsNone c.first_broken.result = search rules in
    let whole = c.in_ok-take_input.ensures.takes in
    after_memory view Check of _ _ _
    (judged_put view Check of of _ _ c.args.input.now c.take_input.new.input c.args.output.now counter counter refl whole codeword_line
    c.put_all.new.output (c.take_input.new.stripe, whole.is_input, (c.first_broken.ensures.codeword.0 none, refl)) refl c.in_ok-put_all.ensures.puts)
