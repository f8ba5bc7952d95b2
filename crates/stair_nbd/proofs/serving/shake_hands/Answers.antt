-- What is said first wasn't put out; no flags came, or unknown ones; or options come after them.
use Rattle.std.proofs.Common.{◌∙◌, rules}
use Rattle.stair_command.specs.Outside.{views}
use Rattle.stair_status.specs.declared.status.Status.TheVariants.{Done}
use Rattle.stair_nbd.specs.Client.{shakes_hands, status_of_nbd}
use Rattle.stair_nbd.specs.Wire.{FLAGS_LENGTH}
use Rattle.stair_nbd.proofs.OptionLaws.{handed_on, header_came, header_passed, none_read}
use Rattle.stair_nbd.proofs.ShakeLaws.{flags_over, no_flags, options_come, unsaid}
use Rattle.stair_nbd.proofs.serving.shake_hands.Goals as goal

pub returns-in_err-put-clause-talks : goal.returns-in_err-put-clause-talks
returns-in_err-put-clause-talks g c rest =
    let view = views g.S.Source g.K.Sink in
    handed_on view (shakes_hands c.args.size rest) rest _ _ _ _ c.from_residual.result c.in_err-put.field-0.0 c.from_residual.ensures.1
    (unsaid view c.args.size c.args.input.now c.args.output.now c.bytes.result.now (c.bytes.ensures ∙ c.greeting.ensures) c.put.new.output
    (status_of_nbd c.in_err-put.field-0.0) c.in_err-put.ensures rest)

pub returns-in_err-take_header-clause-talks : goal.returns-in_err-take_header-clause-talks
returns-in_err-take_header-clause-talks g c rest =
    let view = views g.S.Source g.K.Sink in
    handed_on view (shakes_hands c.args.size rest) rest _ _ _ _ c.from_residual-in_err-take_header.result c.in_err-take_header.field-0.0 c.from_residual-in_err-take_header.ensures.1
    (flags_over view c.args.size c.args.input.now c.args.output.now c.bytes.result.now (c.bytes.ensures ∙ c.greeting.ensures) c.put.new.output
    c.in_ok-put.ensures c.take_header.new.input (status_of_nbd c.in_err-take_header.field-0.0) c.in_err-take_header.ensures rest)

pub returns-then-not-branch-clause-talks : goal.returns-then-not-branch-clause-talks
returns-then-not-branch-clause-talks g c rest =
    let view = views g.S.Source g.K.Sink in
    flags_over view c.args.size c.args.input.now c.args.output.now c.bytes.result.now (c.bytes.ensures ∙ c.greeting.ensures) c.put.new.output
    c.in_ok-put.ensures c.take_header.new.input Done
    (header_passed view.source FLAGS_LENGTH c.take_header.new.header c.in_ok-take_header.field-0 c.args.input.now c.take_header.new.input (search rules)
    c.in_ok-take_header.ensures) rest

pub returns-in_default-clause-talks : goal.returns-in_default-clause-talks
returns-in_default-clause-talks g c rest =
    let view = views g.S.Source g.K.Sink in
    let came = header_came view.source FLAGS_LENGTH c.take_header.new.header c.in_ok-take_header.field-0 c.args.input.now c.take_header.new.input (search rules)
    c.in_ok-take_header.ensures in
    no_flags view c.args.size c.args.input.now c.args.output.now c.bytes.result.now (c.bytes.ensures ∙ c.greeting.ensures) c.put.new.output
    c.in_ok-put.ensures c.take_header.new.input c.take_header.new.header came c.read_flags.result c.read_flags.ensures
    (none_read c.read_flags.result c.in_default.not-Some) rest

pub returns-clause-talks : goal.returns-clause-talks
returns-clause-talks g c rest =
    let view = views g.S.Source g.K.Sink in
    let came = header_came view.source FLAGS_LENGTH c.take_header.new.header c.in_ok-take_header.field-0 c.args.input.now c.take_header.new.input (search rules)
    c.in_ok-take_header.ensures in
    options_come view c.args.size c.args.input.now c.args.output.now c.bytes.result.now (c.bytes.ensures ∙ c.greeting.ensures) c.put.new.output
    c.in_ok-put.ensures c.take_header.new.input c.take_header.new.header came c.read_flags.result c.read_flags.ensures
    c.in-Some.brief c.in-Some.is c.bytes-2.result.now (c.bytes-2.ensures ∙ c.export_answer-export.ensures) c.answer_options.new.input
    c.answer_options.new.output c.answer_options.result c.answer_options.ensures.talks rest
