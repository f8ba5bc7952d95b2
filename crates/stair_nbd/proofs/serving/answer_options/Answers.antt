-- The input ended or failed; or an option was no option, named the export, ended the session, or wasn't known.
use Rattle.std.proofs.Common.{◌≡◌, ◌∙◌, ◌+◌, ◌<◌, ◌≤◌, None, Some, arith, length, rules, sym, take}
use Rattle.std.proofs.lemmas.List.{length-take-le}
use Rattle.stair_command.specs.Outside.{views}
use Rattle.stair_command.specs.Program.{Over}
use Rattle.stair_status.specs.declared.status.Status.TheVariants.{Done}
use Rattle.stair_nbd.specs.Client.{SESSION_LIMIT, options, status_of_nbd}
use Rattle.stair_nbd.specs.Wire.{ABORT, EXPORT_NAME, OPTION_LENGTH, read_option}
use Rattle.stair_nbd.proofs.OptionLaws.{Rest, abort_over, answered_none, data_over, ends_late, export_cut, export_put, handed_on, header_came, header_over, header_passed, no_option, none_read, one_more, option_short, unknown_cut}
use Rattle.stair_nbd.proofs.serving.answer_options.Goals as goal

pub loop-header-init : goal.loop-header-init
loop-header-init g c =
    let view = views g.S.Source g.K.Sink in
    answered_none view c.args.export.now SESSION_LIMIT 2 4 c.args.input.now c.args.output.now (omega arith) (omega arith)

pub returns-in_err-take_header-clause-talks : goal.returns-in_err-take_header-clause-talks
returns-in_err-take_header-clause-talks g c rest =
    let view = views g.S.Source g.K.Sink in
    let from = λ (rest : Rest). options c.args.export.now rest SESSION_LIMIT 2 4 in
    let early : c.loop-header.place.taken < SESSION_LIMIT = c.is_too_late.ensures.early (search rules) in
    handed_on view (from rest) rest _ _ _ _ c.from_residual.result c.in_err-take_header.field-0.0 c.from_residual.ensures.1
    (header_over view c.args.export.now from c.args.input.now c.args.output.now c.loop-header.place.number c.loop-header.place.taken c.loop-header.input
    c.loop-header.output c.loop-header.invariant early c.take_header.new.input (status_of_nbd c.in_err-take_header.field-0.0) c.in_err-take_header.ensures rest)

pub returns-then-not-branch-clause-talks : goal.returns-then-not-branch-clause-talks
returns-then-not-branch-clause-talks g c rest =
    let view = views g.S.Source g.K.Sink in
    let from = λ (rest : Rest). options c.args.export.now rest SESSION_LIMIT 2 4 in
    let early : c.loop-header.place.taken < SESSION_LIMIT = c.is_too_late.ensures.early (search rules) in
    header_over view c.args.export.now from c.args.input.now c.args.output.now c.loop-header.place.number c.loop-header.place.taken c.loop-header.input
    c.loop-header.output c.loop-header.invariant early c.take_header.new.input Done
    (header_passed view.source OPTION_LENGTH c.take_header.new.header c.in_ok-take_header.field-0 c.loop-header.input c.take_header.new.input (search rules)
    c.in_ok-take_header.ensures) rest

pub returns-in_default-clause-talks : goal.returns-in_default-clause-talks
returns-in_default-clause-talks g c rest =
    let view = views g.S.Source g.K.Sink in
    let from = λ (rest : Rest). options c.args.export.now rest SESSION_LIMIT 2 4 in
    let early : c.loop-header.place.taken < SESSION_LIMIT = c.is_too_late.ensures.early (search rules) in
    let came = header_came view.source OPTION_LENGTH c.take_header.new.header c.in_ok-take_header.field-0 c.loop-header.input c.take_header.new.input (search rules)
    c.in_ok-take_header.ensures in
    no_option view c.args.export.now from c.args.input.now c.args.output.now c.loop-header.place.number c.loop-header.place.taken c.loop-header.input
    c.loop-header.output c.loop-header.invariant early c.take_header.new.input c.take_header.new.header came
    (sym c.read.ensures ∙ none_read c.read.result c.in_default.not-Some) rest

pub returns-in_err-take_data-clause-talks : goal.returns-in_err-take_data-clause-talks
returns-in_err-take_data-clause-talks g c rest =
    let view = views g.S.Source g.K.Sink in
    let from = λ (rest : Rest). options c.args.export.now rest SESSION_LIMIT 2 4 in
    let early : c.loop-header.place.taken < SESSION_LIMIT = c.is_too_late.ensures.early (search rules) in
    let came = header_came view.source OPTION_LENGTH c.take_header.new.header c.in_ok-take_header.field-0 c.loop-header.input c.take_header.new.input (search rules)
    c.in_ok-take_header.ensures in
    let is : read_option c.take_header.new.header ≡ Some c.in-Some.field-0 = sym c.read.ensures ∙ c.in-Some.is in
    let room : c.in-Some.field-0.length ≤ length c.loop-header.buffer =
    omega (arith, option_short c.take_header.new.header c.in-Some.field-0 is, c.loop-header.auto.buffer, c.requires.room) in
    let long : length (take c.in-Some.field-0.length c.loop-header.buffer) ≡ c.in-Some.field-0.length =
    length-take-le c.in-Some.field-0.length c.loop-header.buffer room in
    handed_on view (from rest) rest _ _ _ _ c.from_residual-in_err-take_data.result c.in_err-take_data.field-0.0 c.from_residual-in_err-take_data.ensures.1
    (data_over view c.args.export.now from c.args.input.now c.args.output.now c.loop-header.place.number c.loop-header.place.taken c.loop-header.input
    c.loop-header.output c.loop-header.invariant early c.take_header.new.input c.take_header.new.header came c.in-Some.field-0 is c.take_data.new.input
    (length (take c.in-Some.field-0.length c.loop-header.buffer)) (status_of_nbd c.in_err-take_data.field-0.0) long c.in_err-take_data.ensures rest)

pub returns-in_err-put-clause-talks : goal.returns-in_err-put-clause-talks
returns-in_err-put-clause-talks g c rest =
    let view = views g.S.Source g.K.Sink in
    let from = λ (rest : Rest). options c.args.export.now rest SESSION_LIMIT 2 4 in
    let early : c.loop-header.place.taken < SESSION_LIMIT = c.is_too_late.ensures.early (search rules) in
    let came = header_came view.source OPTION_LENGTH c.take_header.new.header c.in_ok-take_header.field-0 c.loop-header.input c.take_header.new.input (search rules)
    c.in_ok-take_header.ensures in
    let is : read_option c.take_header.new.header ≡ Some c.in-Some.field-0 = sym c.read.ensures ∙ c.in-Some.is in
    let room : c.in-Some.field-0.length ≤ length c.loop-header.buffer =
    omega (arith, option_short c.take_header.new.header c.in-Some.field-0 is, c.loop-header.auto.buffer, c.requires.room) in
    let long : length (take c.in-Some.field-0.length c.loop-header.buffer) ≡ c.in-Some.field-0.length =
    length-take-le c.in-Some.field-0.length c.loop-header.buffer room in
    let names : c.in-Some.field-0.option ≡ EXPORT_NAME = c.if-option-eq-EXPORT_NAME.true in
    handed_on view (from rest) rest _ _ _ _ c.from_residual-in_err-put.result c.in_err-put.field-0.0 c.from_residual-in_err-put.ensures.1
    (export_cut view c.args.export.now from c.args.input.now c.args.output.now c.loop-header.place.number c.loop-header.place.taken c.loop-header.input
    c.loop-header.output c.loop-header.invariant early c.take_header.new.input c.take_header.new.header came c.in-Some.field-0 is c.take_data.new.input
    (length (take c.in-Some.field-0.length c.loop-header.buffer)) c.take_data.new.into long c.in_ok-take_data.ensures names
    c.put.new.output (status_of_nbd c.in_err-put.field-0.0) c.in_err-put.ensures rest)

pub returns-then-option-eq-EXPORT_NAME-clause-talks : goal.returns-then-option-eq-EXPORT_NAME-clause-talks
returns-then-option-eq-EXPORT_NAME-clause-talks g c rest =
    let view = views g.S.Source g.K.Sink in
    let from = λ (rest : Rest). options c.args.export.now rest SESSION_LIMIT 2 4 in
    let early : c.loop-header.place.taken < SESSION_LIMIT = c.is_too_late.ensures.early (search rules) in
    let came = header_came view.source OPTION_LENGTH c.take_header.new.header c.in_ok-take_header.field-0 c.loop-header.input c.take_header.new.input (search rules)
    c.in_ok-take_header.ensures in
    let is : read_option c.take_header.new.header ≡ Some c.in-Some.field-0 = sym c.read.ensures ∙ c.in-Some.is in
    let room : c.in-Some.field-0.length ≤ length c.loop-header.buffer =
    omega (arith, option_short c.take_header.new.header c.in-Some.field-0 is, c.loop-header.auto.buffer, c.requires.room) in
    let long : length (take c.in-Some.field-0.length c.loop-header.buffer) ≡ c.in-Some.field-0.length =
    length-take-le c.in-Some.field-0.length c.loop-header.buffer room in
    let names : c.in-Some.field-0.option ≡ EXPORT_NAME = c.if-option-eq-EXPORT_NAME.true in
    let behind : c.behind-next.result.taken ≡ c.loop-header.place.taken + (OPTION_LENGTH + c.in-Some.field-0.length) =
    omega (arith, c.behind-next.ensures.taken) in
    export_put view c.args.export.now from c.args.input.now c.args.output.now c.loop-header.place.number c.loop-header.place.taken c.loop-header.input
    c.loop-header.output c.loop-header.invariant early c.take_header.new.input c.take_header.new.header came c.in-Some.field-0 is c.take_data.new.input
    (length (take c.in-Some.field-0.length c.loop-header.buffer)) c.take_data.new.into long c.in_ok-take_data.ensures names
    c.put.new.output c.in_ok-put.ensures c.behind-next.result c.behind-next.ensures.number behind rest

pub returns-in_err-put-2-clause-talks : goal.returns-in_err-put-2-clause-talks
returns-in_err-put-2-clause-talks g c rest =
    let view = views g.S.Source g.K.Sink in
    let from = λ (rest : Rest). options c.args.export.now rest SESSION_LIMIT 2 4 in
    let early : c.loop-header.place.taken < SESSION_LIMIT = c.is_too_late.ensures.early (search rules) in
    let came = header_came view.source OPTION_LENGTH c.take_header.new.header c.in_ok-take_header.field-0 c.loop-header.input c.take_header.new.input (search rules)
    c.in_ok-take_header.ensures in
    let is : read_option c.take_header.new.header ≡ Some c.in-Some.field-0 = sym c.read.ensures ∙ c.in-Some.is in
    let room : c.in-Some.field-0.length ≤ length c.loop-header.buffer =
    omega (arith, option_short c.take_header.new.header c.in-Some.field-0 is, c.loop-header.auto.buffer, c.requires.room) in
    let long : length (take c.in-Some.field-0.length c.loop-header.buffer) ≡ c.in-Some.field-0.length =
    length-take-le c.in-Some.field-0.length c.loop-header.buffer room in
    let other : c.in-Some.field-0.option ≡ EXPORT_NAME → ⊥ = search rules in
    let aborts : c.in-Some.field-0.option ≡ ABORT = c.if-option-eq-ABORT.true in
    handed_on view (from rest) rest _ _ _ _ c.from_residual-in_err-put-2.result c.in_err-put-2.field-0.0 c.from_residual-in_err-put-2.ensures.1
    (abort_over view c.args.export.now from c.args.input.now c.args.output.now c.loop-header.place.number c.loop-header.place.taken c.loop-header.input
    c.loop-header.output c.loop-header.invariant early c.take_header.new.input c.take_header.new.header came c.in-Some.field-0 is c.take_data.new.input
    (length (take c.in-Some.field-0.length c.loop-header.buffer)) c.take_data.new.into long c.in_ok-take_data.ensures other aborts
    c.put-then-option-eq-ABORT.new.output c.bytes.result.now (status_of_nbd c.in_err-put-2.field-0.0) (c.bytes.ensures ∙ c.option_reply.ensures) (c.in_err-put-2.ensures (Over Done)) rest)

pub returns-then-option-eq-ABORT-clause-talks : goal.returns-then-option-eq-ABORT-clause-talks
returns-then-option-eq-ABORT-clause-talks g c rest =
    let view = views g.S.Source g.K.Sink in
    let from = λ (rest : Rest). options c.args.export.now rest SESSION_LIMIT 2 4 in
    let early : c.loop-header.place.taken < SESSION_LIMIT = c.is_too_late.ensures.early (search rules) in
    let came = header_came view.source OPTION_LENGTH c.take_header.new.header c.in_ok-take_header.field-0 c.loop-header.input c.take_header.new.input (search rules)
    c.in_ok-take_header.ensures in
    let is : read_option c.take_header.new.header ≡ Some c.in-Some.field-0 = sym c.read.ensures ∙ c.in-Some.is in
    let room : c.in-Some.field-0.length ≤ length c.loop-header.buffer =
    omega (arith, option_short c.take_header.new.header c.in-Some.field-0 is, c.loop-header.auto.buffer, c.requires.room) in
    let long : length (take c.in-Some.field-0.length c.loop-header.buffer) ≡ c.in-Some.field-0.length =
    length-take-le c.in-Some.field-0.length c.loop-header.buffer room in
    let other : c.in-Some.field-0.option ≡ EXPORT_NAME → ⊥ = search rules in
    let aborts : c.in-Some.field-0.option ≡ ABORT = c.if-option-eq-ABORT.true in
    abort_over view c.args.export.now from c.args.input.now c.args.output.now c.loop-header.place.number c.loop-header.place.taken c.loop-header.input
    c.loop-header.output c.loop-header.invariant early c.take_header.new.input c.take_header.new.header came c.in-Some.field-0 is c.take_data.new.input
    (length (take c.in-Some.field-0.length c.loop-header.buffer)) c.take_data.new.into long c.in_ok-take_data.ensures other aborts
    c.put-then-option-eq-ABORT.new.output c.bytes.result.now Done (c.bytes.ensures ∙ c.option_reply.ensures) (c.in_ok-put-2.ensures (Over Done)) rest

pub returns-in_err-put-3-clause-talks : goal.returns-in_err-put-3-clause-talks
returns-in_err-put-3-clause-talks g c rest =
    let view = views g.S.Source g.K.Sink in
    let from = λ (rest : Rest). options c.args.export.now rest SESSION_LIMIT 2 4 in
    let early : c.loop-header.place.taken < SESSION_LIMIT = c.is_too_late.ensures.early (search rules) in
    let came = header_came view.source OPTION_LENGTH c.take_header.new.header c.in_ok-take_header.field-0 c.loop-header.input c.take_header.new.input (search rules)
    c.in_ok-take_header.ensures in
    let is : read_option c.take_header.new.header ≡ Some c.in-Some.field-0 = sym c.read.ensures ∙ c.in-Some.is in
    let room : c.in-Some.field-0.length ≤ length c.loop-header.buffer =
    omega (arith, option_short c.take_header.new.header c.in-Some.field-0 is, c.loop-header.auto.buffer, c.requires.room) in
    let long : length (take c.in-Some.field-0.length c.loop-header.buffer) ≡ c.in-Some.field-0.length =
    length-take-le c.in-Some.field-0.length c.loop-header.buffer room in
    let other : c.in-Some.field-0.option ≡ EXPORT_NAME → ⊥ = search rules in
    let stays : c.in-Some.field-0.option ≡ ABORT → ⊥ = search rules in
    handed_on view (from rest) rest _ _ _ _ c.from_residual-in_err-put-3.result c.in_err-put-3.field-0.0 c.from_residual-in_err-put-3.ensures.1
    (unknown_cut view c.args.export.now from c.args.input.now c.args.output.now c.loop-header.place.number c.loop-header.place.taken c.loop-header.input
    c.loop-header.output c.loop-header.invariant early c.take_header.new.input c.take_header.new.header came c.in-Some.field-0 is c.take_data.new.input
    (length (take c.in-Some.field-0.length c.loop-header.buffer)) c.take_data.new.into long c.in_ok-take_data.ensures other stays
    c.put-in-loop-header.new.output c.bytes-in-loop-header.result.now (c.bytes-in-loop-header.ensures ∙ c.option_reply-in-loop-header.ensures) (status_of_nbd c.in_err-put-3.field-0.0) c.in_err-put-3.ensures rest)

pub loop-header-preserved : goal.loop-header-preserved
loop-header-preserved g c =
    let view = views g.S.Source g.K.Sink in
    let from = λ (rest : Rest). options c.args.export.now rest SESSION_LIMIT 2 4 in
    let early : c.loop-header.place.taken < SESSION_LIMIT = c.is_too_late.ensures.early (search rules) in
    let came = header_came view.source OPTION_LENGTH c.take_header.new.header c.in_ok-take_header.field-0 c.loop-header.input c.take_header.new.input (search rules)
    c.in_ok-take_header.ensures in
    let is : read_option c.take_header.new.header ≡ Some c.in-Some.field-0 = sym c.read.ensures ∙ c.in-Some.is in
    let room : c.in-Some.field-0.length ≤ length c.loop-header.buffer =
    omega (arith, option_short c.take_header.new.header c.in-Some.field-0 is, c.loop-header.auto.buffer, c.requires.room) in
    let long : length (take c.in-Some.field-0.length c.loop-header.buffer) ≡ c.in-Some.field-0.length =
    length-take-le c.in-Some.field-0.length c.loop-header.buffer room in
    let other : c.in-Some.field-0.option ≡ EXPORT_NAME → ⊥ = search rules in
    let stays : c.in-Some.field-0.option ≡ ABORT → ⊥ = search rules in
    let behind : c.behind-next.result.taken ≡ c.loop-header.place.taken + (OPTION_LENGTH + c.in-Some.field-0.length) =
    omega (arith, c.behind-next.ensures.taken) in
    one_more view c.args.export.now from c.args.input.now c.args.output.now c.loop-header.place.number c.loop-header.place.taken c.loop-header.input
    c.loop-header.output c.loop-header.invariant early c.take_header.new.input c.take_header.new.header came c.in-Some.field-0 is c.take_data.new.input
    (length (take c.in-Some.field-0.length c.loop-header.buffer)) c.take_data.new.into long c.in_ok-take_data.ensures other stays
    c.put-in-loop-header.new.output c.bytes-in-loop-header.result.now (c.bytes-in-loop-header.ensures ∙ c.option_reply-in-loop-header.ensures) c.in_ok-put-3.ensures c.behind-next.result c.behind-next.ensures.number behind

pub returns-in_err-take_end-clause-talks : goal.returns-in_err-take_end-clause-talks
returns-in_err-take_end-clause-talks g c rest =
    let view = views g.S.Source g.K.Sink in
    let from = λ (rest : Rest). options c.args.export.now rest SESSION_LIMIT 2 4 in
    let late : SESSION_LIMIT ≤ c.loop-header.place.taken = c.is_too_late.ensures.late (search rules) in
    handed_on view (from rest) rest _ _ _ _ c.from_residual-in_err-take_end.result c.in_err-take_end.field-0.0 c.from_residual-in_err-take_end.ensures.1
    (ends_late view c.args.export.now from c.args.input.now c.args.output.now c.loop-header.place.number c.loop-header.place.taken c.loop-header.input
    c.loop-header.output c.loop-header.invariant late c.take_end.new.input (status_of_nbd c.in_err-take_end.field-0.0) c.in_err-take_end.ensures rest)

pub returns-clause-talks : goal.returns-clause-talks
returns-clause-talks g c rest =
    let view = views g.S.Source g.K.Sink in
    let from = λ (rest : Rest). options c.args.export.now rest SESSION_LIMIT 2 4 in
    let late : SESSION_LIMIT ≤ c.loop-header.place.taken = c.is_too_late.ensures.late (search rules) in
    ends_late view c.args.export.now from c.args.input.now c.args.output.now c.loop-header.place.number c.loop-header.place.taken c.loop-header.input
    c.loop-header.output c.loop-header.invariant late c.take_end.new.input Done c.in_ok-take_end.ensures rest
