-- No request came, or none that can be answered; the client goes; or it was answered.
use Rattle.std.proofs.Common.{false, ◌≡◌, ◌∙◌, ◌+◌, ◌<◌, ◌≤◌, Some, arith, length, refl, rules, sym}
use Rattle.stair_array.specs.Promise.{Opened}
use Rattle.stair_command.specs.Devices.{device_view, devices}
use Rattle.stair_command.specs.Outside.{views}
use Rattle.stair_command.specs.Rack.{rack_view}
use Rattle.stair_status.specs.declared.status.Status.TheVariants.{Done}
use Rattle.stair_nbd.specs.Client.{SESSION_LIMIT, is_disconnect, status_of, status_of_nbd}
use Rattle.stair_nbd.specs.Wire.{REPLY_LENGTH, REQUEST_LENGTH, read_request}
use Rattle.stair_nbd.proofs.OptionLaws.{header_came, header_passed, none_read}
use Rattle.stair_nbd.proofs.ReplyLaws.{kept_after, reply_after}
use Rattle.stair_nbd.proofs.RequestLaws.{answered_none, client_goes, did_fail, ends_late, no_data, no_header, no_reply, no_request, one_answered}
use Rattle.stair_nbd.proofs.serving.answer_requests.Goals as goal

pub loop-header-init : goal.loop-header-init
loop-header-init g c =
    let view =
    device_view (rack_view g.R.Rack) (λ b. (goal.Watcher-dyn g (b.vtable, b.value)).hears b.value) in
    let streams = views g.S.Source g.K.Sink in
    answered_none view streams c.args.place c.args.rack.now c.args.array.now c.args.watchers.now.items c.args.input.now c.args.output.now
    c.requires.place c.requires.stay

pub returns-in_err-take_header-clause-means : goal.returns-in_err-take_header-clause-means
returns-in_err-take_header-clause-means g c =
    let view =
    device_view (rack_view g.R.Rack) (λ b. (goal.Watcher-dyn g (b.vtable, b.value)).hears b.value) in
    let streams = views g.S.Source g.K.Sink in
    let early : c.loop-header.place.taken < SESSION_LIMIT = c.is_too_late.ensures.early (search rules) in
    did_fail view streams _ _ _ _ c.take_header.new.input c.loop-header.output (devices c.loop-header.rack (Opened c.loop-header.array) c.loop-header.watchers.items) c.from_residual.result c.in_err-take_header.field-0.0 c.from_residual.ensures.1
    (no_header c.loop-header.invariant early c.take_header.new.input (status_of_nbd c.in_err-take_header.field-0.0) c.in_err-take_header.ensures)

pub returns-then-not-branch-clause-means : goal.returns-then-not-branch-clause-means
returns-then-not-branch-clause-means g c =
    let streams = views g.S.Source g.K.Sink in
    let early : c.loop-header.place.taken < SESSION_LIMIT = c.is_too_late.ensures.early (search rules) in
    no_header c.loop-header.invariant early c.take_header.new.input Done
    (header_passed streams.source REQUEST_LENGTH c.take_header.new.header c.in_ok-take_header.field-0 c.loop-header.input c.take_header.new.input (search rules)
    c.in_ok-take_header.ensures)

pub returns-in_default-clause-means : goal.returns-in_default-clause-means
returns-in_default-clause-means g c =
    let streams = views g.S.Source g.K.Sink in
    let early : c.loop-header.place.taken < SESSION_LIMIT = c.is_too_late.ensures.early (search rules) in
    let came = header_came streams.source REQUEST_LENGTH c.take_header.new.header c.in_ok-take_header.field-0 c.loop-header.input c.take_header.new.input
    (search rules) c.in_ok-take_header.ensures in
    no_request c.loop-header.invariant early c.take_header.new.input c.take_header.new.header came (sym c.read.ensures ∙ none_read c.read.result c.in_default.not-Some)

pub returns-then-is_disconnect-clause-means : goal.returns-then-is_disconnect-clause-means
returns-then-is_disconnect-clause-means g c =
    let streams = views g.S.Source g.K.Sink in
    let early : c.loop-header.place.taken < SESSION_LIMIT = c.is_too_late.ensures.early (search rules) in
    let came = header_came streams.source REQUEST_LENGTH c.take_header.new.header c.in_ok-take_header.field-0 c.loop-header.input c.take_header.new.input
    (search rules) c.in_ok-take_header.ensures in
    let asks : read_request c.take_header.new.header ≡ Some c.in-Some.request = sym c.read.ensures ∙ c.in-Some.is in
    client_goes c.loop-header.invariant early c.take_header.new.input c.take_header.new.header came c.in-Some.request asks (search rules)

pub returns-in_err-take_request_data-clause-means : goal.returns-in_err-take_request_data-clause-means
returns-in_err-take_request_data-clause-means g c =
    let view =
    device_view (rack_view g.R.Rack) (λ b. (goal.Watcher-dyn g (b.vtable, b.value)).hears b.value) in
    let streams = views g.S.Source g.K.Sink in
    let early : c.loop-header.place.taken < SESSION_LIMIT = c.is_too_late.ensures.early (search rules) in
    let came = header_came streams.source REQUEST_LENGTH c.take_header.new.header c.in_ok-take_header.field-0 c.loop-header.input c.take_header.new.input
    (search rules) c.in_ok-take_header.ensures in
    let asks : read_request c.take_header.new.header ≡ Some c.in-Some.request = sym c.read.ensures ∙ c.in-Some.is in
    let stays : is_disconnect c.in-Some.request.command ≡ false = search rules in
    did_fail view streams _ _ _ _ c.take_request_data.new.input c.loop-header.output (devices c.loop-header.rack (Opened c.loop-header.array) c.loop-header.watchers.items) c.from_residual-in_err-take_request_data.result c.in_err-take_request_data.field-0.0 c.from_residual-in_err-take_request_data.ensures.1
    (no_data c.loop-header.invariant early c.take_header.new.input c.take_header.new.header came c.in-Some.request asks stays c.take_request_data.new.input c.array_size-size.result c.in_err-take_request_data.field-0.0 c.take_request_data.new.buffer c.in_err-take_request_data.ensures)

pub returns-in_err-put_reply-clause-means : goal.returns-in_err-put_reply-clause-means
returns-in_err-put_reply-clause-means g c =
    let view =
    device_view (rack_view g.R.Rack) (λ b. (goal.Watcher-dyn g (b.vtable, b.value)).hears b.value) in
    let streams = views g.S.Source g.K.Sink in
    let early : c.loop-header.place.taken < SESSION_LIMIT = c.is_too_late.ensures.early (search rules) in
    let came = header_came streams.source REQUEST_LENGTH c.take_header.new.header c.in_ok-take_header.field-0 c.loop-header.input c.take_header.new.input
    (search rules) c.in_ok-take_header.ensures in
    let asks : read_request c.take_header.new.header ≡ Some c.in-Some.request = sym c.read.ensures ∙ c.in-Some.is in
    let stays : is_disconnect c.in-Some.request.command ≡ false = search rules in
    let fits : REPLY_LENGTH ≤ length c.loop-header.buffer = omega (arith, c.loop-header.auto.buffer, c.requires.room) in
    did_fail view streams _ _ _ _ c.take_request_data.new.input c.put_reply.new.output (devices c.respond-reply.new.rack (Opened c.respond-reply.new.array) c.respond-reply.new.watchers.items) c.from_residual-in_err-put_reply.result c.in_err-put_reply.field-0.0 c.from_residual-in_err-put_reply.ensures.1
    (no_reply c.loop-header.invariant early c.take_header.new.input c.take_header.new.header came c.in-Some.request asks stays c.take_request_data.new.input c.array_size-size.result c.array_size-size.ensures c.take_request_data.new.buffer c.in_ok-take_request_data.ensures
    (devices c.respond-reply.new.rack (Opened c.respond-reply.new.array) c.respond-reply.new.watchers.items) c.respond-reply.result c.respond-reply.new.buffer
    (λ bytes kept. c.respond-reply.ensures.comes bytes (kept_after REPLY_LENGTH c.loop-header.buffer c.take_request_data.new.buffer fits _ c.in-Some.request bytes kept))
    c.put_reply.new.output _
    (reply_after REPLY_LENGTH c.loop-header.buffer c.take_request_data.new.buffer fits c.respond-reply.new.buffer c.respond-reply.result c.in-Some.request)
    (status_of_nbd c.in_err-put_reply.field-0.0) c.in_err-put_reply.ensures)

pub loop-header-preserved : goal.loop-header-preserved
loop-header-preserved g c =
    let streams = views g.S.Source g.K.Sink in
    let early : c.loop-header.place.taken < SESSION_LIMIT = c.is_too_late.ensures.early (search rules) in
    let came = header_came streams.source REQUEST_LENGTH c.take_header.new.header c.in_ok-take_header.field-0 c.loop-header.input c.take_header.new.input
    (search rules) c.in_ok-take_header.ensures in
    let asks : read_request c.take_header.new.header ≡ Some c.in-Some.request = sym c.read.ensures ∙ c.in-Some.is in
    let stays : is_disconnect c.in-Some.request.command ≡ false = search rules in
    let fits : REPLY_LENGTH ≤ length c.loop-header.buffer = omega (arith, c.loop-header.auto.buffer, c.requires.room) in
    one_answered c.loop-header.invariant early c.take_header.new.input c.take_header.new.header came c.in-Some.request asks stays c.take_request_data.new.input c.array_size-size.result c.array_size-size.ensures c.take_request_data.new.buffer c.in_ok-take_request_data.ensures
    (devices c.respond-reply.new.rack (Opened c.respond-reply.new.array) c.respond-reply.new.watchers.items) c.respond-reply.result c.respond-reply.new.buffer
    (λ bytes kept. c.respond-reply.ensures.comes bytes (kept_after REPLY_LENGTH c.loop-header.buffer c.take_request_data.new.buffer fits _ c.in-Some.request bytes kept))
    c.put_reply.new.output _
    (reply_after REPLY_LENGTH c.loop-header.buffer c.take_request_data.new.buffer fits c.respond-reply.new.buffer c.respond-reply.result c.in-Some.request)
    c.in_ok-put_reply.ensures
    c.behind-place.result c.respond-reply.new.rack c.respond-reply.new.array c.respond-reply.new.watchers.items refl c.behind-place.ensures.number
    (omega (arith, c.behind-place.ensures.taken, c.from.ensures, c.data_length.ensures)) c.behind-place.ensures.is c.respond-reply.ensures.geometry
    c.respond-reply.ensures.stay

pub returns-clause-means : goal.returns-clause-means
returns-clause-means g c =
    ends_late c.loop-header.invariant (c.is_too_late.ensures.late (search rules)) c.take_end.new.input (status_of c.take_end.result) c.take_end.ensures
