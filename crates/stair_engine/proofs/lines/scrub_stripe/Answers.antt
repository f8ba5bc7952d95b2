-- A stripe that is scrubbed, and its reply.
use Rattle.std.proofs.Common.{rules}
use Rattle.stair_array.specs.Faults.{refusal_for}
use Rattle.stair_array.specs.Promise.{Opened}
use Rattle.stair_command.specs.Devices.{device_view, devices}
use Rattle.stair_command.specs.Rack.{rack_view}
use Rattle.stair_engine.proofs.LineStepLaws.{not_scrubbed, was_scrubbed}
use Rattle.stair_engine.proofs.lines.scrub_stripe.Goals as goal

pub returns-in-Err-clause-refused : goal.returns-in-Err-clause-refused
returns-in-Err-clause-refused g c rest =
    let view = device_view (rack_view g.R.Rack) (λ b. (goal.Watcher-dyn g (b.vtable, b.value)).hears b.value) in
    let of = c.args.array.now.member.array.geometry in
    let first = devices c.args.rack.now (Opened c.args.array.now) c.args.watchers.now.items in
    let next = devices c.scrub.new.rack (Opened c.scrub.new.self) c.scrub.new.watchers.items in
    not_scrubbed view of first next rest c.args.stripe _ (refusal_for c.in-Err.fault) _ (search rules) (search rules) (search rules) c.in-Err.ensures.taken

pub returns-clause-done : goal.returns-clause-done
returns-clause-done g c rest =
    let view = device_view (rack_view g.R.Rack) (λ b. (goal.Watcher-dyn g (b.vtable, b.value)).hears b.value) in
    let of = c.args.array.now.member.array.geometry in
    let first = devices c.args.rack.now (Opened c.args.array.now) c.args.watchers.now.items in
    let next = devices c.scrub.new.rack (Opened c.scrub.new.self) c.scrub.new.watchers.items in
    was_scrubbed view of first next rest c.args.stripe _ c.in-Ok.cells _ (search rules) (search rules) c.scrubbed_reply.ensures c.in-Ok.ensures.taken
