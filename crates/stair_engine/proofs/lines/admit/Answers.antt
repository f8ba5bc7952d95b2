-- A device that is admitted.
use Rattle.std.proofs.Common.{rules}
use Rattle.stair_array.specs.Faults.{replace_refusal}
use Rattle.stair_array.specs.Promise.{Opened}
use Rattle.stair_command.specs.Devices.{device_view, devices}
use Rattle.stair_command.specs.Rack.{rack_view}
use Rattle.stair_engine.proofs.LineStepLaws.{was_admitted, wasnt_admitted}
use Rattle.stair_engine.proofs.lines.admit.Goals as goal

pub returns-in-Err-clause-refused : goal.returns-in-Err-clause-refused
returns-in-Err-clause-refused g c rest =
    let view = device_view (rack_view g.R.Rack) (λ b. (goal.Watcher-dyn g (b.vtable, b.value)).hears b.value) in
    let of = c.args.array.now.member.array.geometry in
    let first = devices c.args.rack.now (Opened c.args.array.now) c.args.watchers.now.items in
    let next = devices c.replace.new.rack (Opened c.replace.new.self) c.replace.new.watchers.items in
    wasnt_admitted view of first next rest c.args.slot _ (replace_refusal c.in-Err.fault) _ (search rules) (search rules) (search rules) c.in-Err.ensures.taken

pub returns-clause-done : goal.returns-clause-done
returns-clause-done g c rest =
    let view = device_view (rack_view g.R.Rack) (λ b. (goal.Watcher-dyn g (b.vtable, b.value)).hears b.value) in
    let of = c.args.array.now.member.array.geometry in
    let first = devices c.args.rack.now (Opened c.args.array.now) c.args.watchers.now.items in
    let next = devices c.replace.new.rack (Opened c.replace.new.self) c.replace.new.watchers.items in
    was_admitted view of first next rest c.args.slot _ (search rules) (search rules) c.in_default.ensures.taken
