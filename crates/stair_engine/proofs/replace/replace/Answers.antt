-- A session in which a slot is replaced.
use Rattle.std.proofs.Common.{◌∙◌, nat_lt, rules}
use Rattle.stair_array.specs.Promise.{Opened}
use Rattle.stair_command.specs.Devices.{device_view, devices}
use Rattle.stair_command.specs.Outside.{outside, sink_alone}
use Rattle.stair_command.specs.Rack.{rack_view}
use Rattle.stair_command.specs.Fault.{status_of_fault}
use Rattle.stair_command.specs.Program.{Over}
use Rattle.stair_command.proofs.DeviceLaws.{whole_hands_on}
use Rattle.stair_engine.specs.Mending.{if_slot, replaced_line, replaces}
use Rattle.stair_engine.proofs.ReplaceLaws.{has_slot, past_slot, was_replaced}
use Rattle.stair_engine.proofs.SessionLaws.{ended, ends_with, ends_with_line}
use Rattle.stair_engine.proofs.replace.replace.Goals as goal

pub returns-in_err-array-clause-means : goal.returns-in_err-array-clause-means
returns-in_err-array-clause-means g c counter =
    let view = device_view (rack_view g.R.Rack) (λ b. (goal.Watcher-dyn g (b.vtable, b.value)).hears b.value) in
    let streams = sink_alone g.K.Sink in
    whole_hands_on view streams _ _ _ _ _ _ _ c.from_residual.result c.in_err-array.field-0.0 c.from_residual.ensures.1
    (ended view streams (λ of. if_slot of c.args.slot (nat_lt c.args.slot of.n) (replaces of c.args.slot)) (outside tt c.args.output.now counter) c.args.rack.now c.session.new.rack
    c.args.watchers.now.items c.session.new.watchers.items c.in_err-array.field-0.0 c.in_err-array.ensures.refused)

pub returns-then-slot-from-clause-means : goal.returns-then-slot-from-clause-means
returns-then-slot-from-clause-means g c counter =
    let view = device_view (rack_view g.R.Rack) (λ b. (goal.Watcher-dyn g (b.vtable, b.value)).hears b.value) in
    let streams = sink_alone g.K.Sink in
    ends_with view streams (λ of. if_slot of c.args.slot (nat_lt c.args.slot of.n) (replaces of c.args.slot)) c.args.rack.now c.session.new.rack
    c.session.new.rack c.args.watchers.now.items c.session.new.watchers.items c.session.new.watchers.items c.in_ok-array.array c.in_ok-array.array
    c.in_ok-array.ensures.begins _ c.args.output.now counter
    (past_slot view c.in_ok-array.array.member.array.geometry c.args.slot (devices c.session.new.rack (Opened c.in_ok-array.array) c.session.new.watchers.items) c.from-then-slot-from.result
    (search rules) (search rules))

pub returns-in_err-replace_slot-clause-means : goal.returns-in_err-replace_slot-clause-means
returns-in_err-replace_slot-clause-means g c counter =
    let view = device_view (rack_view g.R.Rack) (λ b. (goal.Watcher-dyn g (b.vtable, b.value)).hears b.value) in
    let streams = sink_alone g.K.Sink in
    whole_hands_on view streams _ _ _ _ _ _ _ c.from_residual-in_err-replace_slot.result c.in_err-replace_slot.field-0.0
    c.from_residual-in_err-replace_slot.ensures.1
    (ends_with view streams (λ of. if_slot of c.args.slot (nat_lt c.args.slot of.n) (replaces of c.args.slot)) c.args.rack.now c.session.new.rack
    c.replace_slot.new.rack c.args.watchers.now.items c.session.new.watchers.items c.replace_slot.new.watchers.items c.in_ok-array.array c.replace_slot.new.array
    c.in_ok-array.ensures.begins _ c.args.output.now counter
    (has_slot view c.in_ok-array.array.member.array.geometry c.args.slot (devices c.session.new.rack (Opened c.in_ok-array.array) c.session.new.watchers.items) _ (search rules)
    (search rules) (Over (status_of_fault c.in_err-replace_slot.field-0.0)) (devices c.replace_slot.new.rack (Opened c.replace_slot.new.array) c.replace_slot.new.watchers.items)
    c.in_err-replace_slot.ensures.refused))

pub returns-clause-means : goal.returns-clause-means
returns-clause-means g c =
    let view = device_view (rack_view g.R.Rack) (λ b. (goal.Watcher-dyn g (b.vtable, b.value)).hears b.value) in
    let streams = sink_alone g.K.Sink in
    ends_with_line view streams (λ of. if_slot of c.args.slot (nat_lt c.args.slot of.n) (replaces of c.args.slot)) c.args.rack.now c.session.new.rack
    c.replace_slot.new.rack c.args.watchers.now.items c.session.new.watchers.items c.replace_slot.new.watchers.items c.in_ok-array.array c.replace_slot.new.array
    c.in_ok-array.ensures.begins (replaced_line c.args.slot) c.bytes.result.now (c.bytes.ensures ∙ c.replaced_line.ensures) c.put_line.result
    c.args.output.now c.put_line.new.output
    (was_replaced view c.in_ok-array.array.member.array.geometry c.args.slot (devices c.session.new.rack (Opened c.in_ok-array.array) c.session.new.watchers.items) _
    (search rules) (search rules) (devices c.replace_slot.new.rack (Opened c.replace_slot.new.array) c.replace_slot.new.watchers.items) c.in_ok-replace_slot.ensures.done)
    c.put_line.ensures.means
