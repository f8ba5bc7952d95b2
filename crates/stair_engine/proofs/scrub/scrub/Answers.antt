-- A session in which all stripes are scrubbed.
use Rattle.std.proofs.Common.{◌∙◌, ℕ, ap}
use Rattle.stair_model.specs.Geometry.{Geometry}
use Rattle.stair_command.specs.Devices.{device_view}
use Rattle.stair_command.specs.Outside.{outside, sink_alone}
use Rattle.stair_command.specs.Rack.{rack_view}
use Rattle.stair_command.proofs.DeviceLaws.{whole_hands_on}
use Rattle.stair_engine.specs.Mending.{scrubbed_line, scrubs}
use Rattle.stair_engine.proofs.SessionLaws.{ended, ends_with, ends_with_line}
use Rattle.stair_engine.proofs.scrub.scrub.Goals as goal

pub returns-in_err-array-clause-means : goal.returns-in_err-array-clause-means
returns-in_err-array-clause-means g c counter =
    let view = device_view (rack_view g.R.Rack) (λ b. (goal.Watcher-dyn g (b.vtable, b.value)).hears b.value) in
    let streams = sink_alone g.K.Sink in
    whole_hands_on view streams _ _ _ _ _ _ _ c.from_residual.result c.in_err-array.field-0.0 c.from_residual.ensures.1
    (ended view streams (λ of. scrubs of 0 of.stripes 0) (outside tt c.args.output.now counter) c.args.rack.now c.session.new.rack c.args.watchers.now.items c.session.new.watchers.items
    c.in_err-array.field-0.0 c.in_err-array.ensures.refused)

pub returns-in_err-cells-clause-means : goal.returns-in_err-cells-clause-means
returns-in_err-cells-clause-means g c counter =
    let view = device_view (rack_view g.R.Rack) (λ b. (goal.Watcher-dyn g (b.vtable, b.value)).hears b.value) in
    let streams = sink_alone g.K.Sink in
    whole_hands_on view streams _ _ _ _ _ _ _ c.from_residual-in_err-cells.result c.in_err-cells.field-0.0 c.from_residual-in_err-cells.ensures.1
    (ends_with view streams (λ of. scrubs of 0 of.stripes 0) c.args.rack.now c.session.new.rack c.scrub_all.new.rack c.args.watchers.now.items c.session.new.watchers.items
    c.scrub_all.new.watchers.items c.in_ok-array.array c.scrub_all.new.array c.in_ok-array.ensures.begins _ c.args.output.now counter c.in_err-cells.ensures.refused)

pub returns-clause-means : goal.returns-clause-means
returns-clause-means g c =
    let view = device_view (rack_view g.R.Rack) (λ b. (goal.Watcher-dyn g (b.vtable, b.value)).hears b.value) in
    let streams = sink_alone g.K.Sink in
    ends_with_line view streams (λ of. scrubs of 0 of.stripes 0) c.args.rack.now c.session.new.rack c.scrub_all.new.rack c.args.watchers.now.items c.session.new.watchers.items
    c.scrub_all.new.watchers.items c.in_ok-array.array c.scrub_all.new.array c.in_ok-array.ensures.begins
    (scrubbed_line c.in_ok-array.array.member.array.geometry.stripes c.in_ok-cells.cells) c.bytes.result.now
    (c.bytes.ensures ∙ c.scrubbed_line.ensures ∙ ap (λ (n : ℕ). scrubbed_line n c.in_ok-cells.cells) (c.stripes-stripes.ensures.value ∙ ap (λ (of : Geometry). of.stripes) c.geometry.ensures))
    c.put_line.result c.args.output.now c.put_line.new.output
    c.in_ok-cells.ensures.done c.put_line.ensures.means
