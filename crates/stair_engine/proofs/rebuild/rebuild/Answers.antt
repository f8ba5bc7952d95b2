-- A session in which all that is rebuilt is rebuilt to its end.
use Rattle.std.proofs.Common.{◌∙◌, ℕ}
use Rattle.stair_command.specs.Devices.{device_view}
use Rattle.stair_command.specs.Outside.{outside, sink_alone}
use Rattle.stair_command.specs.Rack.{rack_view}
use Rattle.stair_command.specs.Program.{Program, Over, Put, RebuildAll}
use Rattle.stair_status.specs.declared.status.Status.TheVariants.{Done}
use Rattle.stair_command.proofs.DeviceLaws.{whole_hands_on}
use Rattle.stair_engine.specs.Mending.{rebuilt_line}
use Rattle.stair_engine.proofs.SessionLaws.{ended, ends_with, ends_with_line}
use Rattle.stair_engine.proofs.rebuild.rebuild.Goals as goal

abbrev answered : ℕ → Program
answered steps = Put (rebuilt_line steps) (Over Done)

pub returns-in_err-array-clause-means : goal.returns-in_err-array-clause-means
returns-in_err-array-clause-means g c counter =
    let view = device_view (rack_view g.R.Rack) (λ b. (goal.Watcher-dyn g (b.vtable, b.value)).hears b.value) in
    let streams = sink_alone g.K.Sink in
    whole_hands_on view streams _ _ _ _ _ _ _ c.from_residual.result c.in_err-array.field-0.0 c.from_residual.ensures.1
    (ended view streams (λ of. RebuildAll of.n 0 answered) (outside tt c.args.output.now counter) c.args.rack.now c.session.new.rack c.args.watchers.now.items c.session.new.watchers.items
    c.in_err-array.field-0.0 c.in_err-array.ensures.refused)

pub returns-in_err-steps-clause-means : goal.returns-in_err-steps-clause-means
returns-in_err-steps-clause-means g c counter =
    let view = device_view (rack_view g.R.Rack) (λ b. (goal.Watcher-dyn g (b.vtable, b.value)).hears b.value) in
    let streams = sink_alone g.K.Sink in
    whole_hands_on view streams _ _ _ _ _ _ _ c.from_residual-in_err-steps.result c.in_err-steps.field-0.0 c.from_residual-in_err-steps.ensures.1
    (ends_with view streams (λ of. RebuildAll of.n 0 answered) c.args.rack.now c.session.new.rack c.rebuild_all.new.rack c.args.watchers.now.items
    c.session.new.watchers.items c.rebuild_all.new.watchers.items c.in_ok-array.array c.rebuild_all.new.array c.in_ok-array.ensures.begins _ c.args.output.now
    counter (c.in_err-steps.ensures.refused answered))

pub returns-clause-means : goal.returns-clause-means
returns-clause-means g c =
    let view = device_view (rack_view g.R.Rack) (λ b. (goal.Watcher-dyn g (b.vtable, b.value)).hears b.value) in
    let streams = sink_alone g.K.Sink in
    ends_with_line view streams (λ of. RebuildAll of.n 0 answered) c.args.rack.now c.session.new.rack c.rebuild_all.new.rack c.args.watchers.now.items
    c.session.new.watchers.items c.rebuild_all.new.watchers.items c.in_ok-array.array c.rebuild_all.new.array c.in_ok-array.ensures.begins
    (rebuilt_line c.in_ok-steps.steps) c.bytes.result.now
    (c.bytes.ensures ∙ c.rebuilt_line.ensures) c.put_line.result c.args.output.now c.put_line.new.output (c.in_ok-steps.ensures.done answered) c.put_line.ensures.means
