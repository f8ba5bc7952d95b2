-- A session in which so many steps are taken.
use Rattle.std.proofs.Common.{◌∙◌, arith}
use Rattle.stair_array.specs.Promise.{Opened}
use Rattle.stair_command.specs.Devices.{device_view, devices}
use Rattle.stair_command.specs.Fault.{status_of_fault}
use Rattle.stair_command.specs.Outside.{outside, sink_alone}
use Rattle.stair_command.specs.Program.{Over, Put}
use Rattle.stair_command.specs.Rack.{rack_view}
use Rattle.stair_status.specs.declared.status.Status.TheVariants.{Done}
use Rattle.stair_command.proofs.DeviceLaws.{whole_hands_on}
use Rattle.stair_engine.specs.Exercise.{exercise_steps, exercised_line}
use Rattle.stair_engine.proofs.ExercisedLaws.{few_asked, many_asked, tells_steps}
use Rattle.stair_engine.proofs.SessionLaws.{ended, ends_with, ends_with_line}
use Rattle.stair_engine.proofs.exercise.exercise.Goals as goal

pub returns-in_err-array-clause-means : goal.returns-in_err-array-clause-means
returns-in_err-array-clause-means g c counter =
    let view = device_view (rack_view g.R.Rack) (λ b. (goal.Watcher-dyn g (b.vtable, b.value)).hears b.value) in
    let streams = sink_alone g.K.Sink in
    whole_hands_on view streams _ _ _ _ _ _ _ c.from_residual.result c.in_err-array.field-0.0 c.from_residual.ensures.1
    (ended view streams (exercise_steps c.args.number c.args.steps) (outside tt c.args.output.now counter) c.args.rack.now c.session.new.rack
    c.args.watchers.now.items c.session.new.watchers.items c.in_err-array.field-0.0 c.in_err-array.ensures.refused)

pub returns-then-steps-gt-MOST_STEPS-clause-means : goal.returns-then-steps-gt-MOST_STEPS-clause-means
returns-then-steps-gt-MOST_STEPS-clause-means g c counter =
    let view = device_view (rack_view g.R.Rack) (λ b. (goal.Watcher-dyn g (b.vtable, b.value)).hears b.value) in
    let streams = sink_alone g.K.Sink in
    ends_with view streams (exercise_steps c.args.number c.args.steps) c.args.rack.now c.session.new.rack c.session.new.rack c.args.watchers.now.items
    c.session.new.watchers.items c.session.new.watchers.items c.in_ok-array.array c.in_ok-array.array c.in_ok-array.ensures.begins _ c.args.output.now
    counter
    (many_asked view c.in_ok-array.array.member.array.geometry c.args.number c.args.steps
    (devices c.session.new.rack (Opened c.in_ok-array.array) c.session.new.watchers.items) (omega arith))

pub returns-in_err-came-clause-means : goal.returns-in_err-came-clause-means
returns-in_err-came-clause-means g c counter =
    let view = device_view (rack_view g.R.Rack) (λ b. (goal.Watcher-dyn g (b.vtable, b.value)).hears b.value) in
    let streams = sink_alone g.K.Sink in
    let of = c.in_ok-array.array.member.array.geometry in
    let first = devices c.session.new.rack (Opened c.in_ok-array.array) c.session.new.watchers.items in
    let last = devices c.take_steps.new.rack (Opened c.take_steps.new.array) c.take_steps.new.watchers.items in
    whole_hands_on view streams _ _ _ _ _ _ _ c.from_residual-in_err-came.result c.in_err-came.field-0.0 c.from_residual-in_err-came.ensures.1
    (ends_with view streams (exercise_steps c.args.number c.args.steps) c.args.rack.now c.session.new.rack c.take_steps.new.rack
    c.args.watchers.now.items c.session.new.watchers.items c.take_steps.new.watchers.items c.in_ok-array.array c.take_steps.new.array
    c.in_ok-array.ensures.begins _ c.args.output.now counter
    (few_asked view of c.args.number c.args.steps first (omega arith) (Over (status_of_fault c.in_err-came.field-0.0)) last
    (c.in_err-came.ensures.refused (tells_steps c.args.number c.args.steps))))

pub returns-clause-means : goal.returns-clause-means
returns-clause-means g c =
    let view = device_view (rack_view g.R.Rack) (λ b. (goal.Watcher-dyn g (b.vtable, b.value)).hears b.value) in
    let streams = sink_alone g.K.Sink in
    let of = c.in_ok-array.array.member.array.geometry in
    let first = devices c.session.new.rack (Opened c.in_ok-array.array) c.session.new.watchers.items in
    let last = devices c.take_steps.new.rack (Opened c.take_steps.new.array) c.take_steps.new.watchers.items in
    let line = exercised_line c.args.number c.args.steps c.in_ok-came.came in
    ends_with_line view streams (exercise_steps c.args.number c.args.steps) c.args.rack.now c.session.new.rack c.take_steps.new.rack
    c.args.watchers.now.items c.session.new.watchers.items c.take_steps.new.watchers.items c.in_ok-array.array c.take_steps.new.array
    c.in_ok-array.ensures.begins line c.bytes.result.now (c.bytes.ensures ∙ c.exercised_line.ensures) c.put_line.result c.args.output.now
    c.put_line.new.output
    (few_asked view of c.args.number c.args.steps first (omega arith) (Put line (Over Done)) last
    (c.in_ok-came.ensures.done (tells_steps c.args.number c.args.steps))) c.put_line.ensures.means
