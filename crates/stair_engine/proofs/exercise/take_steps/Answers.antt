-- One step after the other.
use Rattle.stair_array.specs.Promise.{Opened}
use Rattle.stair_command.specs.Comes.{ExecutesOnDevices}
use Rattle.stair_command.specs.Devices.{device_view, devices}
use Rattle.stair_command.specs.Fault.{status_of_fault}
use Rattle.stair_command.specs.Program.{Program, Over}
use Rattle.stair_command.specs.Rack.{rack_view}
use Rattle.stair_command.proofs.IntakeLaws.{if_err_of}
use Rattle.stair_engine.specs.declared.exercise.Exercised.{Exercised}
use Rattle.stair_engine.specs.Exercise.{exercises, none_exercised}
use Rattle.stair_engine.proofs.ExercisedLaws.{not_taken, one_taken}
use Rattle.stair_engine.proofs.exercise.take_steps.Goals as goal

pub returns-in_err-came-clause-refused : goal.returns-in_err-came-clause-refused
returns-in_err-came-clause-refused g c =
    let view = device_view (rack_view g.R.Rack) (λ b. (goal.Watcher-dyn g (b.vtable, b.value)).hears b.value) in
    let of = c.args.array.now.member.array.geometry in
    let first = devices c.args.rack.now (Opened c.args.array.now) c.args.watchers.now.items in
    let last = devices c.take_step-taken.new.rack (Opened c.take_step-taken.new.array) c.take_step-taken.new.watchers.items in
    if_err_of c.from_residual.result c.in_err-came.field-0.0
    (λ fault. (k : Exercised → Program)
    → ExecutesOnDevices view (exercises of c.args.steps c.args.first none_exercised k) (Over (status_of_fault fault)) first last)
    c.from_residual.ensures.1
    (not_taken view of c.args.first c.args.steps c.loop.counter c.loop.number c.next_number-number.result c.loop.came first c.loop.rack
    c.take_step-taken.new.rack c.loop.array c.take_step-taken.new.array c.loop.watchers.items c.take_step-taken.new.watchers.items c.loop.invariant
    c.loop-test.true c.next_number-number.ensures (status_of_fault c.in_err-came.field-0.0) c.in_err-came.ensures.refused)

pub loop-preserved : goal.loop-preserved
loop-preserved g c =
    let view = device_view (rack_view g.R.Rack) (λ b. (goal.Watcher-dyn g (b.vtable, b.value)).hears b.value) in
    let of = c.args.array.now.member.array.geometry in
    let first = devices c.args.rack.now (Opened c.args.array.now) c.args.watchers.now.items in
    one_taken view of c.args.first c.args.steps c.loop.counter c.loop.number c.next_number-number.result c.loop.came first c.loop.rack
    c.take_step-taken.new.rack c.loop.array c.take_step-taken.new.array c.loop.watchers.items c.take_step-taken.new.watchers.items c.loop.invariant
    c.loop-test.true c.next_number-number.ensures c.in_ok-came.came c.in_ok-came.ensures.one c.in_ok-came.ensures.geometry c.in_ok-came.ensures.stay
    c.in_ok-came.ensures.done
