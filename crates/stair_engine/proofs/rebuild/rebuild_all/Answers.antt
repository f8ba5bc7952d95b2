-- One step after the other.
use Rattle.std.proofs.Common.{arith, rules}
use Rattle.stair_array.specs.Promise.{Opened}
use Rattle.stair_command.specs.Devices.{device_view, devices}
use Rattle.stair_command.specs.Rack.{rack_view}
use Rattle.stair_engine.proofs.RebuildLaws.{all_rebuilt, few_left, one_rebuilt, rebuild_refused}
use Rattle.stair_engine.proofs.rebuild.rebuild_all.Goals as goal

pub returns-in-Err-clause-refused : goal.returns-in-Err-clause-refused
returns-in-Err-clause-refused g c =
    let view = device_view (rack_view g.R.Rack) (λ b. (goal.Watcher-dyn g (b.vtable, b.value)).hears b.value) in
    let of = c.args.array.now.member.array.geometry in
    let first = devices c.args.rack.now (Opened c.args.array.now) c.args.watchers.now.items in
    rebuild_refused view of c.loop-came.steps first c.loop-came.rack c.rebuild_step.new.rack c.args.array.now c.loop-came.array c.rebuild_step.new.self
    c.loop-came.watchers.items c.rebuild_step.new.watchers.items c.loop-came.invariant c.in-Err.fault _ (search rules) c.in-Err.ensures.taken

pub returns-in-Nothing-clause-done : goal.returns-in-Nothing-clause-done
returns-in-Nothing-clause-done g c =
    let view = device_view (rack_view g.R.Rack) (λ b. (goal.Watcher-dyn g (b.vtable, b.value)).hears b.value) in
    let of = c.args.array.now.member.array.geometry in
    let first = devices c.args.rack.now (Opened c.args.array.now) c.args.watchers.now.items in
    all_rebuilt view of c.loop-came.steps first c.loop-came.rack c.rebuild_step.new.rack c.args.array.now c.loop-came.array c.rebuild_step.new.self
    c.loop-came.watchers.items c.rebuild_step.new.watchers.items c.loop-came.invariant
    (rw c.in-Nothing.is at c.in-Ok.ensures.taken)

pub overflow_add-steps : goal.overflow_add-steps
overflow_add-steps g c =
    let few = few_left c.args.array.now (rw c.geometry.ensures at c.n-slots.ensures.limits) in
    let sooner = c.in-Ok.ensures.sooner c.in_default.not-Nothing in
    omega (arith, c.loop-came.invariant.few, few, sooner)

pub loop-came-preserved : goal.loop-came-preserved
loop-came-preserved g c =
    let view = device_view (rack_view g.R.Rack) (λ b. (goal.Watcher-dyn g (b.vtable, b.value)).hears b.value) in
    let of = c.args.array.now.member.array.geometry in
    let first = devices c.args.rack.now (Opened c.args.array.now) c.args.watchers.now.items in
    one_rebuilt view of c.loop-came.steps first c.loop-came.rack c.rebuild_step.new.rack c.args.array.now c.loop-came.array c.rebuild_step.new.self
    c.loop-came.watchers.items c.rebuild_step.new.watchers.items c.loop-came.invariant c.in-Ok.came c.in_default.not-Nothing c.in-Ok.ensures.stay
    (c.in-Ok.ensures.sooner c.in_default.not-Nothing) c.in-Ok.ensures.taken
