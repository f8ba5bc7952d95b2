-- One step after the other.
use Rattle.std.proofs.Common.{refl, rules}
use Rattle.stair_array.specs.Promise.{Opened}
use Rattle.stair_command.specs.Devices.{device_view, devices}
use Rattle.stair_command.specs.Rack.{rack_view}
use Rattle.stair_engine.proofs.LineStepLaws.{all_made, none_made, none_more, nothing_made, one_made, same_geometry}
use Rattle.stair_engine.proofs.lines.rebuild_some.Goals as goal

pub loop-done-init : goal.loop-done-init
loop-done-init g c =
    let view = device_view (rack_view g.R.Rack) (λ b. (goal.Watcher-dyn g (b.vtable, b.value)).hears b.value) in
    let of = c.args.array.now.member.array.geometry in
    let first = devices c.args.rack.now (Opened c.args.array.now) c.args.watchers.now.items in
    none_made view of c.args.steps first c.args.rack.now c.args.array.now c.args.watchers.now.items refl refl c.requires.stay

pub returns-in-Err-clause-refused : goal.returns-in-Err-clause-refused
returns-in-Err-clause-refused g c =
    let view = device_view (rack_view g.R.Rack) (λ b. (goal.Watcher-dyn g (b.vtable, b.value)).hears b.value) in
    let of = c.args.array.now.member.array.geometry in
    let first = devices c.args.rack.now (Opened c.args.array.now) c.args.watchers.now.items in
    none_more view of c.args.steps first c.loop-done.done c.loop-done.rack c.rebuild_step.new.rack c.loop-done.array c.rebuild_step.new.self
    c.loop-done.watchers.items c.rebuild_step.new.watchers.items c.loop-done.invariant c.loop-done-test.true c.in-Err.fault _ (search rules) c.in-Err.ensures.taken

pub returns-in-Err-clause-geometry : goal.returns-in-Err-clause-geometry
returns-in-Err-clause-geometry g c =
    let view = device_view (rack_view g.R.Rack) (λ b. (goal.Watcher-dyn g (b.vtable, b.value)).hears b.value) in
    let of = c.args.array.now.member.array.geometry in
    let first = devices c.args.rack.now (Opened c.args.array.now) c.args.watchers.now.items in
    same_geometry view of c.args.steps first c.loop-done.done c.loop-done.rack c.rebuild_step.new.rack c.loop-done.array c.rebuild_step.new.self
    c.loop-done.watchers.items c.rebuild_step.new.watchers.items c.loop-done.invariant c.loop-done-test.true c.rebuild_step.result c.rebuild_step.ensures.taken

pub returns-in-Nothing-clause-done : goal.returns-in-Nothing-clause-done
returns-in-Nothing-clause-done g c =
    let view = device_view (rack_view g.R.Rack) (λ b. (goal.Watcher-dyn g (b.vtable, b.value)).hears b.value) in
    let of = c.args.array.now.member.array.geometry in
    let first = devices c.args.rack.now (Opened c.args.array.now) c.args.watchers.now.items in
    nothing_made view of c.args.steps first c.loop-done.done c.loop-done.rack c.rebuild_step.new.rack c.loop-done.array c.rebuild_step.new.self
    c.loop-done.watchers.items c.rebuild_step.new.watchers.items c.loop-done.invariant c.loop-done-test.true (rw c.in-Nothing.is at c.in-Ok.ensures.taken)

pub returns-in-Nothing-clause-geometry : goal.returns-in-Nothing-clause-geometry
returns-in-Nothing-clause-geometry g c =
    let view = device_view (rack_view g.R.Rack) (λ b. (goal.Watcher-dyn g (b.vtable, b.value)).hears b.value) in
    let of = c.args.array.now.member.array.geometry in
    let first = devices c.args.rack.now (Opened c.args.array.now) c.args.watchers.now.items in
    same_geometry view of c.args.steps first c.loop-done.done c.loop-done.rack c.rebuild_step.new.rack c.loop-done.array c.rebuild_step.new.self
    c.loop-done.watchers.items c.rebuild_step.new.watchers.items c.loop-done.invariant c.loop-done-test.true c.rebuild_step.result c.rebuild_step.ensures.taken

pub loop-done-preserved : goal.loop-done-preserved
loop-done-preserved g c =
    let view = device_view (rack_view g.R.Rack) (λ b. (goal.Watcher-dyn g (b.vtable, b.value)).hears b.value) in
    let of = c.args.array.now.member.array.geometry in
    let first = devices c.args.rack.now (Opened c.args.array.now) c.args.watchers.now.items in
    one_made view of c.args.steps first c.loop-done.done c.loop-done.rack c.rebuild_step.new.rack c.loop-done.array c.rebuild_step.new.self
    c.loop-done.watchers.items c.rebuild_step.new.watchers.items c.loop-done.invariant c.loop-done-test.true c.in-Ok.came c.in_default.not-Nothing c.in-Ok.ensures.stay c.in-Ok.ensures.taken

pub returns-clause-done : goal.returns-clause-done
returns-clause-done g c =
    let view = device_view (rack_view g.R.Rack) (λ b. (goal.Watcher-dyn g (b.vtable, b.value)).hears b.value) in
    let of = c.args.array.now.member.array.geometry in
    let first = devices c.args.rack.now (Opened c.args.array.now) c.args.watchers.now.items in
    all_made view of c.args.steps first c.loop-done.done c.loop-done.rack c.loop-done.array c.loop-done.watchers.items c.loop-done.invariant
    (search rules) (search rules)
