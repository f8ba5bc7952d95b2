-- One block after the other.
use Rattle.std.proofs.Common.{arith, refl, rules}
use Rattle.stair_command.specs.Devices.{device_view}
use Rattle.stair_command.specs.Outside.{sink_alone}
use Rattle.stair_command.specs.Rack.{rack_view}
use Rattle.stair_command.specs.declared.fault.Fault.TheVariants.{Output}
use Rattle.stair_command.proofs.DeviceLaws.{not_refused, with_hands_on}
use Rattle.stair_engine.proofs.ReadLaws.{all_read, none_read, one_read, read_cut, read_refused}
use Rattle.stair_engine.proofs.read.put_blocks.Goals as goal

pub loop-done-init : goal.loop-done-init
loop-done-init g c =
    let view = device_view (rack_view g.R.Rack) (λ b. (goal.Watcher-dyn g (b.vtable, b.value)).hears b.value) in
    let streams = sink_alone g.K.Sink in
    let of = c.args.array.now.member.array.geometry in
    none_read view streams of c.args.first c.args.blocks c.args.rack.now c.args.array.now c.args.watchers.now.items c.args.output.now refl c.requires.stay

pub returns-in-Err-clause-means : goal.returns-in-Err-clause-means
returns-in-Err-clause-means g c =
    let view = device_view (rack_view g.R.Rack) (λ b. (goal.Watcher-dyn g (b.vtable, b.value)).hears b.value) in
    let streams = sink_alone g.K.Sink in
    let of = c.args.array.now.member.array.geometry in
    read_refused view streams of c.args.first c.args.blocks c.loop-done.done c.args.rack.now c.loop-done.rack c.read.new.rack c.args.array.now c.loop-done.array c.read.new.self
    c.args.watchers.now.items c.loop-done.watchers.items c.read.new.watchers.items c.args.output.now c.loop-done.output c.loop-done.output
    c.loop-done.invariant c.loop-done-test.true c.read.new.into c.read.result c.in-Err.fault _ c.in-Err.is (search rules) c.read.ensures.taken

pub returns-in_err-put_all-clause-means : goal.returns-in_err-put_all-clause-means
returns-in_err-put_all-clause-means g c counter =
    let view = device_view (rack_view g.R.Rack) (λ b. (goal.Watcher-dyn g (b.vtable, b.value)).hears b.value) in
    let streams = sink_alone g.K.Sink in
    let of = c.args.array.now.member.array.geometry in
    let failed = c.in_err-put_all.ensures.puts in
    with_hands_on view streams _ _ _ _ _ _ Output (rw c.in_err-put_all.ensures.failed at c.from_residual.ensures.1)
    (read_cut view streams of c.args.first c.args.blocks c.loop-done.done c.args.rack.now c.loop-done.rack c.read.new.rack c.args.array.now c.loop-done.array c.read.new.self
    c.args.watchers.now.items c.loop-done.watchers.items c.read.new.watchers.items c.args.output.now c.loop-done.output c.put_all.new.output
    c.loop-done.invariant c.loop-done-test.true c.read.new.into failed.0 c.read.result (not_refused c.read.result (λ fault is. c.in_default.not-Err fault is)) c.read.ensures.taken failed.1 failed.2 counter)

pub loop-done-preserved : goal.loop-done-preserved
loop-done-preserved g c =
    let view = device_view (rack_view g.R.Rack) (λ b. (goal.Watcher-dyn g (b.vtable, b.value)).hears b.value) in
    let streams = sink_alone g.K.Sink in
    let of = c.args.array.now.member.array.geometry in
    one_read view streams of c.args.first c.args.blocks c.loop-done.done c.args.rack.now c.loop-done.rack c.read.new.rack c.args.array.now c.loop-done.array c.read.new.self
    c.args.watchers.now.items c.loop-done.watchers.items c.read.new.watchers.items c.args.output.now c.loop-done.output c.put_all.new.output
    c.loop-done.invariant c.loop-done-test.true c.read.new.into c.read.result (not_refused c.read.result (λ fault is. c.in_default.not-Err fault is)) c.read.ensures.taken c.in_ok-put_all.ensures.puts
    c.read.ensures.stay

pub returns-clause-means : goal.returns-clause-means
returns-clause-means g c =
    let view = device_view (rack_view g.R.Rack) (λ b. (goal.Watcher-dyn g (b.vtable, b.value)).hears b.value) in
    let streams = sink_alone g.K.Sink in
    let of = c.args.array.now.member.array.geometry in
    all_read view streams of c.args.first c.args.blocks c.loop-done.done c.args.rack.now c.loop-done.rack c.args.array.now c.loop-done.array c.args.watchers.now.items c.loop-done.watchers.items
    c.args.output.now c.loop-done.output c.loop-done.invariant (omega (arith, c.loop-done-test.false))
