-- One piece after the other, and the end after them.
use Rattle.std.proofs.Common.{◌∙◌, ◌+◌, ◌-◌, ap, arith, refl, rules}
use Rattle.stair_model.specs.Geometry.{Geometry}
use Rattle.stair_command.specs.Devices.{device_view}
use Rattle.stair_command.specs.Outside.{views}
use Rattle.stair_command.specs.Rack.{rack_view}
use Rattle.stair_command.specs.declared.fault.Fault.TheVariants.{Output}
use Rattle.stair_command.specs.declared.intake.Intake.{Intake}
use Rattle.stair_command.proofs.DeviceLaws.{not_refused, with_passes_on}
use Rattle.stair_command.specs.Pieces.{piece_blocks}
use Rattle.stair_command.proofs.TurnLaws.{piece_left, piece_some}
use Rattle.stair_command.proofs.WriteLaws.{line_cut, line_put, no_end, none_written, one_written, piece_cut, write_refused}
use Rattle.stair_command.proofs.writing.write_input.Goals as goal

pub loop-done-init : goal.loop-done-init
loop-done-init g c =
    let view = device_view (rack_view g.R.Rack) (λ b. (goal.Watcher-dyn g (b.vtable, b.value)).hears b.value) in
    let streams = views g.S.Source g.K.Sink in
    let of = c.args.array.now.member.array.geometry in
    none_written view streams of c.args.first c.args.blocks c.args.rack.now c.args.array.now c.args.watchers.now.items c.args.input.now c.args.output.now c.args.piece.now c.new-intake.result refl c.requires.room c.requires.empty c.new-intake.ensures c.requires.stay

pub returns-in_err-take-clause-means : goal.returns-in_err-take-clause-means
returns-in_err-take-clause-means g c counter =
    let view = device_view (rack_view g.R.Rack) (λ b. (goal.Watcher-dyn g (b.vtable, b.value)).hears b.value) in
    let streams = views g.S.Source g.K.Sink in
    let of = c.args.array.now.member.array.geometry in
    with_passes_on view streams _ _ _ _ _ c.from_residual.result c.in_err-take.field-0.0 c.from_residual.ensures.1
    (piece_cut view streams of c.args.first c.args.blocks c.args.rack.now c.args.array.now c.args.watchers.now.items c.args.input.now c.args.output.now
    c.loop-done.done c.loop-done.rack c.loop-done.array c.loop-done.watchers.items c.loop-done.input c.loop-done.piece c.loop-done.intake c.loop-done.invariant c.loop-done-test.true c.in_err-take.field-0.0 c.take.new.input c.in_err-take.ensures.cut counter)

pub returns-in-Err-clause-means : goal.returns-in-Err-clause-means
returns-in-Err-clause-means g c =
    let view = device_view (rack_view g.R.Rack) (λ b. (goal.Watcher-dyn g (b.vtable, b.value)).hears b.value) in
    let streams = views g.S.Source g.K.Sink in
    let of = c.args.array.now.member.array.geometry in
    write_refused view streams of c.args.first c.args.blocks c.args.rack.now c.args.array.now c.args.watchers.now.items c.args.input.now c.args.output.now
    c.loop-done.done c.loop-done.rack c.loop-done.array c.loop-done.watchers.items c.loop-done.input c.loop-done.piece c.loop-done.intake c.loop-done.invariant c.loop-done-test.true c.take.new.input c.take.new.self c.take.new.intake c.piece_blocks.result
    (c.piece_blocks.ensures.value ∙ ap (λ (of : Geometry). piece_blocks of (c.args.first + c.loop-done.done) (c.args.blocks - c.loop-done.done)) c.geometry-geometry.ensures)
    c.in_ok-take.ensures.ok
    c.write_blocks.new.rack c.write_blocks.new.self c.write_blocks.new.watchers.items c.whole-whole.result.now c.whole-whole.ensures
    c.write_blocks.result c.write_blocks.ensures.taken c.in-Err.fault _ c.in-Err.is (search rules)

pub loop-done-preserved : goal.loop-done-preserved
loop-done-preserved g c =
    let view = device_view (rack_view g.R.Rack) (λ b. (goal.Watcher-dyn g (b.vtable, b.value)).hears b.value) in
    let streams = views g.S.Source g.K.Sink in
    let of = c.args.array.now.member.array.geometry in
    let within = c.requires.within (omega (arith, c.loop-done-test.true)) in
    let some = piece_some of c.args.first c.args.blocks c.loop-done.done c.loop-done-test.true within in
    let most = piece_left of c.args.first c.args.blocks c.loop-done.done c.loop-done-test.true within in
    let blocks = c.piece_blocks.ensures.value ∙ ap (λ (of : Geometry). piece_blocks of (c.args.first + c.loop-done.done) (c.args.blocks - c.loop-done.done)) c.geometry-geometry.ensures in
    one_written view streams of c.args.first c.args.blocks c.args.rack.now c.args.array.now c.args.watchers.now.items c.args.input.now c.args.output.now
    c.loop-done.done c.loop-done.rack c.loop-done.array c.loop-done.watchers.items c.loop-done.input c.loop-done.piece c.loop-done.intake c.loop-done.invariant c.loop-done-test.true c.take.new.input c.take.new.self c.take.new.intake c.piece_blocks.result
    (c.piece_blocks.ensures.value ∙ ap (λ (of : Geometry). piece_blocks of (c.args.first + c.loop-done.done) (c.args.blocks - c.loop-done.done)) c.geometry-geometry.ensures)
    c.in_ok-take.ensures.ok
    c.write_blocks.new.rack c.write_blocks.new.self c.write_blocks.new.watchers.items c.whole-whole.result.now c.whole-whole.ensures
    c.write_blocks.result c.write_blocks.ensures.taken _ c.drop_whole.new.self (not_refused c.write_blocks.result (λ fault is. c.in_default.not-Err fault is)) refl c.drop_whole.ensures
    c.write_blocks.ensures.stay (omega (arith, some, blocks)) (omega (arith, blocks, most))

pub end-requires-clause-all : goal.end-requires-clause-all
end-requires-clause-all g c =
    omega (arith, ap (λ (i : Intake). i.needed) c.loop-done.invariant.count, ap (λ (i : Intake). i.took) c.loop-done.invariant.count, c.loop-done-test.false, c.loop-done.invariant.below, c.loop-done.invariant.within)

pub returns-in_err-end-clause-means : goal.returns-in_err-end-clause-means
returns-in_err-end-clause-means g c counter =
    let view = device_view (rack_view g.R.Rack) (λ b. (goal.Watcher-dyn g (b.vtable, b.value)).hears b.value) in
    let streams = views g.S.Source g.K.Sink in
    let of = c.args.array.now.member.array.geometry in
    with_passes_on view streams _ _ _ _ _ c.from_residual-in_err-end.result c.in_err-end.field-0.0 c.from_residual-in_err-end.ensures.1
    (no_end view streams of c.args.first c.args.blocks c.args.rack.now c.args.array.now c.args.watchers.now.items c.args.input.now c.args.output.now
    c.loop-done.done c.loop-done.rack c.loop-done.array c.loop-done.watchers.items c.loop-done.input c.loop-done.piece c.loop-done.intake c.loop-done.invariant (omega (arith, c.loop-done-test.false)) c.in_err-end.field-0.0 c.loop-done.intake.needed c.end.new.input (ap (λ (i : Intake). i.needed) c.loop-done.invariant.count) c.in_err-end.ensures.more counter)

pub returns-in_err-put_all-clause-means : goal.returns-in_err-put_all-clause-means
returns-in_err-put_all-clause-means g c counter =
    let view = device_view (rack_view g.R.Rack) (λ b. (goal.Watcher-dyn g (b.vtable, b.value)).hears b.value) in
    let streams = views g.S.Source g.K.Sink in
    let of = c.args.array.now.member.array.geometry in
    let failed = c.in_err-put_all.ensures.puts in
    with_passes_on view streams _ _ _ _ _ _ Output (rw c.in_err-put_all.ensures.failed at c.from_residual-in_err-put_all.ensures.1)
    (line_cut view streams of c.args.first c.args.blocks c.args.rack.now c.args.array.now c.args.watchers.now.items c.args.input.now c.args.output.now
    c.loop-done.done c.loop-done.rack c.loop-done.array c.loop-done.watchers.items c.loop-done.input c.loop-done.piece c.loop-done.intake c.loop-done.invariant (omega (arith, c.loop-done-test.false)) c.end.new.input c.in_ok-end.ensures.ok c.put_all.new.output _ failed.0 (search rules) failed.1 failed.2 counter)

pub returns-clause-means : goal.returns-clause-means
returns-clause-means g c =
    let view = device_view (rack_view g.R.Rack) (λ b. (goal.Watcher-dyn g (b.vtable, b.value)).hears b.value) in
    let streams = views g.S.Source g.K.Sink in
    let of = c.args.array.now.member.array.geometry in
    line_put view streams of c.args.first c.args.blocks c.args.rack.now c.args.array.now c.args.watchers.now.items c.args.input.now c.args.output.now
    c.loop-done.done c.loop-done.rack c.loop-done.array c.loop-done.watchers.items c.loop-done.input c.loop-done.piece c.loop-done.intake c.loop-done.invariant (omega (arith, c.loop-done-test.false)) c.end.new.input c.in_ok-end.ensures.ok c.put_all.new.output _ (search rules) c.in_ok-put_all.ensures.puts
