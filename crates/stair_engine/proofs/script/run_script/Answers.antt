-- A session, and the lines of a script in it.
use Rattle.std.proofs.Common.{arith, rules}
use Rattle.stair_command.proofs.DeviceLaws.{whole_hands_on}
use Rattle.stair_command.specs.Devices.{device_view}
use Rattle.stair_command.specs.Outside.{outside, views}
use Rattle.stair_command.specs.Rack.{rack_view}
use Rattle.stair_engine.proofs.LineAnswerLaws.{fewer_left, none_left, script_begun, script_halted}
use Rattle.stair_engine.proofs.SessionLaws.{watched_ended}
use Rattle.stair_engine.specs.Scripts.{all_lines, if_halted, script_program}
use Rattle.stair_engine.proofs.script.run_script.Goals as goal

pub returns-in_err-array-clause-means : goal.returns-in_err-array-clause-means
returns-in_err-array-clause-means g c counter =
    let view = device_view (rack_view g.R.Rack) (λ b. (goal.Watcher-dyn g (b.vtable, b.value)).hears b.value) in
    let streams = views g.S.Source g.K.Sink in
    whole_hands_on view streams (script_program c.args.guarded) (outside c.args.input.now c.args.output.now counter) (outside c.args.input.now c.args.output.now counter) _ _ _ _
    c.from_residual.result c.in_err-array.field-0.0 c.from_residual.ensures.1
    (watched_ended view streams (λ of left. if_halted c.args.guarded 0 (all_lines c.args.guarded of) left) (outside c.args.input.now c.args.output.now counter) c.args.rack.now c.session.new.rack c.args.watchers.now.items
    c.session.new.watchers.items c.in_err-array.field-0.0 c.in_err-array.ensures.refused)

pub returns-then-is_halted-clause-means : goal.returns-then-is_halted-clause-means
returns-then-is_halted-clause-means g c counter =
    let view = device_view (rack_view g.R.Rack) (λ b. (goal.Watcher-dyn g (b.vtable, b.value)).hears b.value) in
    let streams = views g.S.Source g.K.Sink in
    script_halted view streams c.args.guarded (outside c.args.input.now c.args.output.now counter) c.args.rack.now c.session.new.rack c.args.watchers.now.items
    c.session.new.watchers.items c.in_ok-array.array c.in_ok-array.ensures.begins (c.is_halted.ensures.halted c.if-is_halted.true).0
    (fewer_left c.args.watchers.now.items c.session.new.watchers.items (search rules))

pub returns-clause-means : goal.returns-clause-means
returns-clause-means g c counter =
    let view = device_view (rack_view g.R.Rack) (λ b. (goal.Watcher-dyn g (b.vtable, b.value)).hears b.value) in
    let streams = views g.S.Source g.K.Sink in
    script_begun view streams c.args.guarded (outside c.args.input.now c.args.output.now counter) c.args.rack.now c.session.new.rack c.args.watchers.now.items
    c.session.new.watchers.items c.in_ok-array.array c.in_ok-array.ensures.begins _ c.do_lines.new.rack c.do_lines.new.watchers.items c.do_lines.new.array _
    (λ guards. none_left c.args.watchers.now.items c.session.new.watchers.items
    (omega (arith, c.is_halted.ensures.goes_on c.if-is_halted.false guards, c.len-before.ensures, c.len.ensures)))
    (c.do_lines.ensures.means counter)
