-- A session that is begun, or isn't.
use Rattle.stair_command.specs.Devices.{device_view}
use Rattle.stair_command.specs.Rack.{rack_view}
use Rattle.stair_command.specs.declared.fault.Fault.TheVariants.{Survey}
use Rattle.stair_command.proofs.IntakeLaws.{if_err_of}
use Rattle.stair_engine.specs.Blocks.{EndsSession}
use Rattle.stair_engine.proofs.SessionLaws.{begun, if_err_so, if_ok_so, not_begun, not_found}
use Rattle.stair_engine.proofs.open.session.Goals as goal

pub returns-in_err-member-clause-refused : goal.returns-in_err-member-clause-refused
returns-in_err-member-clause-refused g c =
    let view = device_view (rack_view g.R.Rack) (λ b. (goal.Watcher-dyn g (b.vtable, b.value)).hears b.value) in
    if_err_of c.from_residual.result (Survey c.in_err-member.field-0.0)
    (λ fault. EndsSession view fault c.args.rack.now c.survey.new.rack c.args.watchers.now.items c.args.watchers.now.items) c.from_residual.ensures.1
    (not_found view c.args.rack.now c.survey.new.rack c.args.watchers.now.items c.in_err-member.field-0.0 c.in_err-member.ensures.does)

pub returns-clause-begins : goal.returns-clause-begins
returns-clause-begins g c =
    let view = device_view (rack_view g.R.Rack) (λ b. (goal.Watcher-dyn g (b.vtable, b.value)).hears b.value) in
    if_ok_so c.open.result _ _
    (λ array takes.
    begun view c.args.rack.now c.survey.new.rack c.args.watchers.now.items c.in_ok-member.member c.in_ok-member.ensures.does c.open.new.rack
    c.open.new.watchers.items array takes) c.open.ensures.taken

pub returns-clause-refused : goal.returns-clause-refused
returns-clause-refused g c =
    let view = device_view (rack_view g.R.Rack) (λ b. (goal.Watcher-dyn g (b.vtable, b.value)).hears b.value) in
    if_err_so c.open.result _ _
    (λ fault is.
    not_begun view c.args.rack.now c.survey.new.rack c.args.watchers.now.items c.in_ok-member.member c.in_ok-member.ensures.does c.open.new.rack
    c.open.new.watchers.items fault is) c.open.ensures.refused
