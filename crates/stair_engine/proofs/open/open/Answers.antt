-- An opening that was refused, or for which there was no memory.
use Rattle.stair_command.specs.Devices.{device_view}
use Rattle.stair_command.specs.Rack.{rack_view}
use Rattle.stair_command.specs.declared.fault.Fault.TheVariants.{Opening}
use Rattle.stair_command.proofs.IntakeLaws.{if_err_of}
use Rattle.stair_engine.specs.Blocks.{IsUnopened}
use Rattle.stair_engine.proofs.SessionLaws.{unopened_by}
use Rattle.stair_engine.proofs.open.open.Goals as goal

pub returns-in_err-open-clause-refused : goal.returns-in_err-open-clause-refused
returns-in_err-open-clause-refused g c =
    let view = device_view (rack_view g.R.Rack) (λ b. (goal.Watcher-dyn g (b.vtable, b.value)).hears b.value) in
    if_err_of c.from_residual-in_err-open.result (Opening c.in_err-open.field-0.0)
    (λ fault. IsUnopened view c.args.member fault c.args.rack.now c.open.new.rack c.args.watchers.now.items c.open.new.watchers.items)
    c.from_residual-in_err-open.ensures.1
    (unopened_by view c.args.member c.in_err-open.field-0.0 c.args.rack.now c.open.new.rack c.args.watchers.now.items c.open.new.watchers.items
    c.in_err-open.ensures.refused c.in_err-open.ensures.memory)
