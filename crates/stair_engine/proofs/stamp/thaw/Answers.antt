-- A session in which an array is thawed.
use Rattle.std.proofs.Common.{◌∷◌, ◌++◌, [], Result, rules, subst, false}
use Rattle.std.specs.Prelude.{codes}
use Rattle.stair_array.specs.Arrays.{outcome}
use Rattle.stair_array.specs.Faults.{refusal_for}
use Rattle.stair_array.specs.Machine.{SetFrozen}
use Rattle.stair_array.specs.Promise.{Opened}
use Rattle.stair_array.specs.declared.fault.ArrayFault.{ArrayFault}
use Rattle.stair_command.specs.Devices.{device_view, devices}
use Rattle.stair_command.specs.Outside.{outside, sink_alone}
use Rattle.stair_command.specs.Rack.{rack_view}
use Rattle.stair_command.specs.Program.{Over, Put, take_step}
use Rattle.stair_command.specs.Steps.{Takes}
use Rattle.stair_status.specs.declared.status.Status.TheVariants.{Done}
use Rattle.stair_command.proofs.DeviceLaws.{not_refused, whole_hands_on}
use Rattle.stair_engine.proofs.SessionLaws.{ended}
use Rattle.stair_engine.proofs.StampLaws.{stamp_refused, stamped}
use Rattle.stair_engine.proofs.stamp.thaw.Goals as goal

pub returns-in_err-array-clause-means : goal.returns-in_err-array-clause-means
returns-in_err-array-clause-means g c counter =
    let view = device_view (rack_view g.R.Rack) (λ b. (goal.Watcher-dyn g (b.vtable, b.value)).hears b.value) in
    let streams = sink_alone g.K.Sink in
    whole_hands_on view streams _ _ _ _ _ _ _ c.from_residual.result c.in_err-array.field-0.0 c.from_residual.ensures.1
    (ended view streams (λ of. take_step of.n (SetFrozen false) (λ done. Put (codes "thawed" ++ 10 ∷ []) (Over Done))) (outside tt c.args.output.now counter) c.args.rack.now c.session.new.rack c.args.watchers.now.items c.session.new.watchers.items
    c.in_err-array.field-0.0 c.in_err-array.ensures.refused)

pub returns-in-Err-clause-means : goal.returns-in-Err-clause-means
returns-in-Err-clause-means g c counter =
    let view = device_view (rack_view g.R.Rack) (λ b. (goal.Watcher-dyn g (b.vtable, b.value)).hears b.value) in
    let streams = sink_alone g.K.Sink in
    stamp_refused view streams (SetFrozen false) (codes "thawed" ++ 10 ∷ []) c.args.rack.now c.session.new.rack c.set_frozen.new.rack c.args.watchers.now.items c.session.new.watchers.items
    c.set_frozen.new.watchers.items c.in_ok-array.array c.set_frozen.new.self c.in_ok-array.ensures.begins (refusal_for c.in-Err.fault) _ (search rules)
    (subst (λ (r : Result (Unit {0}) ArrayFault). Takes view (SetFrozen false) (outcome r) (devices c.session.new.rack (Opened c.in_ok-array.array) c.session.new.watchers.items)
    (devices c.set_frozen.new.rack (Opened c.set_frozen.new.self) c.set_frozen.new.watchers.items)) c.in-Err.is c.set_frozen.ensures.taken) c.args.output.now counter

pub returns-clause-means : goal.returns-clause-means
returns-clause-means g c =
    let view = device_view (rack_view g.R.Rack) (λ b. (goal.Watcher-dyn g (b.vtable, b.value)).hears b.value) in
    let streams = sink_alone g.K.Sink in
    stamped view streams (SetFrozen false) (codes "thawed" ++ 10 ∷ []) c.args.rack.now c.session.new.rack c.set_frozen.new.rack c.args.watchers.now.items c.session.new.watchers.items
    c.set_frozen.new.watchers.items c.in_ok-array.array c.set_frozen.new.self c.in_ok-array.ensures.begins tt
    (subst (λ (r : Result (Unit {0}) ArrayFault). Takes view (SetFrozen false) (outcome r) (devices c.session.new.rack (Opened c.in_ok-array.array) c.session.new.watchers.items)
    (devices c.set_frozen.new.rack (Opened c.set_frozen.new.self) c.set_frozen.new.watchers.items))
    (not_refused c.set_frozen.result (λ fault is. c.in_default.not-Err fault is)) c.set_frozen.ensures.taken) c.put_line.result c.args.output.now
    c.put_line.new.output c.put_line.ensures.means
