-- A device that is admitted and rebuilt, and the mark of its slot then.
use Rattle.std.proofs.Common.{Result, refl, rules, subst}
use Rattle.stair_array.specs.Arrays.{replaced_as}
use Rattle.stair_array.specs.Faults.{replace_refusal}
use Rattle.stair_array.specs.Machine.{ReplaceSlot}
use Rattle.stair_array.specs.Promise.{Opened}
use Rattle.stair_array.specs.declared.fault.ReplaceFault.{ReplaceFault}
use Rattle.stair_command.specs.Comes.{ExecutesOnDevices}
use Rattle.stair_command.specs.Devices.{device_view, devices}
use Rattle.stair_command.specs.Fault.{status_of_fault}
use Rattle.stair_command.specs.Program.{Program, Over}
use Rattle.stair_command.specs.Rack.{rack_view}
use Rattle.stair_command.specs.Steps.{Takes}
use Rattle.stair_command.proofs.IntakeLaws.{if_err_of}
use Rattle.stair_engine.specs.Mending.{replaces}
use Rattle.stair_command.proofs.DeviceLaws.{not_refused}
use Rattle.stair_engine.proofs.ReplaceLaws.{admitted, gone_program, live_program, look_on, looked, not_admitted, not_looked}
use Rattle.stair_engine.proofs.replace.replace_slot.Goals as goal

pub returns-in-Err-clause-refused : goal.returns-in-Err-clause-refused
returns-in-Err-clause-refused g c =
    let view = device_view (rack_view g.R.Rack) (λ b. (goal.Watcher-dyn g (b.vtable, b.value)).hears b.value) in
    let of = c.args.array.now.member.array.geometry in
    let first = devices c.args.rack.now (Opened c.args.array.now) c.args.watchers.now.items in
    not_admitted view of c.args.slot c.args.rack.now c.replace.new.rack c.args.array.now c.replace.new.self c.args.watchers.now.items
    c.replace.new.watchers.items (replace_refusal c.in-Err.fault) _ (search rules) c.in-Err.ensures.taken

pub returns-in_err-rebuild_all-clause-refused : goal.returns-in_err-rebuild_all-clause-refused
returns-in_err-rebuild_all-clause-refused g c =
    let view = device_view (rack_view g.R.Rack) (λ b. (goal.Watcher-dyn g (b.vtable, b.value)).hears b.value) in
    let of = c.args.array.now.member.array.geometry in
    let first = devices c.args.rack.now (Opened c.args.array.now) c.args.watchers.now.items in
    if_err_of c.from_residual.result c.in_err-rebuild_all.field-0.0
    (λ fault. ExecutesOnDevices view (replaces of c.args.slot) (Over (status_of_fault fault)) first (devices c.rebuild_all.new.rack (Opened c.rebuild_all.new.array) c.rebuild_all.new.watchers.items))
    c.from_residual.ensures.1
    (admitted view of c.args.slot c.args.rack.now c.replace.new.rack c.args.array.now c.replace.new.self c.args.watchers.now.items
    c.replace.new.watchers.items refl
    (subst (λ (r : Result (Unit {0}) ReplaceFault). Takes view (ReplaceSlot c.args.slot) (replaced_as r) first
    (devices c.replace.new.rack (Opened c.replace.new.self) c.replace.new.watchers.items))
    (not_refused c.replace.result (λ fault is. c.in_default.not-Err fault is)) c.replace.ensures.taken)
    (Over (status_of_fault c.in_err-rebuild_all.field-0.0)) (devices c.rebuild_all.new.rack (Opened c.rebuild_all.new.array) c.rebuild_all.new.watchers.items)
    (c.in_err-rebuild_all.ensures.refused (look_on of c.args.slot)))

pub returns-in-Err-mark-clause-refused : goal.returns-in-Err-mark-clause-refused
returns-in-Err-mark-clause-refused g c =
    let view = device_view (rack_view g.R.Rack) (λ b. (goal.Watcher-dyn g (b.vtable, b.value)).hears b.value) in
    let of = c.args.array.now.member.array.geometry in
    let first = devices c.args.rack.now (Opened c.args.array.now) c.args.watchers.now.items in
    let rebuilt = admitted view of c.args.slot c.args.rack.now c.replace.new.rack c.args.array.now c.replace.new.self c.args.watchers.now.items
    c.replace.new.watchers.items refl
    (subst (λ (r : Result (Unit {0}) ReplaceFault). Takes view (ReplaceSlot c.args.slot) (replaced_as r) first
    (devices c.replace.new.rack (Opened c.replace.new.self) c.replace.new.watchers.items))
    (not_refused c.replace.result (λ fault is. c.in_default.not-Err fault is)) c.replace.ensures.taken)
    (look_on of c.args.slot c.in_ok-rebuild_all.field-0) (devices c.rebuild_all.new.rack (Opened c.rebuild_all.new.array) c.rebuild_all.new.watchers.items)
    (c.in_ok-rebuild_all.ensures.done (look_on of c.args.slot)) in
    not_looked view of c.args.slot c.in_ok-rebuild_all.field-0 first c.rebuild_all.new.rack c.rebuild_all.new.array
    c.rebuild_all.new.watchers.items rebuilt c.in-Err-mark.ensures.stopped.0 c.in-Err-mark.ensures.stopped.1 c.in-Err-mark.fault
    c.in-Err-mark.ensures.stopped.2 _ (search rules)

pub returns-in-Live-clause-done : goal.returns-in-Live-clause-done
returns-in-Live-clause-done g c =
    let view = device_view (rack_view g.R.Rack) (λ b. (goal.Watcher-dyn g (b.vtable, b.value)).hears b.value) in
    let of = c.args.array.now.member.array.geometry in
    let first = devices c.args.rack.now (Opened c.args.array.now) c.args.watchers.now.items in
    let rebuilt = admitted view of c.args.slot c.args.rack.now c.replace.new.rack c.args.array.now c.replace.new.self c.args.watchers.now.items
    c.replace.new.watchers.items refl
    (subst (λ (r : Result (Unit {0}) ReplaceFault). Takes view (ReplaceSlot c.args.slot) (replaced_as r) first
    (devices c.replace.new.rack (Opened c.replace.new.self) c.replace.new.watchers.items))
    (not_refused c.replace.result (λ fault is. c.in_default.not-Err fault is)) c.replace.ensures.taken)
    (look_on of c.args.slot c.in_ok-rebuild_all.field-0) (devices c.rebuild_all.new.rack (Opened c.rebuild_all.new.array) c.rebuild_all.new.watchers.items)
    (c.in_ok-rebuild_all.ensures.done (look_on of c.args.slot)) in
    subst (λ (program : Program). ExecutesOnDevices view (replaces of c.args.slot) program first (devices c.rebuild_all.new.rack (Opened c.rebuild_all.new.array) c.rebuild_all.new.watchers.items))
    (live_program c.args.slot c.in-Ok.mark c.in-Live.is)
    (looked view of c.args.slot c.in_ok-rebuild_all.field-0 first c.rebuild_all.new.rack c.rebuild_all.new.array
    c.rebuild_all.new.watchers.items rebuilt (c.in-Ok.ensures.rules c.in-Ok.ensures.value) c.in-Ok.ensures.value c.in-Ok.mark c.in-Ok.ensures.mark)

pub returns-in_default-mark : goal.returns-in_default-mark
returns-in_default-mark g c =
    let view = device_view (rack_view g.R.Rack) (λ b. (goal.Watcher-dyn g (b.vtable, b.value)).hears b.value) in
    let of = c.args.array.now.member.array.geometry in
    let first = devices c.args.rack.now (Opened c.args.array.now) c.args.watchers.now.items in
    let rebuilt = admitted view of c.args.slot c.args.rack.now c.replace.new.rack c.args.array.now c.replace.new.self c.args.watchers.now.items
    c.replace.new.watchers.items refl
    (subst (λ (r : Result (Unit {0}) ReplaceFault). Takes view (ReplaceSlot c.args.slot) (replaced_as r) first
    (devices c.replace.new.rack (Opened c.replace.new.self) c.replace.new.watchers.items))
    (not_refused c.replace.result (λ fault is. c.in_default.not-Err fault is)) c.replace.ensures.taken)
    (look_on of c.args.slot c.in_ok-rebuild_all.field-0) (devices c.rebuild_all.new.rack (Opened c.rebuild_all.new.array) c.rebuild_all.new.watchers.items)
    (c.in_ok-rebuild_all.ensures.done (look_on of c.args.slot)) in
    record {
      done = tt;
      stay = c.rebuild_all.ensures.stay;
      refused = subst (λ (program : Program). ExecutesOnDevices view (replaces of c.args.slot) program first (devices c.rebuild_all.new.rack (Opened c.rebuild_all.new.array) c.rebuild_all.new.watchers.items))
          (gone_program c.args.slot c.in-Ok.mark c.in_default-mark.not-Live)
          (looked view of c.args.slot c.in_ok-rebuild_all.field-0 first c.rebuild_all.new.rack c.rebuild_all.new.array
          c.rebuild_all.new.watchers.items rebuilt (c.in-Ok.ensures.rules c.in-Ok.ensures.value) c.in-Ok.ensures.value c.in-Ok.mark c.in-Ok.ensures.mark);
    }
