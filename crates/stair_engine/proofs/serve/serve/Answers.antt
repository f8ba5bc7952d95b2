-- Memory, a session, and a client in it.
use Rattle.std.proofs.Common.{refl, subst, sym}
use Rattle.stair_array.specs.Promise.{Begun, Opened}
use Rattle.stair_nbd.specs.Client.{client_program}
use Rattle.stair_command.specs.Devices.{ExecutesWith, device_view, devices}
use Rattle.stair_command.specs.Outside.{outside, views}
use Rattle.stair_command.specs.Program.{Over, opens_array}
use Rattle.stair_command.specs.Rack.{rack_view}
use Rattle.stair_command.specs.Trace.{Grew, RanOut}
use Rattle.stair_command.specs.declared.fault.Fault.TheVariants.{Memory}
use Rattle.stair_status.specs.declared.status.Status.{Status}
use Rattle.stair_status.specs.declared.status.Status.TheVariants.{OutOfMemory}
use Rattle.stair_command.proofs.ComesLaws.{with_comes}
use Rattle.stair_command.proofs.DeviceLaws.{whole_behind, whole_hands_on, with_one, with_then}
use Rattle.stair_engine.specs.Serving.{serve_program}
use Rattle.stair_engine.proofs.SessionLaws.{ended}
use Rattle.stair_engine.proofs.serve.serve.Goals as goal

pub returns-in_err-buffer-clause-means : goal.returns-in_err-buffer-clause-means
returns-in_err-buffer-clause-means g c counter =
    let view = device_view (rack_view g.R.Rack) (λ b. (goal.Watcher-dyn g (b.vtable, b.value)).hears b.value) in
    let streams = views g.S.Source g.K.Sink in
    let a = outside c.args.input.now c.args.output.now counter in
    let x = devices c.args.rack.now Begun c.args.watchers.now.items in
    whole_hands_on view streams serve_program a a _ _ _ _ c.from_residual.result Memory c.from_residual.ensures.1
    (record { session = Begun; with = with_one view streams RanOut serve_program (Over OutOfMemory) a a x x refl refl refl refl refl })

pub returns-in_err-array-clause-means : goal.returns-in_err-array-clause-means
returns-in_err-array-clause-means g c counter =
    let view = device_view (rack_view g.R.Rack) (λ b. (goal.Watcher-dyn g (b.vtable, b.value)).hears b.value) in
    let streams = views g.S.Source g.K.Sink in
    let a = outside c.args.input.now c.args.output.now counter in
    let x = devices c.args.rack.now Begun c.args.watchers.now.items in
    whole_hands_on view streams serve_program a a _ _ _ _ c.from_residual-in_err-array.result c.in_err-array.field-0.0 c.from_residual-in_err-array.ensures.1
    (whole_behind view streams serve_program (opens_array client_program) _ a a a _ _ _ _
    (with_one view streams Grew serve_program (opens_array client_program) a a x x refl refl refl refl refl)
    (ended view streams client_program a c.args.rack.now c.session.new.rack c.args.watchers.now.items c.session.new.watchers.items
    c.in_err-array.field-0.0 c.in_err-array.ensures.refused))

pub returns-clause-means : goal.returns-clause-means
returns-clause-means g c counter =
    let view = device_view (rack_view g.R.Rack) (λ b. (goal.Watcher-dyn g (b.vtable, b.value)).hears b.value) in
    let streams = views g.S.Source g.K.Sink in
    let a = outside c.args.input.now c.args.output.now counter in
    let x = devices c.args.rack.now Begun c.args.watchers.now.items in
    let array = c.in_ok-array.array in
    let y = devices c.session.new.rack (Opened array) c.session.new.watchers.items in
    record {
      session = Opened c.session-served.new.array;
      with = with_then view streams (with_one view streams Grew serve_program (opens_array client_program) a a x x refl refl refl refl refl)
          (with_then view streams
          (with_comes view streams (opens_array client_program) (client_program array.member.array.geometry) a x y
          (c.in_ok-array.ensures.begins (λ of gone. client_program of)))
          (subst (λ (end : Status). ExecutesWith view streams (client_program array.member.array.geometry) (Over end) a
          (outside c.session-served.new.input c.session-served.new.output counter) y
          (devices c.session-served.new.rack (Opened c.session-served.new.array) c.session-served.new.watchers.items)) (sym c.ended.ensures)
          (c.session-served.ensures.means counter)));
    }
