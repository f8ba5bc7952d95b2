-- A session, and a command on the volumes of it.
use Rattle.std.proofs.Common.{◌≡◌, ◌∙◌, ℕ, ◌*◌, Ok, replicate, mul_comm, ap, arith, refl, subst, sym}
use Rattle.stair_model.specs.Geometry.{Geometry, data_cells}
use Rattle.stair_array.specs.Machine.{Recover}
use Rattle.stair_array.specs.Promise.{Found, Opened}
use Rattle.stair_command.specs.Devices.{ExecutesWith, device_view, devices}
use Rattle.stair_command.specs.Outside.{outside, views}
use Rattle.stair_command.specs.Program.{Program, Over}
use Rattle.stair_command.specs.Rack.{rack_view}
use Rattle.stair_command.specs.declared.fault.Fault.TheVariants.{Memory, Survey}
use Rattle.stair_status.specs.declared.status.Status.{Status}
use Rattle.stair_status.specs.declared.status.Status.TheVariants.{Done}
use Rattle.stair_command.proofs.DeviceLaws.{whole_hands_on, with_then}
use Rattle.stair_command.proofs.TakenLaws.{taken_geometry}
use Rattle.stair_volume.specs.Commands.{status_of, status_of_volume, volume_program}
use Rattle.stair_model.specs.Stripe.{SECTOR}
use Rattle.stair_engine.proofs.MadeLaws.{done_ends, fault_ends}
use Rattle.stair_engine.proofs.SessionLaws.{no_memory, none_found, not_opened, opened}
use Rattle.stair_engine.proofs.volumes.volumes.Goals as goal

pub returns-in_err-member-clause-means : goal.returns-in_err-member-clause-means
returns-in_err-member-clause-means g c counter =
    let view = device_view (rack_view g.R.Rack) (λ b. (goal.Watcher-dyn g (b.vtable, b.value)).hears b.value) in
    let streams = views g.S.Source g.K.Sink in
    let k : Geometry → Program = volume_program c.args.job.now in
    let a = outside c.args.input.now c.args.output.now counter in
    whole_hands_on view streams _ _ _ _ _ _ _ c.from_residual.result (Survey c.in_err-member.field-0.0) c.from_residual.ensures.1
    (none_found view streams k a c.args.rack.now c.survey.new.rack c.args.watchers.now.items c.in_err-member.field-0.0 c.in_err-member.ensures.does)

pub returns-in_err-zeros-clause-means : goal.returns-in_err-zeros-clause-means
returns-in_err-zeros-clause-means g c counter =
    let view = device_view (rack_view g.R.Rack) (λ b. (goal.Watcher-dyn g (b.vtable, b.value)).hears b.value) in
    let streams = views g.S.Source g.K.Sink in
    let k : Geometry → Program = volume_program c.args.job.now in
    let a = outside c.args.input.now c.args.output.now counter in
    whole_hands_on view streams _ _ _ _ _ _ _ c.from_residual-in_err-zeros.result Memory c.from_residual-in_err-zeros.ensures.1
    (no_memory view streams k a c.args.rack.now c.survey.new.rack c.args.watchers.now.items c.in_ok-member.member c.in_ok-member.ensures.does)

pub returns-in_err-piece-clause-means : goal.returns-in_err-piece-clause-means
returns-in_err-piece-clause-means g c counter =
    let view = device_view (rack_view g.R.Rack) (λ b. (goal.Watcher-dyn g (b.vtable, b.value)).hears b.value) in
    let streams = views g.S.Source g.K.Sink in
    let k : Geometry → Program = volume_program c.args.job.now in
    let a = outside c.args.input.now c.args.output.now counter in
    whole_hands_on view streams _ _ _ _ _ _ _ c.from_residual-in_err-piece.result Memory c.from_residual-in_err-piece.ensures.1
    (no_memory view streams k a c.args.rack.now c.survey.new.rack c.args.watchers.now.items c.in_ok-member.member c.in_ok-member.ensures.does)

pub returns-in_err-array-clause-means : goal.returns-in_err-array-clause-means
returns-in_err-array-clause-means g c counter =
    let view = device_view (rack_view g.R.Rack) (λ b. (goal.Watcher-dyn g (b.vtable, b.value)).hears b.value) in
    let streams = views g.S.Source g.K.Sink in
    let k : Geometry → Program = volume_program c.args.job.now in
    let a = outside c.args.input.now c.args.output.now counter in
    whole_hands_on view streams _ _ _ _ _ _ _ c.from_residual-in_err-array.result c.in_err-array.field-0.0 c.from_residual-in_err-array.ensures.1
    (not_opened view streams k a c.args.rack.now c.survey.new.rack c.args.watchers.now.items c.in_ok-member.member c.in_ok-member.ensures.does
    c.open.new.rack c.open.new.watchers.items c.in_err-array.field-0.0 c.in_err-array.ensures.refused)

pub volume-done-requires-clause-zeros : goal.volume-done-requires-clause-zeros
volume-done-requires-clause-zeros g c =
    let view = device_view (rack_view g.R.Rack) (λ b. (goal.Watcher-dyn g (b.vtable, b.value)).hears b.value) in
    let m = c.in_ok-member.member in
    let same = taken_geometry view Recover (Ok m.array.geometry) (devices c.survey.new.rack (Found m) c.args.watchers.now.items)
    (devices c.open.new.rack (Opened c.in_ok-array.array) c.open.new.watchers.items) m c.in_ok-array.array.member c.in_ok-array.ensures.taken refl refl in
    let cells : c.from.result ≡ data_cells c.in_ok-array.array.member.array.geometry =
    c.from.ensures ∙ c.u.ensures.value ∙ ap data_cells (c.geometry-geometry.ensures.value ∙ sym same) in
    c.deref.ensures.value ∙ c.in_ok-zeros.ensures.items_if_clones_equal (λ y is. is)
    ∙ ap (λ (count : ℕ). replicate count 0) (mul_comm c.from.result SECTOR ∙ ap (λ (u : ℕ). SECTOR * u) cells)

pub volume-done-requires-clause-room : goal.volume-done-requires-clause-room
volume-done-requires-clause-room g c =
    let view = device_view (rack_view g.R.Rack) (λ b. (goal.Watcher-dyn g (b.vtable, b.value)).hears b.value) in
    let m = c.in_ok-member.member in
    let same = taken_geometry view Recover (Ok m.array.geometry) (devices c.survey.new.rack (Found m) c.args.watchers.now.items)
    (devices c.open.new.rack (Opened c.in_ok-array.array) c.open.new.watchers.items) m c.in_ok-array.array.member c.in_ok-array.ensures.taken refl refl in
    let cells : data_cells c.in_ok-array.array.member.array.geometry ≡ data_cells c.geometry-geometry.result =
    ap data_cells (same ∙ sym c.geometry-geometry.ensures.value) in
    rw (cells, c.in_ok-piece.ensures) (omega arith)

pub returns-in-Ok-clause-means : goal.returns-in-Ok-clause-means
returns-in-Ok-clause-means g c counter =
    let view = device_view (rack_view g.R.Rack) (λ b. (goal.Watcher-dyn g (b.vtable, b.value)).hears b.value) in
    let streams = views g.S.Source g.K.Sink in
    let k : Geometry → Program = volume_program c.args.job.now in
    let a = outside c.args.input.now c.args.output.now counter in
    let m = c.in_ok-member.member in
    let array = c.in_ok-array.array in
    let y = devices c.open.new.rack (Opened array) c.open.new.watchers.items in
    let same = taken_geometry view Recover (Ok m.array.geometry) (devices c.survey.new.rack (Found m) c.args.watchers.now.items) y m array.member
    c.in_ok-array.ensures.taken refl refl in
    let end : status_of array.member.array.geometry.n c.volume-done.result ≡ Done = done_ends _ c.volume-done.result c.in-Ok.is in
    record {
      session = Opened c.volume-done.new.array;
      with = with_then view streams
          (opened view streams k a c.args.rack.now c.survey.new.rack c.args.watchers.now.items m c.in_ok-member.ensures.does c.open.new.rack
          c.open.new.watchers.items array c.in_ok-array.ensures.taken)
          (subst (λ (of : Geometry). ExecutesWith view streams (k of) (Over Done) a (outside c.volume-done.new.input c.volume-done.new.output counter) y
          (devices c.volume-done.new.rack (Opened c.volume-done.new.array) c.volume-done.new.watchers.items)) same
          (subst (λ (status : Status). ExecutesWith view streams (k array.member.array.geometry) (Over status) a
          (outside c.volume-done.new.input c.volume-done.new.output counter) y
          (devices c.volume-done.new.rack (Opened c.volume-done.new.array) c.volume-done.new.watchers.items)) end (c.volume-done.ensures.means counter)));
    }

pub returns-clause-means : goal.returns-clause-means
returns-clause-means g c counter =
    let view = device_view (rack_view g.R.Rack) (λ b. (goal.Watcher-dyn g (b.vtable, b.value)).hears b.value) in
    let streams = views g.S.Source g.K.Sink in
    let k : Geometry → Program = volume_program c.args.job.now in
    let a = outside c.args.input.now c.args.output.now counter in
    let m = c.in_ok-member.member in
    let array = c.in_ok-array.array in
    let y = devices c.open.new.rack (Opened array) c.open.new.watchers.items in
    let same = taken_geometry view Recover (Ok m.array.geometry) (devices c.survey.new.rack (Found m) c.args.watchers.now.items) y m array.member
    c.in_ok-array.ensures.taken refl refl in
    let end : status_of array.member.array.geometry.n c.volume-done.result ≡ c.status.result =
    fault_ends _ c.volume-done.result c.in-Err.fault c.in-Err.is ∙ sym (c.status.ensures ∙ ap (λ (slots : ℕ). status_of_volume slots c.in-Err.fault)
    (c.n.ensures.value ∙ ap (λ (of : Geometry). of.n) (c.geometry-geometry.ensures.value ∙ sym same))) in
    record {
      session = Opened c.volume-done.new.array;
      with = with_then view streams
          (opened view streams k a c.args.rack.now c.survey.new.rack c.args.watchers.now.items m c.in_ok-member.ensures.does c.open.new.rack
          c.open.new.watchers.items array c.in_ok-array.ensures.taken)
          (subst (λ (of : Geometry). ExecutesWith view streams (k of) (Over c.status.result) a (outside c.volume-done.new.input c.volume-done.new.output counter) y
          (devices c.volume-done.new.rack (Opened c.volume-done.new.array) c.volume-done.new.watchers.items)) same
          (subst (λ (status : Status). ExecutesWith view streams (k array.member.array.geometry) (Over status) a
          (outside c.volume-done.new.input c.volume-done.new.output counter) y
          (devices c.volume-done.new.rack (Opened c.volume-done.new.array) c.volume-done.new.watchers.items)) end (c.volume-done.ensures.means counter)));
    }
