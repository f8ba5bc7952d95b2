-- A session, and the blocks that are in range.
use Rattle.std.proofs.Common.{◌≡◌, ◌∙◌, ◌*◌, ◌≤◌, [], Ok, ap, arith, refl, subst, sym, true}
use Rattle.stair_model.specs.Geometry.{Geometry, data_cells}
use Rattle.stair_array.specs.Machine.{Recover}
use Rattle.stair_array.specs.Promise.{Found, Opened}
use Rattle.stair_command.specs.Devices.{ExecutesWith, device_view, devices}
use Rattle.stair_command.specs.Fault.{status_of_fault}
use Rattle.stair_command.specs.Outside.{outside, views}
use Rattle.stair_command.specs.Program.{Program, Over}
use Rattle.stair_command.specs.Rack.{rack_view}
use Rattle.stair_status.specs.declared.status.Status.TheVariants.{Done}
use Rattle.stair_command.specs.declared.fault.Fault.TheVariants.{Memory, Survey}
use Rattle.stair_command.specs.Transfers.{writes}
use Rattle.stair_command.proofs.DeviceLaws.{whole_hands_on, with_then}
use Rattle.stair_command.proofs.TakenLaws.{taken_geometry}
use Rattle.stair_engine.specs.Blocks.{IsInRange, IsPast, is_in_range, within_range}
use Rattle.stair_engine.proofs.RangeLaws.{in_range_has}
use Rattle.stair_engine.proofs.SessionLaws.{inside, no_memory, none_found, not_opened, opened, past}
use Rattle.stair_engine.proofs.write.write.Goals as goal

pub returns-in_err-member-clause-means : goal.returns-in_err-member-clause-means
returns-in_err-member-clause-means g c counter =
    let view = device_view (rack_view g.R.Rack) (λ b. (goal.Watcher-dyn g (b.vtable, b.value)).hears b.value) in
    let streams = views g.S.Source g.K.Sink in
    let k : Geometry → Program = λ of. within_range of c.args.first c.args.blocks (writes of c.args.first c.args.blocks c.args.blocks 0 []) in
    whole_hands_on view streams _ _ _ _ _ _ _ c.from_residual.result (Survey c.in_err-member.field-0.0) c.from_residual.ensures.1
    (none_found view streams k (outside c.args.input.now c.args.output.now counter) c.args.rack.now c.survey.new.rack c.args.watchers.now.items c.in_err-member.field-0.0
    c.in_err-member.ensures.does)

pub returns-in_err-array-clause-means : goal.returns-in_err-array-clause-means
returns-in_err-array-clause-means g c counter =
    let view = device_view (rack_view g.R.Rack) (λ b. (goal.Watcher-dyn g (b.vtable, b.value)).hears b.value) in
    let streams = views g.S.Source g.K.Sink in
    let k : Geometry → Program = λ of. within_range of c.args.first c.args.blocks (writes of c.args.first c.args.blocks c.args.blocks 0 []) in
    whole_hands_on view streams _ _ _ _ _ _ _ c.from_residual-in_err-array.result c.in_err-array.field-0.0 c.from_residual-in_err-array.ensures.1
    (not_opened view streams k (outside c.args.input.now c.args.output.now counter) c.args.rack.now c.survey.new.rack c.args.watchers.now.items c.in_ok-member.member
    c.in_ok-member.ensures.does c.open.new.rack c.open.new.watchers.items c.in_err-array.field-0.0 c.in_err-array.ensures.refused)

pub returns-in_err-in_range-clause-means : goal.returns-in_err-in_range-clause-means
returns-in_err-in_range-clause-means g c counter =
    let view = device_view (rack_view g.R.Rack) (λ b. (goal.Watcher-dyn g (b.vtable, b.value)).hears b.value) in
    let streams = views g.S.Source g.K.Sink in
    let k : Geometry → Program = λ of. within_range of c.args.first c.args.blocks (writes of c.args.first c.args.blocks c.args.blocks 0 []) in
    whole_hands_on view streams _ _ _ _ _ _ _ c.from_residual-in_err-in_range.result c.in_err-in_range.field-0.0 c.from_residual-in_err-in_range.ensures.1
    (record {
      session = Opened c.in_ok-array.array;
      with = past view streams c.in_ok-member.member.array.geometry c.args.first c.args.blocks _ c.in_err-in_range.field-0.0
          (subst (λ (of : Geometry). IsPast of c.args.first c.args.blocks c.in_err-in_range.field-0.0) c.geometry-geometry.ensures.value c.in_err-in_range.ensures.past)
          (opened view streams k (outside c.args.input.now c.args.output.now counter) c.args.rack.now c.survey.new.rack c.args.watchers.now.items c.in_ok-member.member
          c.in_ok-member.ensures.does c.open.new.rack c.open.new.watchers.items c.in_ok-array.array c.in_ok-array.ensures.taken);
    })

pub returns-in_err-write_input-clause-means : goal.returns-in_err-write_input-clause-means
returns-in_err-write_input-clause-means g c counter =
    let view = device_view (rack_view g.R.Rack) (λ b. (goal.Watcher-dyn g (b.vtable, b.value)).hears b.value) in
    let streams = views g.S.Source g.K.Sink in
    let k : Geometry → Program = λ of. within_range of c.args.first c.args.blocks (writes of c.args.first c.args.blocks c.args.blocks 0 []) in
    let m = c.in_ok-member.member in
    let same = taken_geometry view Recover (Ok m.array.geometry) (devices c.survey.new.rack (Found m) c.args.watchers.now.items)
    (devices c.open.new.rack (Opened c.in_ok-array.array) c.open.new.watchers.items) m c.in_ok-array.array.member c.in_ok-array.ensures.taken refl refl in
    whole_hands_on view streams _ _ _ _ _ _ _ c.from_residual-in_err-write_input.result c.in_err-write_input.field-0.0 c.from_residual-in_err-write_input.ensures.1
    (record {
      session = Opened c.write_input.new.array;
      with = with_then view streams
          (inside view streams m.array.geometry c.args.first c.args.blocks (writes m.array.geometry c.args.first c.args.blocks c.args.blocks 0 [])
          (subst (λ (of : Geometry). is_in_range of c.args.first c.args.blocks ≡ true) c.geometry-geometry.ensures.value c.in_ok-in_range.ensures.within)
          (opened view streams k (outside c.args.input.now c.args.output.now counter) c.args.rack.now c.survey.new.rack c.args.watchers.now.items m
          c.in_ok-member.ensures.does c.open.new.rack c.open.new.watchers.items c.in_ok-array.array c.in_ok-array.ensures.taken))
          (subst (λ (of : Geometry). ExecutesWith view streams (writes of c.args.first c.args.blocks c.args.blocks 0 []) (Over (status_of_fault c.in_err-write_input.field-0.0))
          (outside c.args.input.now c.args.output.now counter) (outside c.write_input.new.input c.write_input.new.output counter) (devices c.open.new.rack (Opened c.in_ok-array.array) c.open.new.watchers.items)
          (devices c.write_input.new.rack (Opened c.write_input.new.array) c.write_input.new.watchers.items)) same (c.in_err-write_input.ensures.means counter));
    })

pub returns-clause-means : goal.returns-clause-means
returns-clause-means g c counter =
    let view = device_view (rack_view g.R.Rack) (λ b. (goal.Watcher-dyn g (b.vtable, b.value)).hears b.value) in
    let streams = views g.S.Source g.K.Sink in
    let k : Geometry → Program = λ of. within_range of c.args.first c.args.blocks (writes of c.args.first c.args.blocks c.args.blocks 0 []) in
    let m = c.in_ok-member.member in
    let same = taken_geometry view Recover (Ok m.array.geometry) (devices c.survey.new.rack (Found m) c.args.watchers.now.items)
    (devices c.open.new.rack (Opened c.in_ok-array.array) c.open.new.watchers.items) m c.in_ok-array.array.member c.in_ok-array.ensures.taken refl refl in
    record {
      session = Opened c.write_input.new.array;
      with = with_then view streams
          (inside view streams m.array.geometry c.args.first c.args.blocks (writes m.array.geometry c.args.first c.args.blocks c.args.blocks 0 [])
          (subst (λ (of : Geometry). is_in_range of c.args.first c.args.blocks ≡ true) c.geometry-geometry.ensures.value c.in_ok-in_range.ensures.within)
          (opened view streams k (outside c.args.input.now c.args.output.now counter) c.args.rack.now c.survey.new.rack c.args.watchers.now.items m
          c.in_ok-member.ensures.does c.open.new.rack c.open.new.watchers.items c.in_ok-array.array c.in_ok-array.ensures.taken))
          (subst (λ (of : Geometry). ExecutesWith view streams (writes of c.args.first c.args.blocks c.args.blocks 0 []) (Over Done)
          (outside c.args.input.now c.args.output.now counter) (outside c.write_input.new.input c.write_input.new.output counter) (devices c.open.new.rack (Opened c.in_ok-array.array) c.open.new.watchers.items)
          (devices c.write_input.new.rack (Opened c.write_input.new.array) c.write_input.new.watchers.items)) same (c.in_ok-write_input.ensures.means counter));
    }

pub returns-in_err-piece-clause-means : goal.returns-in_err-piece-clause-means
returns-in_err-piece-clause-means g c counter =
    let view = device_view (rack_view g.R.Rack) (λ b. (goal.Watcher-dyn g (b.vtable, b.value)).hears b.value) in
    let streams = views g.S.Source g.K.Sink in
    let k : Geometry → Program = λ of. within_range of c.args.first c.args.blocks (writes of c.args.first c.args.blocks c.args.blocks 0 []) in
    whole_hands_on view streams _ _ _ _ _ _ _ c.from_residual-in_err-piece.result Memory c.from_residual-in_err-piece.ensures.1
    (no_memory view streams k (outside c.args.input.now c.args.output.now counter) c.args.rack.now c.survey.new.rack c.args.watchers.now.items c.in_ok-member.member
    c.in_ok-member.ensures.does)

pub write_input-requires-clause-within : goal.write_input-requires-clause-within
write_input-requires-clause-within g c =
    let view = device_view (rack_view g.R.Rack) (λ b. (goal.Watcher-dyn g (b.vtable, b.value)).hears b.value) in
    let m = c.in_ok-member.member in
    let same = taken_geometry view Recover (Ok m.array.geometry) (devices c.survey.new.rack (Found m) c.args.watchers.now.items)
    (devices c.open.new.rack (Opened c.in_ok-array.array) c.open.new.watchers.items) m c.in_ok-array.array.member c.in_ok-array.ensures.taken refl refl in
    subst (λ (of : Geometry). IsInRange of c.args.first c.args.blocks) (sym same)
    (subst (λ (of : Geometry). IsInRange of c.args.first c.args.blocks) c.geometry-geometry.ensures.value
    (in_range_has c.geometry-geometry.result c.args.first c.args.blocks c.in_ok-in_range.ensures.within))

pub write_input-requires-clause-room : goal.write_input-requires-clause-room
write_input-requires-clause-room g c =
    let view = device_view (rack_view g.R.Rack) (λ b. (goal.Watcher-dyn g (b.vtable, b.value)).hears b.value) in
    let m = c.in_ok-member.member in
    let same = taken_geometry view Recover (Ok m.array.geometry) (devices c.survey.new.rack (Found m) c.args.watchers.now.items)
    (devices c.open.new.rack (Opened c.in_ok-array.array) c.open.new.watchers.items) m c.in_ok-array.array.member c.in_ok-array.ensures.taken refl refl in
    let cells : data_cells c.in_ok-array.array.member.array.geometry ≡ data_cells c.geometry-geometry.result =
    ap data_cells (same ∙ sym c.geometry-geometry.ensures.value) in
    rw (cells, c.in_ok-piece.ensures) (omega arith)
