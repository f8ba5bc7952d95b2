-- A session, and the blocks that are in range.
use Rattle.std.proofs.Common.{◌≡◌, Ok, refl, subst, true}
use Rattle.stair_model.specs.Geometry.{Geometry}
use Rattle.stair_array.specs.Machine.{Recover}
use Rattle.stair_array.specs.Promise.{Found, Opened}
use Rattle.stair_command.specs.Devices.{ExecutesWith, device_view, devices}
use Rattle.stair_command.specs.Fault.{status_of}
use Rattle.stair_command.specs.Outside.{outside, sink_alone}
use Rattle.stair_command.specs.Program.{Program, Over}
use Rattle.stair_command.specs.Rack.{rack_view}
use Rattle.stair_command.specs.declared.fault.Fault.TheVariants.{Survey}
use Rattle.stair_command.proofs.DeviceLaws.{whole_hands_on, with_then}
use Rattle.stair_command.proofs.TakenLaws.{taken_geometry}
use Rattle.stair_engine.specs.Blocks.{IsPast, is_in_range, within_range}
use Rattle.stair_command.specs.Transfers.{reads}
use Rattle.stair_engine.proofs.SessionLaws.{inside, none_found, not_opened, opened, past}
use Rattle.stair_engine.proofs.read.read.Goals as goal

pub returns-in_err-member-clause-means : goal.returns-in_err-member-clause-means
returns-in_err-member-clause-means g c counter =
    let view = device_view (rack_view g.R.Rack) (λ b. (goal.Watcher-dyn g (b.vtable, b.value)).hears b.value) in
    let streams = sink_alone g.K.Sink in
    let k : Geometry → Program = λ of. within_range of c.args.first c.args.blocks (reads of c.args.first c.args.blocks) in
    whole_hands_on view streams _ _ _ _ _ _ _ c.from_residual.result (Survey c.in_err-member.field-0.0) c.from_residual.ensures.1
    (none_found view streams k (outside tt c.args.output.now counter) c.args.rack.now c.survey.new.rack c.args.watchers.now.items c.in_err-member.field-0.0
    c.in_err-member.ensures.does)

pub returns-in_err-array-clause-means : goal.returns-in_err-array-clause-means
returns-in_err-array-clause-means g c counter =
    let view = device_view (rack_view g.R.Rack) (λ b. (goal.Watcher-dyn g (b.vtable, b.value)).hears b.value) in
    let streams = sink_alone g.K.Sink in
    let k : Geometry → Program = λ of. within_range of c.args.first c.args.blocks (reads of c.args.first c.args.blocks) in
    whole_hands_on view streams _ _ _ _ _ _ _ c.from_residual-in_err-array.result c.in_err-array.field-0.0 c.from_residual-in_err-array.ensures.1
    (not_opened view streams k (outside tt c.args.output.now counter) c.args.rack.now c.survey.new.rack c.args.watchers.now.items c.in_ok-member.member
    c.in_ok-member.ensures.does c.open.new.rack c.open.new.watchers.items c.in_err-array.field-0.0 c.in_err-array.ensures.refused)

pub returns-in_err-in_range-clause-means : goal.returns-in_err-in_range-clause-means
returns-in_err-in_range-clause-means g c counter =
    let view = device_view (rack_view g.R.Rack) (λ b. (goal.Watcher-dyn g (b.vtable, b.value)).hears b.value) in
    let streams = sink_alone g.K.Sink in
    let k : Geometry → Program = λ of. within_range of c.args.first c.args.blocks (reads of c.args.first c.args.blocks) in
    whole_hands_on view streams _ _ _ _ _ _ _ c.from_residual-in_err-in_range.result c.in_err-in_range.field-0.0 c.from_residual-in_err-in_range.ensures.1
    (record {
      session = Opened c.in_ok-array.array;
      with = past view streams c.in_ok-member.member.array.geometry c.args.first c.args.blocks _ c.in_err-in_range.field-0.0
          (subst (λ (of : Geometry). IsPast of c.args.first c.args.blocks c.in_err-in_range.field-0.0) c.geometry-geometry.ensures.value c.in_err-in_range.ensures.past)
          (opened view streams k (outside tt c.args.output.now counter) c.args.rack.now c.survey.new.rack c.args.watchers.now.items c.in_ok-member.member
          c.in_ok-member.ensures.does c.open.new.rack c.open.new.watchers.items c.in_ok-array.array c.in_ok-array.ensures.taken);
    })

pub returns-clause-means : goal.returns-clause-means
returns-clause-means g c counter =
    let view = device_view (rack_view g.R.Rack) (λ b. (goal.Watcher-dyn g (b.vtable, b.value)).hears b.value) in
    let streams = sink_alone g.K.Sink in
    let k : Geometry → Program = λ of. within_range of c.args.first c.args.blocks (reads of c.args.first c.args.blocks) in
    let m = c.in_ok-member.member in
    let same = taken_geometry view Recover (Ok m.array.geometry) (devices c.survey.new.rack (Found m) c.args.watchers.now.items)
    (devices c.open.new.rack (Opened c.in_ok-array.array) c.open.new.watchers.items) m c.in_ok-array.array.member c.in_ok-array.ensures.taken refl refl in
    record {
      session = Opened c.put_blocks.new.array;
      with = with_then view streams
          (inside view streams m.array.geometry c.args.first c.args.blocks (reads m.array.geometry c.args.first c.args.blocks)
          (subst (λ (of : Geometry). is_in_range of c.args.first c.args.blocks ≡ true) c.geometry-geometry.ensures.value c.in_ok-in_range.ensures.within)
          (opened view streams k (outside tt c.args.output.now counter) c.args.rack.now c.survey.new.rack c.args.watchers.now.items m
          c.in_ok-member.ensures.does c.open.new.rack c.open.new.watchers.items c.in_ok-array.array c.in_ok-array.ensures.taken))
          (subst (λ (of : Geometry). ExecutesWith view streams (reads of c.args.first c.args.blocks) (Over (status_of c.put_blocks.result))
          (outside tt c.args.output.now counter) (outside tt c.put_blocks.new.output counter) (devices c.open.new.rack (Opened c.in_ok-array.array) c.open.new.watchers.items)
          (devices c.put_blocks.new.rack (Opened c.put_blocks.new.array) c.put_blocks.new.watchers.items)) same (c.put_blocks.ensures.means counter));
    }
