-- A block that is written.
use Rattle.std.proofs.Common.{rules}
use Rattle.stair_array.proofs.WritingLemmas.{one_block}
use Rattle.stair_array.specs.Arrays.{blocks_of}
use Rattle.stair_array.specs.Faults.{refusal_for}
use Rattle.stair_array.specs.Promise.{Opened}
use Rattle.stair_command.specs.Devices.{device_view, devices}
use Rattle.stair_command.specs.Rack.{rack_view}
use Rattle.stair_engine.proofs.LineStepLaws.{not_written, was_written}
use Rattle.stair_engine.proofs.lines.write_block.Goals as goal

pub returns-in-Err-clause-refused : goal.returns-in-Err-clause-refused
returns-in-Err-clause-refused g c rest =
    let view = device_view (rack_view g.R.Rack) (λ b. (goal.Watcher-dyn g (b.vtable, b.value)).hears b.value) in
    let of = c.args.array.now.member.array.geometry in
    let first = devices c.args.rack.now (Opened c.args.array.now) c.args.watchers.now.items in
    let next = devices c.write_blocks.new.rack (Opened c.write_blocks.new.self) c.write_blocks.new.watchers.items in
    not_written view of first next rest c.args.block c.args.contents.now (blocks_of c.args.contents.now) (refusal_for c.in-Err.fault) _
    (one_block c.args.contents.now c.told-contents) (search rules) c.in-Err.ensures.taken

pub returns-clause-done : goal.returns-clause-done
returns-clause-done g c rest =
    let view = device_view (rack_view g.R.Rack) (λ b. (goal.Watcher-dyn g (b.vtable, b.value)).hears b.value) in
    let of = c.args.array.now.member.array.geometry in
    let first = devices c.args.rack.now (Opened c.args.array.now) c.args.watchers.now.items in
    let next = devices c.write_blocks.new.rack (Opened c.write_blocks.new.self) c.write_blocks.new.watchers.items in
    was_written view of first next rest c.args.block c.args.contents.now (blocks_of c.args.contents.now) (one_block c.args.contents.now c.told-contents)
    c.in_default.ensures.taken
