-- One step, of its kind.
use Rattle.std.proofs.Common.{arith, rules}
use Rattle.stair_array.specs.Promise.{Opened}
use Rattle.stair_array.proofs.WritingLemmas.{one_block}
use Rattle.stair_command.specs.Devices.{device_view, devices}
use Rattle.stair_command.specs.Rack.{rack_view}
use Rattle.stair_engine.proofs.ExercisedLaws.{read_done, read_refused, scrub_done, scrub_refused, write_done, write_refused}
use Rattle.stair_engine.proofs.exercise.take_step.Goals as goal

pub returns-in-Err-clause-refused : goal.returns-in-Err-clause-refused
returns-in-Err-clause-refused g c =
    let view = device_view (rack_view g.R.Rack) (λ b. (goal.Watcher-dyn g (b.vtable, b.value)).hears b.value) in
    let of = c.args.array.now.member.array.geometry in
    let first = devices c.args.rack.now (Opened c.args.array.now) c.args.watchers.now.items in
    let last = devices c.scrub.new.rack (Opened c.scrub.new.self) c.scrub.new.watchers.items in
    scrub_refused view first last of c.args.number c.args.so_far c.in-0.is c.from.result (search rules) _ (search rules) c.in-Err.fault
    c.in-Err.ensures.taken

pub returns-in-Err-read-clause-refused : goal.returns-in-Err-read-clause-refused
returns-in-Err-read-clause-refused g c =
    let view = device_view (rack_view g.R.Rack) (λ b. (goal.Watcher-dyn g (b.vtable, b.value)).hears b.value) in
    let of = c.args.array.now.member.array.geometry in
    let first = devices c.args.rack.now (Opened c.args.array.now) c.args.watchers.now.items in
    let last = devices c.read.new.rack (Opened c.read.new.self) c.read.new.watchers.items in
    read_refused view first last of c.args.number c.args.so_far c.blocks-2.result (search rules) (omega arith) (omega arith) _ (search rules)
    c.in-Err-read.fault c.in-Err-read.ensures.taken

pub returns-in-Err-write_blocks-clause-refused : goal.returns-in-Err-write_blocks-clause-refused
returns-in-Err-write_blocks-clause-refused g c =
    let view = device_view (rack_view g.R.Rack) (λ b. (goal.Watcher-dyn g (b.vtable, b.value)).hears b.value) in
    let of = c.args.array.now.member.array.geometry in
    let first = devices c.args.rack.now (Opened c.args.array.now) c.args.watchers.now.items in
    let last = devices c.write_blocks.new.rack (Opened c.write_blocks.new.self) c.write_blocks.new.watchers.items in
    write_refused view first last of c.args.number c.args.so_far c.blocks-2.result (search rules) (omega arith) _ (one_block _ (search rules))
    _ (search rules) c.in-Err-write_blocks.fault c.in-Err-write_blocks.ensures.taken

pub returns-in_default-scrub-clause-done : goal.returns-in_default-scrub-clause-done
returns-in_default-scrub-clause-done g c =
    let view = device_view (rack_view g.R.Rack) (λ b. (goal.Watcher-dyn g (b.vtable, b.value)).hears b.value) in
    let of = c.args.array.now.member.array.geometry in
    let first = devices c.args.rack.now (Opened c.args.array.now) c.args.watchers.now.items in
    let last = devices c.scrub.new.rack (Opened c.scrub.new.self) c.scrub.new.watchers.items in
    scrub_done view first last of c.args.number c.args.so_far c.in-0.is c.from.result (search rules) c.in_default-scrub.field-0
    c.in_default-scrub.ensures.taken

pub returns-in_default-read-clause-done : goal.returns-in_default-read-clause-done
returns-in_default-read-clause-done g c =
    let view = device_view (rack_view g.R.Rack) (λ b. (goal.Watcher-dyn g (b.vtable, b.value)).hears b.value) in
    let of = c.args.array.now.member.array.geometry in
    let first = devices c.args.rack.now (Opened c.args.array.now) c.args.watchers.now.items in
    let last = devices c.read.new.rack (Opened c.read.new.self) c.read.new.watchers.items in
    read_done view first last of c.args.number c.args.so_far c.blocks-2.result (search rules) (omega arith) (omega arith) c.read.new.into
    c.from-in-1-to-3.result (search rules) c.in_default-read.ensures.taken

pub returns-in_default-write_blocks-clause-done : goal.returns-in_default-write_blocks-clause-done
returns-in_default-write_blocks-clause-done g c =
    let view = device_view (rack_view g.R.Rack) (λ b. (goal.Watcher-dyn g (b.vtable, b.value)).hears b.value) in
    let of = c.args.array.now.member.array.geometry in
    let first = devices c.args.rack.now (Opened c.args.array.now) c.args.watchers.now.items in
    let last = devices c.write_blocks.new.rack (Opened c.write_blocks.new.self) c.write_blocks.new.watchers.items in
    write_done view first last of c.args.number c.args.so_far c.blocks-2.result (search rules) (omega arith) _ (one_block _ (search rules))
    c.in_default-write_blocks.ensures.taken
