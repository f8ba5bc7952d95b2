-- A block that is read, and its reply.
use Rattle.std.proofs.Common.{rules}
use Rattle.stair_array.specs.Faults.{refusal_for}
use Rattle.stair_array.specs.Machine.{ReadBlock}
use Rattle.stair_array.specs.Promise.{Opened}
use Rattle.stair_command.specs.Devices.{device_view, devices}
use Rattle.stair_command.specs.Program.{Put}
use Rattle.stair_command.specs.Rack.{rack_view}
use Rattle.stair_engine.proofs.LineStepLaws.{line_refused, was_read}
use Rattle.stair_engine.specs.Scripts.{read_reply}
use Rattle.stair_engine.proofs.lines.read_block.Goals as goal

pub returns-in-Err-clause-refused : goal.returns-in-Err-clause-refused
returns-in-Err-clause-refused g c rest =
    let view = device_view (rack_view g.R.Rack) (λ b. (goal.Watcher-dyn g (b.vtable, b.value)).hears b.value) in
    let of = c.args.array.now.member.array.geometry in
    let first = devices c.args.rack.now (Opened c.args.array.now) c.args.watchers.now.items in
    let next = devices c.read.new.rack (Opened c.read.new.self) c.read.new.watchers.items in
    line_refused view of first next (ReadBlock c.args.block) (refusal_for c.in-Err.fault) (λ contents left. Put (read_reply c.args.block contents) (rest left)) _ (search rules)
    c.in-Err.ensures.taken

pub returns-clause-done : goal.returns-clause-done
returns-clause-done g c rest =
    let view = device_view (rack_view g.R.Rack) (λ b. (goal.Watcher-dyn g (b.vtable, b.value)).hears b.value) in
    let of = c.args.array.now.member.array.geometry in
    let first = devices c.args.rack.now (Opened c.args.array.now) c.args.watchers.now.items in
    let next = devices c.read.new.rack (Opened c.read.new.self) c.read.new.watchers.items in
    was_read view of first next rest c.args.block c.read.new.into _ c.read_reply.ensures c.in_default.ensures.taken
