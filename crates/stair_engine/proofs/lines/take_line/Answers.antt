-- A line that is read and done.
use Rattle.std.proofs.Common.{◌≡◌, None, Some, refl}
use Rattle.std.proofs.lemmas.Result.{IfErr-weaker, IfOk-weaker}
use Rattle.stair_array.specs.Promise.{Opened}
use Rattle.stair_command.specs.Devices.{device_view, devices, some_left}
use Rattle.stair_command.specs.Fault.{status_of_fault}
use Rattle.stair_command.specs.Program.{Over}
use Rattle.stair_command.specs.Rack.{rack_view}
use Rattle.stair_engine.proofs.LineAnswerLaws.{line_read, no_line}
use Rattle.stair_engine.specs.Scripts.{replies}
use Rattle.stair_engine.proofs.lines.take_line.Goals as goal

pub returns-in-Some-clause-done : goal.returns-in-Some-clause-done
returns-in-Some-clause-done g c =
    let view = device_view (rack_view g.R.Rack) (λ b. (goal.Watcher-dyn g (b.vtable, b.value)).hears b.value) in
    let of = c.args.array.now.member.array.geometry in
    let first = devices c.args.rack.now (Opened c.args.array.now) c.args.watchers.now.items in
    let next = devices c.do_line.new.rack (Opened c.do_line.new.array) c.do_line.new.watchers.items in
    let spells = (c.in-Some.ensures c.in-Some.said).0 refl in
    IfOk-weaker c.do_line.result _ _
    (λ reply comes rest. line_read view of c.args.number c.args.line.now rest first next c.in-Some.said spells
    (replies reply (rest (some_left first.watchers next.watchers))) (comes rest)) c.do_line.ensures.done

pub returns-in-Some-clause-refused : goal.returns-in-Some-clause-refused
returns-in-Some-clause-refused g c =
    let view = device_view (rack_view g.R.Rack) (λ b. (goal.Watcher-dyn g (b.vtable, b.value)).hears b.value) in
    let of = c.args.array.now.member.array.geometry in
    let first = devices c.args.rack.now (Opened c.args.array.now) c.args.watchers.now.items in
    let next = devices c.do_line.new.rack (Opened c.do_line.new.array) c.do_line.new.watchers.items in
    let spells = (c.in-Some.ensures c.in-Some.said).0 refl in
    IfErr-weaker c.do_line.result _ _
    (λ fault comes rest. line_read view of c.args.number c.args.line.now rest first next c.in-Some.said spells (Over (status_of_fault fault)) (comes rest))
    c.do_line.ensures.refused

pub returns-in-None-clause-refused : goal.returns-in-None-clause-refused
returns-in-None-clause-refused g c =
    let view = device_view (rack_view g.R.Rack) (λ b. (goal.Watcher-dyn g (b.vtable, b.value)).hears b.value) in
    let of = c.args.array.now.member.array.geometry in
    let first = devices c.args.rack.now (Opened c.args.array.now) c.args.watchers.now.items in
    no_line view of c.args.number c.args.line.now first
    (λ said spells. let never : None ≡ Some said = (c.in-None.ensures said).1 spells in cc)
