-- So many bytes were taken.
use Rattle.stair_array.specs.Promise.{Opened}
use Rattle.stair_command.specs.Devices.{device_view, devices}
use Rattle.stair_command.specs.Outside.{sink_view, source_view}
use Rattle.stair_command.specs.Rack.{rack_view}
use Rattle.stair_engine.proofs.LineAnswerLaws.{DidSoFar}
use Rattle.stair_engine.proofs.script.do_lines.Given as goal

abbrev pub invariant-loop : goal.invariant-loop
invariant-loop g l =
    DidSoFar
    (device_view (rack_view g.R.Rack) (λ b. (goal.Watcher-dyn g (b.vtable, b.value)).hears b.value))
    (source_view g.S.Source) (sink_view g.K.Sink)
    l.fn.guarded l.fn.array.member.array.geometry (devices l.fn.rack (Opened l.fn.array) l.fn.watchers.items) l.fn.input l.fn.output
    l.counter l.number l.line l.rack l.array l.watchers.items l.input l.output
