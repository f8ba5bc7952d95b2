-- All of it was put out, or a part of it.
use Rattle.std.proofs.Common.{subst, sym}
use Rattle.stair_command.specs.Fault.{status_of_fault}
use Rattle.stair_command.specs.Outside.{sink_view}
use Rattle.stair_command.specs.Program.{Over, Put}
use Rattle.stair_command.specs.Talks.{PutsTo}
use Rattle.stair_command.specs.declared.fault.Fault.{Fault}
use Rattle.stair_command.proofs.TalkLaws.{puts_all, puts_part}
use Rattle.stair_volume.proofs.streams.put.Goals as goal

pub returns-in-Ok : goal.returns-in-Ok
returns-in-Ok g c slots rest =
    puts_all (sink_view g.K.Sink) c.args.bytes.now rest c.args.output.now c.put_all.new.output c.in-Ok.ensures.puts

pub returns-in-Err : goal.returns-in-Err
returns-in-Err g c slots rest =
    let failed = c.in-Err.ensures.puts in
    let ends = λ (why : Fault). PutsTo (sink_view g.K.Sink) (Put c.args.bytes.now rest) (Over (status_of_fault why)) c.args.output.now c.put_all.new.output in
    subst ends (sym c.in-Err.ensures.failed)
    (puts_part (sink_view g.K.Sink) c.args.bytes.now failed.0 rest c.args.output.now c.put_all.new.output failed.1 failed.2)
