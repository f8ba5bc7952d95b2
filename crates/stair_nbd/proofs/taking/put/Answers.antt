-- All of it was put out, or a part of it.
use Rattle.stair_command.specs.Outside.{sink_view}
use Rattle.stair_command.proofs.TalkLaws.{puts_all, puts_part}
use Rattle.stair_nbd.proofs.taking.put.Goals as goal

pub returns-in-Ok : goal.returns-in-Ok
returns-in-Ok g c rest =
    puts_all (sink_view g.K.Sink) c.args.bytes.now rest c.args.output.now c.put_all.new.output c.in-Ok.ensures.puts

pub returns-in-Err : goal.returns-in-Err
returns-in-Err g c rest =
    let failed = c.in-Err.ensures.puts in
    puts_part (sink_view g.K.Sink) c.args.bytes.now failed.0 rest c.args.output.now c.put_all.new.output failed.1 failed.2
