-- Each return, by what the survey found.
use Rattle.std.proofs.Common.{Ok, Err, refl}
use Rattle.stair_command.specs.Outside.{sink_view}
use Rattle.stair_engine.proofs.StepLaws.{handed_on, puts_part}
use Rattle.stair_engine.proofs.show.show.Goals as goal

pub returns-in_err-member : goal.returns-in_err-member
returns-in_err-member g c = record {
  found = Err c.in_err-member.field-0.0;
  surveys = c.in_err-member.ensures.does;
  puts = (handed_on _ _ c.from_residual.ensures.1, refl);
}

pub returns-in_err-put_member : goal.returns-in_err-put_member
returns-in_err-put_member g c = record {
  found = Ok c.in_ok-member.member;
  surveys = c.in_ok-member.ensures.does;
  puts = puts_part (sink_view g.K.Sink) c.in_ok-member.member c.in_err-put_member.field-0.0
      c.from_residual-in_err-put_member.result _ _ c.in_err-put_member.ensures.puts c.in_err-put_member.ensures.failed
      c.from_residual-in_err-put_member.ensures.1;
}

pub returns : goal.returns
returns g c = record {
  found = Ok c.in_ok-member.member;
  surveys = c.in_ok-member.ensures.does;
  puts = (c.in_ok-put_member.ensures.puts, refl);
}
