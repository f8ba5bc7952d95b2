-- A line that was put out, or a part of it.
use Rattle.std.proofs.Common.{◌≡◌, Err, Result, refl, subst, sym}
use Rattle.stair_command.specs.Fault.{status_of}
use Rattle.stair_command.specs.Executes.{Executes}
use Rattle.stair_command.specs.Outside.{outside, sink_alone}
use Rattle.stair_command.specs.Program.{Over, Put}
use Rattle.stair_command.specs.Trace.{HasPut, PutFailed}
use Rattle.stair_command.specs.declared.fault.Fault.{Fault}
use Rattle.stair_command.specs.declared.fault.Fault.TheVariants.{Output}
use Rattle.stair_status.specs.declared.status.Status.{Status}
use Rattle.stair_status.specs.declared.status.Status.TheVariants.{Done, OutputFault}
use Rattle.stair_command.proofs.ProgramLaws.{does}
use Rattle.stair_engine.proofs.StepLaws.{handed_on}
use Rattle.stair_engine.proofs.line.put_line.Goals as goal

pub returns-in_err-put_all : goal.returns-in_err-put_all
returns-in_err-put_all g c =
    let streams = sink_alone g.K.Sink in
    let failed = c.in_err-put_all.ensures.puts in
    let same : c.from_residual.result ≡ Err Output =
    handed_on c.from_residual.result Output (rw c.in_err-put_all.ensures.failed at c.from_residual.ensures.1) in
    record {
      means = λ counter.
          subst (λ (r : Result Status Fault). Executes streams (Put c.args.line.now (Over Done)) (Over (status_of r)) (outside tt c.args.output.now counter)
          (outside tt c.put_all.new.output counter)) (sym same)
          (does streams (PutFailed failed.0) (Put c.args.line.now (Over Done)) (Over OutputFault) (outside tt c.args.output.now counter)
          (outside tt c.put_all.new.output counter) (failed.1, refl) refl failed.2 refl);
    }

pub returns : goal.returns
returns g c = record {
  means = λ counter.
      does (sink_alone g.K.Sink) (HasPut c.args.line.now) (Put c.args.line.now (Over Done)) (Over Done)
      (outside tt c.args.output.now counter) (outside tt c.put_all.new.output counter) (refl, refl) refl c.in_ok-put_all.ensures.puts refl;
}
