-- What a call of the three commands on one stripe keeps, by its status. Only the laws use these records; no clause of a
-- command cites them.
use Rattle.std.specs.Prelude.{IfSome}
use Rattle.stair_model.specs.Geometry.{Geometry}
use Rattle.stair_status.specs.declared.status.Status.{Status}
use Rattle.stair_conf.specs.declared.job.StripeCommand.{StripeCommand}
use Rattle.stair_engine.specs.Cause.{CountsSteps, HasCause, LimitsComeFirst, LooksForEnd, PutsOut, TakesInput}
use Rattle.stair_command.specs.Outside.{Outside, Views}

-- what a command keeps
pub record Does {S K : Type 0} (view : Views S K) (command : StripeCommand) (g : Geometry)
    (status : Status) (old new : Outside S K) : Type 0 where
  pub limits : LimitsComeFirst command g status
  -- of a source that tells its bytes, whatever came
  pub cause : IfSome (view.source.left old.source) (λ bytes.
      HasCause command g bytes (view.sink.held old.sink) (view.sink.held new.sink) status)
  pub taken : TakesInput command g (view.source.left old.source) (view.source.left new.source)
      status
  pub looked : LooksForEnd command g (view.source.ended old.source) (view.source.ended new.source)
      status
  pub output : PutsOut command g (view.sink.held old.sink) (view.sink.held new.sink) status
  pub steps : CountsSteps command g status old.counter new.counter
