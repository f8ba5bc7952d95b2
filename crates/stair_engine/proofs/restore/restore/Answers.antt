-- There was no memory; or what was done with the code that was made.
use Rattle.stair_command.specs.Outside.{views}
use Rattle.stair_conf.specs.declared.job.StripeCommand.TheVariants.{Restore}
use Rattle.stair_engine.proofs.restore.restore.Goals as goal
use Rattle.stair_engine.proofs.StripeLaws.{after_memory, no_memory, of_geometry}

pub returns-in_err-stripe : goal.returns-in_err-stripe
returns-in_err-stripe g c counter =
    let view = views g.S.Source g.K.Sink in
    no_memory view Restore c.args.geometry.now _ _ c.from_residual.ensures.1

pub returns-in_err-codec : goal.returns-in_err-codec
returns-in_err-codec g c counter =
    let view = views g.S.Source g.K.Sink in
    no_memory view Restore c.args.geometry.now _ _ c.from_residual-in_err-codec.ensures.1

pub returns : goal.returns
returns g c counter =
    let view = views g.S.Source g.K.Sink in
    after_memory view Restore c.args.geometry.now _ _ _ (of_geometry view Restore _ _ _ _ _ c.in_ok-codec.ensures.geometry (c.restore_by.ensures counter))
