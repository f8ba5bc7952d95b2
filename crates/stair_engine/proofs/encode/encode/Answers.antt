-- There was no memory; or what was done with the code that was made.
use Rattle.stair_command.specs.Outside.{views}
use Rattle.stair_conf.specs.declared.job.StripeCommand.TheVariants.{Encode}
use Rattle.stair_engine.proofs.encode.encode.Goals as goal
use Rattle.stair_engine.proofs.StripeLaws.{after_memory, no_memory, of_geometry}

pub returns-in_err-stripe : goal.returns-in_err-stripe
returns-in_err-stripe g c =
    let view = views g.S.Source g.K.Sink in
    no_memory view (Encode c.args.method) c.args.geometry.now _ _ c.from_residual.ensures.1

pub returns-in_err-codec : goal.returns-in_err-codec
returns-in_err-codec g c =
    let view = views g.S.Source g.K.Sink in
    no_memory view (Encode c.args.method) c.args.geometry.now _ _ c.from_residual-in_err-codec.ensures.1

pub returns : goal.returns
returns g c =
    let view = views g.S.Source g.K.Sink in
    let command = Encode c.args.method in
    after_memory view command c.args.geometry.now _ _ _ (of_geometry view command _ _ _ _ _ c.in_ok-codec.ensures.geometry c.encode_by.ensures)
