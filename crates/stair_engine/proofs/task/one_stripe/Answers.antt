-- The numbers are those of the words.
use Rattle.std.proofs.Common.{◌≡◌, replicate, rules, subst}
use Rattle.std.specs.Prelude.{IfErr}
use Rattle.stair_model.specs.Geometry.{Geometry, IsFirstBrokenLimit, geometry_of}
use Rattle.stair_engine.specs.Task.{one_stripe}
use Rattle.stair_engine.proofs.task.one_stripe.Goals as goal

pub returns-clause-broken : goal.returns-clause-broken
returns-clause-broken c =
    let a = c.args in
    let same : geometry_of a.n a.m a.r c.as_slice.result.now 1 (replicate 16 0) ≡ one_stripe a.n a.m a.r a.e.now = search rules in
    subst (λ (of : Geometry). IfErr c.large.result (λ fault. IsFirstBrokenLimit of fault.limit)) same c.large.ensures.err
