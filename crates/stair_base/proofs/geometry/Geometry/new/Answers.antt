-- What a large geometry breaks a small one breaks too; where it breaks nothing and isn't small, it is the last limit.
use Rattle.std.proofs.Common.{rules}
use Rattle.std.proofs.lemmas.Result.{IfErr-weaker}
use Rattle.stair_model.specs.Geometry.{Geometry, geometry_of}
use Rattle.stair_model.proofs.LimitLaws.{broken_map, broken_size}
use Rattle.stair_base.proofs.geometry.Geometry.new.Goals as goal

pub returns-in-Ok-clause-err : goal.returns-in-Ok-clause-err
returns-in-Ok-clause-err c =
    broken_size (geometry_of c.args.n c.args.m c.args.r c.args.e.now c.args.stripes c.args.id) (search rules) (λ both. search rules)

pub returns-in_default-2-clause-err : goal.returns-in_default-2-clause-err
returns-in_default-2-clause-err c =
    let g : Geometry = geometry_of c.args.n c.args.m c.args.r c.args.e.now c.args.stripes c.args.id in
    IfErr-weaker c.large.result _ _ (λ fault. broken_map g fault.limit (λ both. both.0)) c.large.ensures.err
