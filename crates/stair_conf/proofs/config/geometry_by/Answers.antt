-- A large geometry where the table lets it be one, and else a small one.
use Rattle.std.proofs.Common.{inl, inr, rules}
use Rattle.std.proofs.lemmas.Result.{IfErr-weaker}
use Rattle.stair_model.specs.Geometry.{Geometry, HasSize, IsSmall, geometry_of}
use Rattle.stair_model.proofs.LimitLaws.{broken_map}
use Rattle.std.specs.Prelude.{◌⊎◌}
use Rattle.toml.specs.Data.{Members}
use Rattle.toml.specs.View.{table_view}
use Rattle.stair_conf.specs.Config.{SaysLarge, SizeBy}
use Rattle.stair_conf.proofs.config.geometry_by.Goals as goal

small_by : (table : Members) (g : Geometry) → ¬ SaysLarge table → SaysLarge table ⊎ IsSmall g → IsSmall g
small_by table g not (inl large) = absurd (not large)
small_by table g not (inr small) = small

pub returns-then-says_large-clause-err : goal.returns-then-says_large-clause-err
returns-then-says_large-clause-err c =
    let g : Geometry = geometry_of c.args.n c.args.m c.args.r c.args.e.now c.args.stripes c.args.id in
    IfErr-weaker c.large.result _ _ (λ fault. broken_map g fault.limit (λ size. size.0)) c.large.ensures.err

pub returns-else-says_large-clause-err : goal.returns-else-says_large-clause-err
returns-else-says_large-clause-err c =
    let g : Geometry = geometry_of c.args.n c.args.m c.args.r c.args.e.now c.args.stripes c.args.id in
    let asks : SizeBy (table_view c.args.table.now) g → HasSize g × IsSmall g = λ size. (size.0, small_by (table_view c.args.table.now) g (λ large. search rules) size.1) in
    IfErr-weaker c.new.result _ _ (λ fault. broken_map g fault.limit asks) c.new.ensures.err
