-- No multiple yet, and one more in one of the sums.
use Rattle.std.proofs.Common.{ℕ, ◌+◌, ◌*◌, ◌<◌, List, [], length, ap₂, ◌∙◌, arith}
use Rattle.std.proofs.lemmas.Grind.{get_or_default_zero}
use Rattle.std.proofs.lemmas.List.{get_or-replicate, length-replicate}
use Rattle.stair_model.specs.Field.{product}
use Rattle.stair_gf.proofs.LaneLaws.{AreLanes-same}
use Rattle.stair_gf.proofs.MultipleLaws.{AreParts-more, AreParts-none, factors_within}
use Rattle.stair_gf.proofs.multiples.sums_at.Goals as goal

pub loop-i-init : goal.loop-i-init
loop-i-init g c =
    AreParts-none c.args.symbols.now c.args.start c.args.from.now c.args.by.now c.args.factor c.args.width g.row.COUNT _
    (length-replicate {A = List ℕ} g.row.COUNT _) (λ j below. get_or-replicate g.row.COUNT j _ [] below)

pub loop-d-preserved : goal.loop-d-preserved
loop-d-preserved g c =
    let d = c.loop-d.d in
    let i = c.loop-i.i in
    let number : c.args.factor + d * c.args.width + i < length c.args.by.now =
    omega (arith, factors_within d g.row.COUNT c.args.width c.loop-d-test.true, c.requires.factors, c.requires.width, c.loop-i-test.true) in
    AreParts-more c.args.symbols.now c.args.start c.args.from.now c.args.by.now c.args.factor c.args.width g.row.COUNT i d c.from.result c.loop-d.sums
    c.loop-d-test.true c.loop-d.invariant c.from.ensures c.load.ensures
    (AreLanes-same c.times_halves.ensures
    (λ k h. ap₂ product (c.index-by-factor.is ∙ get_or_default_zero c.args.by.now (c.args.factor + d * c.args.width + i) _ number) (c.halves-halves.ensures.whole k h)))
