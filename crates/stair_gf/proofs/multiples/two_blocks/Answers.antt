-- No multiple yet, and one more.
use Rattle.std.proofs.Common.{◌+◌, ◌<◌, ◌∙◌, length, slice_index, ap, arith}
use Rattle.std.proofs.lemmas.Grind.{get_or_default_zero}
use Rattle.stair_model.specs.Field.{product}
use Rattle.stair_gf.proofs.LaneLaws.{AreLanes-same}
use Rattle.stair_gf.proofs.MultipleLaws.{part_more, part_none}
use Rattle.stair_gf.proofs.multiples.two_blocks.Goals as goal

pub loop-i-init : goal.loop-i-init
loop-i-init c = (
  part_none c.args.symbols.now c.args.start c.args.from.now c.args.by.now c.args.factor,
  part_none c.args.symbols.now (c.args.start + 64) c.args.from.now c.args.by.now c.args.factor,
)

pub loop-i-preserved : goal.loop-i-preserved
loop-i-preserved c =
    let i = c.loop-i.i in
    let number : c.args.factor + i < length c.args.by.now = omega (arith, c.loop-i-test.true, c.requires.factors) in (
      part_more c.args.symbols.now c.args.start c.args.from.now c.args.by.now i c.args.factor c.from.result c.loop-i.invariant.0
          c.from.ensures c.load.ensures
          (AreLanes-same c.times-first.ensures
          (λ k h. ap (λ by. product by (slice_index c.load.result k)) (c.index-by-factor.is ∙ get_or_default_zero c.args.by.now (c.args.factor + i) _ number))),
      part_more c.args.symbols.now (c.args.start + 64) c.args.from.now c.args.by.now i c.args.factor c.from.result c.loop-i.invariant.1
          c.from.ensures c.load-in-loop-i.ensures
          (AreLanes-same c.times-second.ensures
          (λ k h. ap (λ by. product by (slice_index c.load-in-loop-i.result k))
          (c.index-by-factor-in-loop-i.is ∙ get_or_default_zero c.args.by.now (c.args.factor + i) _ number))),
    )
