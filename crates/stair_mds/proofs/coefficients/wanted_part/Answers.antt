-- The distances to all known places, and a weight that isn't 0.
use Rattle.std.proofs.Common.{length, slice_index, ap, ap₂, ◌∙◌, arith}
use Rattle.std.specs.Prelude.{bit_xor}
use Rattle.stair_model.specs.Field.{product, inverse}
use Rattle.stair_model.proofs.ProductLaws.{product_except_past}
use Rattle.stair_mds.specs.Lagrange.{distances, wanted_part}
use Rattle.stair_mds.proofs.Formula.{weight_of-pos}
use Rattle.stair_mds.proofs.coefficients.wanted_part.Goals as goal

pub inv-requires : goal.inv-requires
inv-requires c =
    let kept = c.requires.weights in
    rw (c.from.ensures, kept.each c.args.wanted c.requires.wanted)
    (weight_of-pos (length c.args.known.now) c.args.wanted (omega (arith, kept.within, kept.bytes)) (omega (arith, kept.bytes, c.requires.wanted)))

pub returns : goal.returns
unfolding distances wanted_part
returns c =
    let known = c.args.known.now in
    let kept = c.requires.weights in
    c.mul.ensures
    ∙ ap₂ product
    (c.distances-apart.ensures
    ∙ product_except_past (length known) (length known) (λ j. bit_xor c.args.wanted (slice_index known j)) (omega arith))
    (c.inv.ensures ∙ ap inverse (ap (slice_index c.args.weights.now) c.from.ensures ∙ kept.each c.args.wanted c.requires.wanted))
