-- No factor, one factor more, and the whole product.
use Rattle.std.proofs.Common.{◌≡◌, refl, ap, ◌∙◌, arith, length}
use Rattle.std.specs.Prelude.{bit_xor, slice_index}
use Rattle.stair_model.specs.Sum.{product_except}
use Rattle.stair_mds.specs.Lagrange.{distances}
use Rattle.stair_mds.proofs.Products.{IsProductOf-none, IsProductOf-same, IsProductOf-more}
use Rattle.stair_mds.proofs.distances.distances.Goals as goal
use Rattle.stair_mds.proofs.distances.distances.Goals.{then-j-i, else-j-i}

pub loop-j-init : goal.loop-j-init
loop-j-init c = IsProductOf-none _ _

pub loop-j-preserved : goal.loop-j-preserved
loop-j-preserved c =
    elim c.if-j-i.branch [
      | then-j-i w ↦
          rw (w.product-is ∙ w.mul-product.ensures) (IsProductOf-more _ _ _ _ _ w.if-j-i.true refl c.loop-j.invariant)
      | else-j-i w ↦ rw w.product-is (IsProductOf-same _ _ _ _ w.if-j-i.false c.loop-j.invariant)
    ]

pub returns : goal.returns
unfolding distances
returns c =
    let points = c.args.points.now in
    let done : c.loop-j.j ≡ length points = omega arith in
    c.loop-j.invariant.is ∙ ap (λ n. product_except n c.args.i (λ j. bit_xor c.args.x (slice_index points j))) done
