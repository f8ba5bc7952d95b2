-- No factor, one factor more, and the whole product.
use Rattle.std.proofs.Common.{◌≡◌, refl, ap, ◌∙◌, arith}
use Rattle.std.specs.Prelude.{bit_xor}
use Rattle.stair_model.specs.Sum.{product_except}
use Rattle.stair_mds.specs.Lagrange.{weight}
use Rattle.stair_mds.proofs.Products.{IsProductOf-none, IsProductOf-same, IsProductOf-more}
use Rattle.stair_mds.proofs.distances.weight.Goals as goal
use Rattle.stair_mds.proofs.distances.weight.Goals.{then-c-place, else-c-place}

pub loop-c-init : goal.loop-c-init
loop-c-init c = IsProductOf-none _ _

pub loop-c-preserved : goal.loop-c-preserved
loop-c-preserved c =
    elim c.if-c-place.branch [
      | then-c-place w ↦
          rw (w.product-is ∙ w.mul-product.ensures) (IsProductOf-more _ _ _ _ _ w.if-c-place.true refl c.loop-c.invariant)
      | else-c-place w ↦ rw w.product-is (IsProductOf-same _ _ _ _ w.if-c-place.false c.loop-c.invariant)
    ]

pub returns : goal.returns
unfolding weight
returns c =
    let done : c.loop-c.c ≡ c.args.held = omega arith in
    c.loop-c.invariant.is ∙ ap (λ n. product_except n c.args.place (λ p. bit_xor c.args.place p)) done
