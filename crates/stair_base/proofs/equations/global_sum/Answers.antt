-- No row, and one row more.
use Rattle.std.proofs.Common.{ap, ap₂}
use Rattle.stair_model.specs.Field.{product}
use Rattle.stair_model.specs.Stripe.{symbol_byte}
use Rattle.stair_gf.proofs.SectorSums.{IsSumOf-none, IsSumOf-more}
use Rattle.stair_base.proofs.equations.global_sum.Goals as goal

pub loop-row-init : goal.loop-row-init
loop-row-init c = IsSumOf-none _

pub loop-row-preserved : goal.loop-row-preserved
loop-row-preserved c =
    IsSumOf-more _ _ _ _ _ _ c.loop-row.invariant c.mul_add.ensures
    (λ p h. ap₂ product c.column_coefficient.ensures (ap (symbol_byte c.args.symbols.now p) c.from.ensures))
