-- No chunk, and one chunk more.
use Rattle.std.proofs.Common.{ap, ap₂, slice_index}
use Rattle.stair_model.specs.Field.{product}
use Rattle.stair_gf.proofs.SectorSums.{IsSumOf-none, IsSumOf-more}
use Rattle.stair_base.proofs.equations.row_sum.Goals as goal

pub loop-chunk-init : goal.loop-chunk-init
loop-chunk-init c = IsSumOf-none _

pub loop-chunk-preserved : goal.loop-chunk-preserved
loop-chunk-preserved c =
    IsSumOf-more _ _ _ _ _ _ c.loop-chunk.invariant c.mul_add.ensures
    (λ p h. ap₂ product c.row_coefficient.ensures (ap (λ bytes. slice_index bytes p) c.cell.ensures.value))
