-- The sum over the rows so far.
use Rattle.stair_model.specs.Field.{product}
use Rattle.stair_model.specs.Matrix.{column_coefficient}
use Rattle.stair_model.specs.Stripe.{symbol_byte}
use Rattle.stair_gf.proofs.SectorSums.{IsSumOf}
use Rattle.stair_base.proofs.equations.global_sum.Given as goal

abbrev pub invariant-loop-row : goal.invariant-loop-row
invariant-loop-row l = IsSumOf l.sum l.row (λ p i. product (column_coefficient l.geometry l.h i) (symbol_byte l.symbols p i))
