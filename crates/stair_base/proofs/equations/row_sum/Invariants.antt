-- The sum over the chunks so far.
use Rattle.stair_model.specs.Field.{product}
use Rattle.stair_model.specs.Matrix.{row_coefficient}
use Rattle.stair_model.specs.Stripe.{byte_of}
use Rattle.stair_gf.proofs.SectorSums.{IsSumOf}
use Rattle.stair_base.proofs.equations.row_sum.Given as goal

abbrev pub invariant-loop-chunk : goal.invariant-loop-chunk
invariant-loop-chunk l = IsSumOf l.sum l.chunk (λ p j. product (row_coefficient l.geometry l.k j) (byte_of l.stripe p l.row j))
