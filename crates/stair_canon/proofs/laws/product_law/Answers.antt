use Rattle.std.proofs.Common.{◌+◌, arith}
use Rattle.stair_model.specs.Canonical.{canonical_chunks, canonical_rows}
use Rattle.stair_model.specs.Geometry.{data_chunks}
use Rattle.stair_model.specs.Matrix.{row_coefficient, column_coefficient}
use Rattle.stair_model.proofs.CanonicalLaws.{product_law, extension_rows}
use Rattle.stair_canon.proofs.laws.product_law.Goals as goal

pub returns : goal.returns
returns c = record {
  matrices = product_law;
  rows = λ g x rows chunks h below.
      product_law (data_chunks g) (canonical_chunks g) g.r (canonical_rows g) (row_coefficient g) (column_coefficient g) x
      rows chunks (g.r + h) (omega arith);
  extension = λ g w x limits bytes equations extension h below.
      extension_rows g w x limits bytes equations extension (g.r + h) (omega arith);
}
