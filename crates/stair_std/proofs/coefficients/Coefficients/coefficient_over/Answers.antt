-- A data cell's number is below u.
use Rattle.stair_model.proofs.DataLaws.{data_in_range}
use Rattle.stair_std.proofs.coefficients.Coefficients.coefficient_over.Goals as goal

pub coefficient-requires-clause-block_in : goal.coefficient-requires-clause-block_in
coefficient-requires-clause-block_in c =
    (data_in_range _ _ _ _ c.part.ensures.well_formed.limits c.requires.row_in c.in-Block.ensures.part).0
