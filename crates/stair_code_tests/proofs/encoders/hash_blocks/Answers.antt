-- A block's number is below u.
use Rattle.std.proofs.Common.{sym, arith}
use Rattle.stair_model.proofs.DataLaws.{data_in_range}
use Rattle.stair_code_tests.proofs.encoders.hash_blocks.Goals as goal

pub hash_cells-hash-requires-clause-number_in : goal.hash_cells-hash-requires-clause-number_in
hash_cells-hash-requires-clause-number_in c =
    (data_in_range _ _ _ _ c.r-row-end.ensures.limits (omega (arith, c.r-row-end.ensures.value)) (sym c.in-Block.ensures)).0
