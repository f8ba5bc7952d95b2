-- The step of block 0.
use Rattle.std.proofs.Common.{arith}
use Rattle.stair_volume.proofs.StepLaws.{comes_block}
use Rattle.stair_volume.proofs.changing.set_table.Goals as goal

pub returns-clause-comes : goal.returns-clause-comes
returns-clause-comes g c rest =
    comes_block _ _ 0 c.write_table.result _ c.write_blocks.result rest (omega arith) c.write_table.ensures c.write_blocks.ensures.taken
