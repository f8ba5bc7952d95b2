-- A data cell more, or a parity.
use Rattle.std.proofs.Common.{arith}
use Rattle.stair_std.proofs.UnitStripes.{HasUnitBlocks-none, HasUnitBlocks-block, HasUnitBlocks-parity, AreUnitBlocks-all}
use Rattle.stair_std.proofs.units.put_unit_blocks.Goals as goal
use Rattle.stair_std.proofs.units.put_unit_blocks.Goals.{in-Some, in_default}

pub loop-number-init : goal.loop-number-init
loop-number-init c = HasUnitBlocks-none _ _ _ c.requires

pub loop-number-preserved : goal.loop-number-preserved
loop-number-preserved c =
    elim c.match-block_at.branch [
      | in-Some w ↦
          rw w.stripe-is
          (rw w.put.ensures.value
          (HasUnitBlocks-block _ _ _ _ _ _ _ _ c.row_and_slot-row.ensures.row c.row_and_slot-row.ensures.slot (omega arith)
          w.in-Some.ensures (rw (← w.put.ensures.value) w.put.ensures.well_formed) w.unit_block.ensures.bytes c.loop-number.invariant))
      | in_default w ↦
          rw w.stripe-is
          (HasUnitBlocks-parity _ _ _ _ _ _ c.row_and_slot-row.ensures.row c.row_and_slot-row.ensures.slot
          w.in_default.ensures c.loop-number.invariant)
    ]

pub returns-clause-units : goal.returns-clause-units
returns-clause-units c = AreUnitBlocks-all _ _ _ _ (omega arith) c.loop-number.invariant
