-- A data cell more, or a parity.
use Rattle.std.proofs.Common.{List, [], sym, subst, ap, arith}
use Rattle.stair_std.proofs.Parts.{HasParts, HasParts-none, HasParts-block, HasParts-parity, parities_few, AreParts-all}
use Rattle.stair_std.proofs.cells.parts_of.Goals as goal
use Rattle.stair_std.proofs.cells.parts_of.Goals.{in-Some+in_ok-push-in-Some, in-None+in_ok-push-in-None}

pub loop-number-init : goal.loop-number-init
loop-number-init c = rw c.in_ok-parts.ensures.items (HasParts-none c.args.geometry.now)

pub overflow_add-parities : goal.overflow_add-parities
overflow_add-parities c =
    omega (
      arith,
      c.cell_count-count.ensures.few,
      parities_few _ _ _ _ _ _ c.loop-number.parts.items c.row_and_slot-row.ensures.row c.row_and_slot-row.ensures.slot
          c.loop-number.invariant,
    )

pub loop-number-preserved : goal.loop-number-preserved
loop-number-preserved c =
    elim c.match-block_at.branch [
      | in-Some+in_ok-push-in-Some w ↦
          rw (w.parts-is, w.parities-is)
          (HasParts-block _ _ _ _ _ _ _ c.row_and_slot-row.ensures.row c.row_and_slot-row.ensures.slot c.loop-number.invariant _
          w.in-Some.ensures w.in_ok-push-in-Some.ensures.items)
      | in-None+in_ok-push-in-None w ↦
          rw (w.parts-is, w.parities-is)
          (HasParts-parity _ _ _ _ _ _ _ c.row_and_slot-row.ensures.row c.row_and_slot-row.ensures.slot c.loop-number.invariant
          w.in-None.ensures w.in_ok-push-in-None.ensures.items)
    ]

pub returns : goal.returns
returns c =
    AreParts-all _ _ _ _ (omega (arith, c.cell_count-count.ensures.value)) c.loop-number.invariant
