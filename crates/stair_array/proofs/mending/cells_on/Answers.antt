-- The cells of the next slot, where it is one of them.
use Rattle.std.proofs.Common.{sym, ◌∙◌}
use Rattle.std.proofs.lemmas.Bool.{false≢true}
use Rattle.stair_array.proofs.MendingLemmas.{slot_kept, slot_more}
use Rattle.stair_array.proofs.mending.cells_on.Goals as goal
use Rattle.stair_array.proofs.mending.cells_on.Goals.{then-has, else-has}

pub loop-slot-preserved : goal.loop-slot-preserved
loop-slot-preserved c =
    elim c.if-has.branch [
      | then-has w ↦
          rw w.on-is
          record {
            formed = w.add_chunk.ensures.formed;
            members =
                slot_more c.args.cells.now c.loop-slot.on c.args.slots.now c.loop-slot.slot c.loop-slot.invariant.members _
                (c.has.ensures.member.0 w.if-has.true) w.add_chunk.ensures.members;
          }
      | else-has w ↦
          rw w.on-is
          record {
            formed = c.loop-slot.invariant.formed;
            members =
                slot_kept c.args.cells.now c.loop-slot.on c.args.slots.now c.loop-slot.slot c.loop-slot.invariant.members
                (λ has. false≢true (sym w.if-has.false ∙ c.has.ensures.member.1 has));
          }
    ]
