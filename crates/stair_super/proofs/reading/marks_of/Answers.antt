-- One mark more.
use Rattle.std.proofs.Common.{Some, ap, ◌∙◌, arith}
use Rattle.std.proofs.lemmas.List.{length-set}
use Rattle.stair_super.specs.declared.mark.Mark.TheVariants.{Down}
use Rattle.stair_super.specs.Superblock.{mark_at}
use Rattle.stair_super.proofs.Fields.{stored_more, all_stored}
use Rattle.stair_super.proofs.reading.marks_of.Goals as goal

pub loop-slot-preserved : goal.loop-slot-preserved
loop-slot-preserved c = record {
  sized = length-set c.loop-slot.marks c.loop-slot.slot c.in_ok-marks.field-0 ∙ c.loop-slot.invariant.sized;
  read = λ s spells same.
      let read = c.in_ok-marks.ensures s spells same in
      stored_more c.loop-slot.marks c.loop-slot.slot c.in_ok-marks.field-0 Down (mark_at s) (omega arith) (c.loop-slot.invariant.read s spells same) cc;
}

pub returns : goal.returns
returns c = λ s spells same.
    ap Some (all_stored c.loop-slot.marks s.array.marks Down c.loop-slot.slot c.loop-slot-test.false c.loop-slot.invariant.sized spells.block.sizes.marks (c.loop-slot.invariant.read s spells same))
