-- One joined number more.
use Rattle.std.proofs.Common.{◌∙◌, arith}
use Rattle.std.proofs.lemmas.List.{length-set}
use Rattle.stair_super.specs.Superblock.{joined_at}
use Rattle.stair_super.proofs.Fields.{stored_more, all_stored}
use Rattle.stair_super.proofs.reading.joins_of.Goals as goal

pub loop-slot-preserved : goal.loop-slot-preserved
loop-slot-preserved c = record {
  sized = length-set c.loop-slot.joins c.loop-slot.slot c.joined_in.result ∙ c.loop-slot.invariant.sized;
  read = λ s spells same.
      stored_more c.loop-slot.joins c.loop-slot.slot c.joined_in.result 0 (joined_at s) (omega arith) (c.loop-slot.invariant.read s spells same) (c.joined_in.ensures s spells same);
}

pub returns : goal.returns
returns c = λ s spells same.
    all_stored c.loop-slot.joins s.array.joins 0 c.loop-slot.slot c.loop-slot-test.false c.loop-slot.invariant.sized spells.block.sizes.joins (c.loop-slot.invariant.read s spells same)
