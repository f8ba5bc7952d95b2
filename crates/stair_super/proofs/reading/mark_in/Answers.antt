use Rattle.stair_super.specs.Superblock.{mark_at}
use Rattle.stair_super.proofs.Fields.{mark_is, within}
use Rattle.stair_super.proofs.reading.mark_in.Goals as goal

pub returns-then-slot-n : goal.returns-then-slot-n
returns-then-slot-n c = λ s spells same.
    c.mark_of.ensures (mark_at s c.args.slot) (mark_is c.args.bytes.now s c.args.slot spells c.requires (within _ _ _ c.if-slot-n.true same))
