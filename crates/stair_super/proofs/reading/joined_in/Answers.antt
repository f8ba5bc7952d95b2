use Rattle.std.proofs.Common.{◌∙◌}
use Rattle.stair_super.proofs.Fields.{joined_at_is, within}
use Rattle.stair_super.proofs.reading.joined_in.Goals as goal

pub returns-then-slot-n : goal.returns-then-slot-n
returns-then-slot-n c = λ s spells same.
    c.u64_at.ensures ∙ joined_at_is c.args.bytes.now s c.args.slot spells c.requires (within _ _ _ c.if-slot-n.true same)
