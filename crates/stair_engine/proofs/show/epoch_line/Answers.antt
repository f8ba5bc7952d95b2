-- The name and the number, and the end of the line.
use Rattle.std.proofs.Common.{append_assoc}
use Rattle.stair_engine.proofs.show.epoch_line.Goals as goal

pub returns : goal.returns
returns c = simp (c.push.ensures.text, c.push_named.ensures.text, c.new-line.ensures.text, append_assoc)
