-- The name, the digits, and the end of the line.
use Rattle.std.proofs.Common.{append_assoc}
use Rattle.stair_engine.proofs.show.array_line.Goals as goal

pub returns : goal.returns
returns c =
    simp (c.push-3.ensures.text, c.push-2.ensures.text, c.push.ensures.text, c.new-line.ensures.text, c.identity_digits.ensures, c.id.ensures.value, append_assoc)
