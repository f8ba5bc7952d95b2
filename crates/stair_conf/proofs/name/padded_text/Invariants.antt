-- The bytes so far, with zeros after them.
use Rattle.std.proofs.Common.{◌≡◌, ◌-◌, ◌++◌, take, replicate}
use Rattle.stair_conf.proofs.name.padded_text.Given as goal

abbrev pub invariant-loop-at : goal.invariant-loop-at
invariant-loop-at l = l.bytes ≡ take l.at l.text ++ replicate (16 - l.at) 0
