-- The bytes so far.
use Rattle.std.proofs.Common.{take}
use Rattle.std.specs.Prelude.{All}
use Rattle.stair_conf.specs.Name.{IsNameByte}
use Rattle.stair_conf.proofs.name.are_name_bytes.Given as goal

abbrev pub invariant-loop-byte : goal.invariant-loop-byte
invariant-loop-byte l = All IsNameByte (take l.byte-index l.text)
