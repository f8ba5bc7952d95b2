-- The bytes so far.
use Rattle.std.proofs.Common.{take}
use Rattle.std.specs.Prelude.{All}
use Rattle.stair_super.specs.Label.{IsPrintable}
use Rattle.stair_super.proofs.label.is_printable.Given as goal

abbrev pub invariant-loop-byte : goal.invariant-loop-byte
invariant-loop-byte l = All IsPrintable (take l.byte-index l.text)
