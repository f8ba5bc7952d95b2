-- The cells so far.
use Rattle.stair_std.proofs.Parts.{HasParts}
use Rattle.stair_std.proofs.cells.parts_of.Given as goal

abbrev pub invariant-loop-number : goal.invariant-loop-number
invariant-loop-number l = HasParts l.geometry l.number l.parities l.parts.items
