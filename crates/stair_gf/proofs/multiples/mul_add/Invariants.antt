-- The bytes from the blocks' end up to k are done.
use Rattle.stair_gf.specs.AddsMultiple.{AddsMultipleWithin}
use Rattle.stair_gf.proofs.multiples.mul_add.Given as goal

abbrev pub invariant-loop-k : goal.invariant-loop-k
invariant-loop-k l = AddsMultipleWithin l.initial.into l.into l.from l.by l.initial.k l.k
