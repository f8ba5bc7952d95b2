-- The blocks below this one are done.
use Rattle.std.proofs.Common.{◌*◌}
use Rattle.stair_gf.specs.AddsMultiple.{AddsMultipleWithin}
use Rattle.stair_gf.proofs.multiples.mul_add_blocks.Given as goal

abbrev pub invariant-loop-block : goal.invariant-loop-block
invariant-loop-block l = AddsMultipleWithin l.initial.into l.into l.from l.by 0 (64 * l.block)
