use Rattle.std.proofs.Common.{◌+◌, ◌*◌, slice_index, ap}
use Rattle.std.specs.Prelude.{bit_xor}
use Rattle.stair_model.specs.Field.{product}
use Rattle.stair_gf.proofs.LaneLaws.{AreLanes-zip2, AreLanes-same}
use Rattle.stair_gf.proofs.MultipleLaws.{AddsMultipleWithin-block}
use Rattle.stair_gf.proofs.multiples.mul_add_blocks.Goals as goal

pub loop-block-preserved : goal.loop-block-preserved
loop-block-preserved c =
    AddsMultipleWithin-block _ _ _ _ _ _ c.loop-block.block c.loop-block.invariant
    (AreLanes-same (AreLanes-zip2 bit_xor c.load.ensures c.times.ensures)
    (λ k h. ap (λ byte. bit_xor (slice_index c.loop-block.into (64 * c.loop-block.block + k)) (product c.args.by.now byte)) (c.load-in-loop-block.ensures.lane k h)))
    c.store.ensures
