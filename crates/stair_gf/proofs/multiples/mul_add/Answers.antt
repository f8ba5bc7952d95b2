use Rattle.std.proofs.Common.{subst, arith}
use Rattle.stair_gf.specs.AddsMultiple.{AddsMultipleWithin}
use Rattle.stair_gf.proofs.MultipleLaws.{AddsMultipleWithin-none, AddsMultiple-from_two}
use Rattle.stair_gf.proofs.multiples.mul_add.Goals as goal

pub loop-k-init : goal.loop-k-init
loop-k-init c = AddsMultipleWithin-none _ _ _ _

pub returns : goal.returns
returns c =
    let blocks : AddsMultipleWithin c.args.into.now c.mul_add_blocks-done.new.into c.args.from.now c.args.by 0 c.mul_add_blocks-done.result =
    subst (λ by. AddsMultipleWithin c.args.into.now c.mul_add_blocks-done.new.into c.args.from.now by 0 c.mul_add_blocks-done.result)
    c.new.ensures c.mul_add_blocks-done.ensures.added in
    AddsMultiple-from_two _ _ _ _ _ _ _ blocks c.loop-k.invariant (omega (arith, blocks.same_length))
