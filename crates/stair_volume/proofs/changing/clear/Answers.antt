-- One piece after the other.
use Rattle.std.proofs.Common.{◌≡◌, ◌+◌, ◌*◌, ◌^◌, ◌<◌, ◌≤◌, ap, ℕ, arith, refl, take}
use Rattle.stair_model.specs.Geometry.{Geometry, IsWithinLimits, block_count}
use Rattle.stair_model.proofs.LimitLaws.{block_count_few}
use Rattle.stair_volume.proofs.ClearLaws.{all_cleared, none_cleared, one_cleared, piece_comes, piece_inside, piece_is}
use Rattle.stair_volume.proofs.StepLaws.{comes_handed}
use Rattle.stair_volume.proofs.changing.clear.Goals as goal

pub returns-in_err-write_blocks-clause-comes : goal.returns-in_err-write_blocks-clause-comes
returns-in_err-write_blocks-clause-comes g c rest =
    let of = c.args.array.now.member.array.geometry in
    comes_handed _ of.n _ c.write_blocks.result c.from_residual.result c.in_err-write_blocks.field-0.0 rest c.in_err-write_blocks.was c.from_residual.ensures.1
    (piece_comes _ of c.args.extent.first c.args.extent.blocks _ c.loop-block.invariant (omega (arith, c.loop-block-test.true)) c.requires.within
    c.piece_blocks-piece.result
    (piece_is of c.geometry-geometry.result c.loop-block.block _ _ c.piece_blocks-piece.result c.piece_blocks-piece.ensures.value c.geometry-geometry.ensures (omega arith))
    c.args.zeros.now _ c.requires.zeros (ap (λ (n : ℕ). take (512 * n) c.args.zeros.now) c.from.ensures)
    c.write_blocks.result c.write_blocks.ensures.taken tt rest)

pub loop-block-preserved : goal.loop-block-preserved
loop-block-preserved g c =
    let of = c.args.array.now.member.array.geometry in
    one_cleared _ of c.args.extent.first c.args.extent.blocks _ c.loop-block.invariant (omega (arith, c.loop-block-test.true)) c.requires.within
    c.piece_blocks-piece.result
    (piece_is of c.geometry-geometry.result c.loop-block.block _ _ c.piece_blocks-piece.result c.piece_blocks-piece.ensures.value c.geometry-geometry.ensures (omega arith))
    c.args.zeros.now _ c.requires.zeros (ap (λ (n : ℕ). take (512 * n) c.args.zeros.now) c.from.ensures)
    c.write_blocks.result c.write_blocks.ensures.taken tt c.in_ok-write_blocks.was c.write_blocks.ensures.stay _
    (ap (λ (n : ℕ). c.loop-block.block + n) c.from-block.ensures)

pub returns-clause-comes : goal.returns-clause-comes
returns-clause-comes g c = all_cleared _ _ _ _ _ c.loop-block.invariant (omega (arith, c.loop-block-test.false))

pub loop-block-init : goal.loop-block-init
loop-block-init g c = none_cleared _ _ _ _ _ refl c.requires.stay

-- the number of each block fits
fits : (g other : Geometry) (end : ℕ) → end ≤ block_count g → IsWithinLimits other → other ≡ g → end < 2 ^ 64
fits g other end within limits same = omega (arith, within, block_count_few other limits, ap block_count same)

pub overflow_add-end : goal.overflow_add-end
overflow_add-end g c =
    omega (arith, fits c.args.array.now.member.array.geometry c.geometry-geometry.result (c.args.extent.first + c.args.extent.blocks) c.requires.within c.blocks-2.ensures.limits c.geometry-geometry.ensures)

pub overflow_add-block : goal.overflow_add-block
overflow_add-block g c =
    let of = c.args.array.now.member.array.geometry in
    let end = c.args.extent.first + c.args.extent.blocks in
    let is = piece_is of c.geometry-geometry.result c.loop-block.block end end c.piece_blocks-piece.result c.piece_blocks-piece.ensures.value c.geometry-geometry.ensures refl in
    omega (
      arith,
      piece_inside of c.loop-block.block end c.piece_blocks-piece.result c.loop-block-test.true c.requires.within is,
      fits of c.geometry-geometry.result end c.requires.within c.blocks-2.ensures.limits c.geometry-geometry.ensures,
      c.from-block.ensures,
    )
