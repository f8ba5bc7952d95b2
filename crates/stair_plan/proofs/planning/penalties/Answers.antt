-- The first block, and one more each time.
use Rattle.std.proofs.Common.{◌≡◌, ℕ, subst, arith}
use Rattle.stair_model.specs.Geometry.{data_cells}
use Rattle.stair_plan.specs.Penalty.{ArePenalties}
use Rattle.stair_plan.proofs.PenaltyLemmas.{ArePenalties-first, ArePenalties-more}
use Rattle.stair_plan.proofs.planning.penalties.Goals as goal

pub loop-block-init : goal.loop-block-init
loop-block-init c = ArePenalties-first c.args.geometry.now c.penalty-least.result c.penalty-least.ensures

pub loop-block-preserved : goal.loop-block-preserved
loop-block-preserved c =
    ArePenalties-more c.args.geometry.now c.loop-block.block c.loop-block.least c.loop-block.greatest c.penalty-penalty.result
    c.loop-block.invariant c.penalty-penalty.ensures c.min-least.result c.max-greatest.result c.min-least.ensures c.max-greatest.ensures

pub returns : goal.returns
returns c =
    let blocks : data_cells c.args.geometry.now ≡ c.u-blocks.result = omega (arith, c.u-blocks.ensures.value) in
    let some = c.u-blocks.ensures.limits.blocks in
    let all : c.loop-block.block ≡ data_cells c.args.geometry.now = omega (arith, blocks, some, c.loop-block-test.false, c.loop-block.auto.block-end) in
    subst (λ (n : ℕ). ArePenalties c.args.geometry.now n c.loop-block.least c.loop-block.greatest) all c.loop-block.invariant
