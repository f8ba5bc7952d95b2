-- The points differ; one entry more.
use Rattle.std.proofs.Common.{arith, length}
use Rattle.stair_cauchy.proofs.Filling.{HasPushed-all, HasPushed-more, points_apart}
use Rattle.stair_cauchy.proofs.Nonsingular.{SquaresAreNonsingular-cauchy}
use Rattle.stair_cauchy.proofs.Matrix.cauchy.Goals as goal

pub inv-requires : goal.inv-requires
inv-requires c = points_apart c.args.xs.now c.args.ys.now c.loop-x.x-index c.loop-y.y-index c.requires.distinct (omega arith) (omega arith)

pub loop-y-preserved : goal.loop-y-preserved
loop-y-preserved c =
    rw c.in_ok-push.ensures.items
    (HasPushed-more c.args.xs.now c.args.ys.now _ c.loop-x.x-index c.loop-y.y-index _ (omega arith) c.inv.ensures c.loop-y.invariant)

pub returns-clause-nonsingular : goal.returns-clause-nonsingular
returns-clause-nonsingular c =
    SquaresAreNonsingular-cauchy c.args.xs.now c.args.ys.now c.requires.distinct
    (record { rows = length c.args.xs.now; columns = length c.args.ys.now; entries = c.loop-x.entries.items })
    (HasPushed-all c.args.xs.now c.args.ys.now c.loop-x.entries.items c.loop-x.x-index c.loop-x-test.false c.loop-x.invariant)
    (λ k below. omega (arith, c.type_inv.xs k))
    (λ k below. omega (arith, c.type_inv.ys k))
