-- All of the medium is left.
use Rattle.std.proofs.Common.{reverse, Some, sym, subst}
use Rattle.stair_memrack.specs.Left.{writes_of, IsMediumLeft}
use Rattle.stair_memrack.proofs.LeftLemmas.{IsMediumLeft-all}
use Rattle.stair_memrack.proofs.crash.left_of_medium.Goals as goal

pub returns-in_ok-cells-in-Some-clause-left : goal.returns-in_ok-cells-in-Some-clause-left
returns-in_ok-cells-in-Some-clause-left c =
    let w = writes_of (reverse c.args.log.now.items) c.args.slot in
    let cells = c.in_ok-cells-in-Some.cells in
    subst (λ m. IsMediumLeft w c.args.picks.now c.args.before m (Some cells)) (sym c.in-Some.is)
    (IsMediumLeft-all w c.args.picks.now c.args.before c.in-Some.disk cells c.in_ok-cells-in-Some.ensures.left)
