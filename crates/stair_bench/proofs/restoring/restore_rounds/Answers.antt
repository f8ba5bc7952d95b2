use Rattle.std.proofs.Common.{◌%◌, ◌<◌, length, subst, sym, arith}
use Rattle.std.proofs.lemmas.List.Elements.{All-get_or}
use Rattle.stair_model.specs.CellSet.{IsInStripe}
use Rattle.stair_bench.proofs.restoring.restore_rounds.Goals as goal

pub restore-requires-clause-cells : goal.restore-requires-clause-cells
restore-requires-clause-cells g c =
    let some : 0 < length c.args.patterns.now = c.requires.patterns in
    let within : c.loop-round.round % length c.args.patterns.now < length c.args.patterns.now = omega arith in
    subst (λ h. IsInStripe h c.index-patterns-round.result) (sym c.loop-round.invariant.0)
    (subst (IsInStripe c.args.geometry.now) (sym c.index-patterns-round.is)
    (All-get_or (IsInStripe c.args.geometry.now) c.args.patterns.now (c.loop-round.round % length c.args.patterns.now) _ within
    c.requires.in_stripe))
