-- A write, and where it was done a sync.
use Rattle.std.proofs.Common.{sym, ◌∙◌}
use Rattle.stair_rack.proofs.PassCounts.{Gone-compared, Done-compared}
use Rattle.stair_rack.proofs.PlacedLemmas.{Placed-one, Placed-one_gone}
use Rattle.stair_rack.proofs.through.write_through.Goals as goal

pub returns-then-eq-clause-does : goal.returns-then-eq-clause-does
returns-then-eq-clause-does g c honest =
    let gone = Gone-compared c.write.result (sym c.eq.ensures ∙ c.if-eq.true) in
    Placed-one_gone c.args.slot c.args.sector c.args.from.now _ _ (rw gone at (c.write.ensures.does honest))

pub returns-clause-does : goal.returns-clause-does
returns-clause-does g c honest =
    let done = Done-compared c.write.result (sym c.eq.ensures ∙ c.if-eq.false) in
    Placed-one c.args.slot c.args.sector c.args.from.now _ _ _ c.sync.result (rw done at (c.write.ensures.does honest)) (c.sync.ensures.does honest)
