-- The code's shape and its places stay the same.
use Rattle.std.proofs.Common.{sym, subst}
use Rattle.stair_model.specs.CauchyCode.{AreKnownPlaces}
use Rattle.stair_mds.specs.Solving.{AreWantedPlaces}
use Rattle.stair_bench.proofs.rounds.solve_rounds.Goals as goal

pub solve-requires-clause-known : goal.solve-requires-clause-known
solve-requires-clause-known g c =
    subst (λ h. AreKnownPlaces h.held h.total c.args.known.now) (sym c.loop-round.invariant.0) c.requires.known

pub solve-requires-clause-wanted : goal.solve-requires-clause-wanted
solve-requires-clause-wanted g c =
    subst (λ h. AreWantedPlaces h c.args.known.now c.args.wanted.now) (sym c.loop-round.invariant.0) c.requires.wanted
