-- What the read answered.
use Rattle.std.proofs.Common.{refl}
use Rattle.stair_member.proofs.ProbeLemmas.{probed_bad, probed_block, probed_gone, probed_nothing}
use Rattle.stair_member.proofs.probe.read_place.Goals as goal

pub returns-in-Some-clause-does : goal.returns-in-Some-clause-does
returns-in-Some-clause-does g c =
    probed_block _ _ _ _ _ _ _ _ _ c.in-Good.ensures.began c.in-Good.ensures.counts c.read.new.into c.in-Some.block c.in-Good.ensures.does
    (λ honest. c.in-Good.ensures.good honest refl) c.in-Some.ensures.ok

pub returns-in-None-clause-does : goal.returns-in-None-clause-does
returns-in-None-clause-does g c =
    probed_nothing _ _ _ _ _ _ _ _ _ c.in-Good.ensures.began c.in-Good.ensures.counts c.read.new.into c.in-Good.ensures.does
    (λ honest. c.in-Good.ensures.good honest refl) (c.in-None.ensures.none refl)

pub returns-in-Bad-clause-does : goal.returns-in-Bad-clause-does
returns-in-Bad-clause-does g c =
    probed_bad _ _ _ _ _ _ _ _ _ c.in-Bad.ensures.began c.in-Bad.ensures.counts c.in-Bad.ensures.does (c.in-Bad.ensures.bad refl)

pub returns-in-Gone-clause-does : goal.returns-in-Gone-clause-does
returns-in-Gone-clause-does g c =
    probed_gone _ _ _ _ _ _ _ _ _ c.in-Gone.ensures.began c.in-Gone.ensures.counts c.in-Gone.ensures.does (c.in-Gone.ensures.gone refl)
