-- What the read answered.
use Rattle.std.proofs.Common.{refl}
use Rattle.stair_rack.specs.declared.rack.Got.TheVariants as got
use Rattle.stair_rack.proofs.RackStateLemmas.{gone_to_read}
use Rattle.stair_journal.proofs.GatesLemmas.{bad_closed, gate_bad, gate_good}
use Rattle.stair_journal.proofs.gates.look_at.Goals as goal

pub returns-in-Some-clause-does : goal.returns-in-Some-clause-does
returns-in-Some-clause-does g c =
    gate_good _ _ _ _ _ _ _ _ _ c.read.new.into c.in-Good.ensures.does (λ honest. c.in-Good.ensures.good honest refl) c.in-Some.ensures.open

pub returns-in-Some-clause-once : goal.returns-in-Some-clause-once
returns-in-Some-clause-once g c honest = record {
  answer = got.Good;
  is_gone = (λ is. absurd (cc), λ is. absurd (cc));
  called = c.in-Good.ensures.does honest;
}

pub returns-in-None-clause-does : goal.returns-in-None-clause-does
returns-in-None-clause-does g c =
    gate_good _ _ _ _ _ _ _ _ _ c.read.new.into c.in-Good.ensures.does (λ honest. c.in-Good.ensures.good honest refl)
    (c.in-None.ensures.closed refl)

pub returns-in-None-clause-once : goal.returns-in-None-clause-once
returns-in-None-clause-once g c honest = record {
  answer = got.Good;
  is_gone = (λ is. absurd (cc), λ is. absurd (cc));
  called = c.in-Good.ensures.does honest;
}

pub returns-in-Bad-clause-does : goal.returns-in-Bad-clause-does
returns-in-Bad-clause-does g c =
    gate_bad _ _ _ _ _ _ _ _ _ c.in-Bad.ensures.began c.in-Bad.ensures.does (c.in-Bad.ensures.bad refl) (bad_closed c.args.geometry.now)

pub returns-in-Bad-clause-once : goal.returns-in-Bad-clause-once
returns-in-Bad-clause-once g c honest = record {
  answer = got.Bad;
  is_gone = (λ is. absurd (cc), λ is. absurd (cc));
  called = c.in-Bad.ensures.does honest;
}

pub returns-in-Gone-clause-does : goal.returns-in-Gone-clause-does
returns-in-Gone-clause-does g c = gone_to_read _ _ _ _ _ _ _ _ _ c.in-Gone.ensures.does (c.in-Gone.ensures.gone refl)

pub returns-in-Gone-clause-once : goal.returns-in-Gone-clause-once
returns-in-Gone-clause-once g c honest = record { answer = got.Gone; is_gone = (λ is. refl, λ is. refl); called = c.in-Gone.ensures.does honest }
