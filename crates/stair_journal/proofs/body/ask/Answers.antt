-- What the read answered.
use Rattle.std.proofs.Common.{inr, refl}
use Rattle.std.proofs.lemmas.Bool.{false≢true}
use Rattle.stair_rack.proofs.RackStateLemmas.{gone_to_read, reading_bad, reading_good}
use Rattle.stair_journal.specs.Reads.{AnswersBad, AnswersGone}
use Rattle.stair_journal.proofs.AskLemmas.{asks_kept, asks_lost}
use Rattle.stair_journal.proofs.body.ask.Goals as goal

pub returns-in-Good-clause-asks : goal.returns-in-Good-clause-asks
returns-in-Good-clause-asks g c =
    asks_kept c.args.live c.args.gone.now c.args.slot c.args.sector _ _ _ _ _ _ _ _ (c.if-not-has.ensures.member.0 refl) c.in-Good.ensures.does
    c.in-Good.ensures.counts

pub returns-in-Good-clause-does : goal.returns-in-Good-clause-does
returns-in-Good-clause-does g c = (
  c.if-not-has.ensures.member.0 refl,
  reading_good g.R.Rack.is_honest (g.R.Rack.history c.args.rack.now) (g.R.Rack.history c.read.new.self) (g.R.Rack.bads c.args.rack.now)
      (g.R.Rack.bads c.read.new.self) (g.R.Rack.gones c.args.rack.now) (g.R.Rack.gones c.read.new.self) c.args.slot c.args.sector c.read.new.into
      c.in-Good.ensures.does (λ honest. c.in-Good.ensures.good honest refl),
)

pub returns-in-Bad-clause-asks : goal.returns-in-Bad-clause-asks
returns-in-Bad-clause-asks g c =
    asks_kept c.args.live c.args.gone.now c.args.slot c.args.sector _ _ _ _ _ _ _ _ (c.if-not-has.ensures.member.0 refl) c.in-Bad.ensures.does
    c.in-Bad.ensures.counts

pub returns-in-Bad-clause-does : goal.returns-in-Bad-clause-does
returns-in-Bad-clause-does g c on =
    inr
    (reading_bad g.R.Rack.is_honest (g.R.Rack.history c.args.rack.now) (g.R.Rack.history c.read.new.self) (g.R.Rack.bads c.args.rack.now)
    (g.R.Rack.bads c.read.new.self) (g.R.Rack.gones c.args.rack.now) (g.R.Rack.gones c.read.new.self) c.args.slot c.args.sector c.in-Bad.ensures.began
    c.in-Bad.ensures.does (c.in-Bad.ensures.bad refl))

pub returns-in-Gone-clause-asks : goal.returns-in-Gone-clause-asks
returns-in-Gone-clause-asks g c =
    asks_lost c.args.live c.args.gone.now c.args.slot c.args.sector _ _ _ _ _ _ _ _ (c.if-not-has.ensures.member.0 refl) c.in-Gone.ensures.does
    c.in-Gone.ensures.counts c.add.new.self c.add.ensures.well_formed c.add.ensures.members
    (gone_to_read _ _ _ _ _ _ _ _ _ c.in-Gone.ensures.does (c.in-Gone.ensures.gone refl))

pub returns-in-Good-clause-in_turn : goal.returns-in-Good-clause-in_turn
returns-in-Good-clause-in_turn g c honest = record {
  there = (c.if-not-has.ensures.member.0 refl, λ has. false≢true (c.if-has.ensures.member.1 has));
  called = c.in-Good.ensures.does honest;
  found = c.in-Good.ensures.good honest refl;
  gone = refl;
}

pub returns-in-Bad-clause-in_turn : goal.returns-in-Bad-clause-in_turn
returns-in-Bad-clause-in_turn g c honest =
    AnswersBad (c.if-not-has.ensures.member.0 refl, λ has. false≢true (c.if-has.ensures.member.1 has)) (c.in-Bad.ensures.does honest) refl

pub returns-in-Gone-clause-in_turn : goal.returns-in-Gone-clause-in_turn
returns-in-Gone-clause-in_turn g c honest =
    AnswersGone (c.if-not-has.ensures.member.0 refl, λ has. false≢true (c.if-has.ensures.member.1 has)) (c.in-Gone.ensures.does honest) c.add.ensures.members
