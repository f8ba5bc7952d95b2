-- Where no redo was found the gates are closed; else its body is read, and it is done again.
use Rattle.std.proofs.Common.{None, refl}
use Rattle.std.specs.Prelude.{Err, Ok}
use Rattle.stair_rack.specs.Told.{told}
use Rattle.stair_invariant.specs.Effects.{snapshot}
use Rattle.stair_array.specs.declared.fault.RecoverFault.TheVariants as fault
use Rattle.stair_array.proofs.RecoveryLemmas.{body_lost, body_stops, epoch_refused, journal_closed, journal_replayed, none_left}
use Rattle.stair_array.proofs.session.ArrayCore.clear_journal.Goals as goal

pub returns-in_err-close-clause-does : goal.returns-in_err-close-clause-does
returns-in_err-close-clause-does g c =
    journal_closed _ _ _ (snapshot c.args.self.now.member (told g.R.Rack c.args.rack.now))
    (snapshot c.close.new.self.member (told g.R.Rack c.close.new.rack)) (none_left _ c.in_default.not-Some) _
    (epoch_refused _ _ _ c.from_residual.ensures.1) c.in_err-close.ensures.does

pub returns-in_default-clause-does : goal.returns-in_default-clause-does
returns-in_default-clause-does g c =
    journal_closed _ _ (Ok tt) (snapshot c.args.self.now.member (told g.R.Rack c.args.rack.now))
    (snapshot c.close.new.self.member (told g.R.Rack c.close.new.rack)) (none_left _ c.in_default.not-Some) None refl c.in_ok-close.ensures.does

pub returns-in_err-body-clause-does : goal.returns-in_err-body-clause-does
returns-in_err-body-clause-does g c =
    body_stops _ _ _ (snapshot c.args.self.now.member (told g.R.Rack c.args.rack.now))
    (snapshot c.find_body.new.self.member (told g.R.Rack c.find_body.new.rack)) _ c.in-Some.is _ _ _
    (epoch_refused _ _ _ c.from_residual-in_err-body.ensures.1) c.in_err-body.ensures.does

pub returns-in-Some-unread-clause-does : goal.returns-in-Some-unread-clause-does
returns-in-Some-unread-clause-does g c =
    body_lost _ _ (Err (fault.JournalLost c.in-Some-unread.sector)) (snapshot c.args.self.now.member (told g.R.Rack c.args.rack.now))
    (snapshot c.find_body.new.self.member (told g.R.Rack c.find_body.new.rack)) _ c.in-Some.is _ _ _ _ (_, refl, refl)
    c.in_ok-body.ensures.does c.in-Some-unread.is

pub returns-in_err-replay-clause-does : goal.returns-in_err-replay-clause-does
returns-in_err-replay-clause-does g c =
    journal_replayed _ _ _ (snapshot c.args.self.now.member (told g.R.Rack c.args.rack.now))
    (snapshot c.replay.new.self.member (told g.R.Rack c.replay.new.rack)) _ c.in-Some.is _ _ _
    (snapshot c.find_body.new.self.member (told g.R.Rack c.find_body.new.rack)) _
    (epoch_refused _ _ _ c.from_residual-in_err-replay.ensures.1) c.in_ok-body.ensures.does (none_left _ c.in_default-unread.not-Some)
    c.in_err-replay.ensures.does

pub returns-clause-does : goal.returns-clause-does
returns-clause-does g c =
    journal_replayed _ _ (Ok tt) (snapshot c.args.self.now.member (told g.R.Rack c.args.rack.now))
    (snapshot c.replay.new.self.member (told g.R.Rack c.replay.new.rack)) _ c.in-Some.is _ _ _
    (snapshot c.find_body.new.self.member (told g.R.Rack c.find_body.new.rack)) None refl c.in_ok-body.ensures.does
    (none_left _ c.in_default-unread.not-Some) c.in_ok-replay.ensures.does
