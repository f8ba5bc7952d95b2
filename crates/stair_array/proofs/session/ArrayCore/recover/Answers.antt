-- An epoch, the gates, and what they say to be done.
use Rattle.std.proofs.Common.{◌∙◌}
use Rattle.stair_rack.specs.Told.{told}
use Rattle.stair_invariant.specs.Effects.{snapshot}
use Rattle.stair_array.proofs.OutLemmas.{fence_geometry}
use Rattle.stair_array.proofs.RecoveryLemmas.{epoch_refused, gates_unread, journal_cleared, no_epoch}
use Rattle.stair_array.proofs.session.ArrayCore.recover.Goals as goal

pub returns-in_err-establish-clause-does : goal.returns-in_err-establish-clause-does
returns-in_err-establish-clause-does g c =
    no_epoch _ c.empty.ensures.none c.empty.ensures.well_formed _ _ (snapshot c.args.self.now.member (told g.R.Rack c.args.rack.now))
    (snapshot c.establish.new.self.member (told g.R.Rack c.establish.new.rack)) _ (epoch_refused _ _ _ c.from_residual.ensures.1)
    c.in_err-establish.ensures.does

pub returns-in_err-gates-clause-does : goal.returns-in_err-gates-clause-does
returns-in_err-gates-clause-does g c =
    gates_unread _ c.empty.ensures.none c.empty.ensures.well_formed _ _ (snapshot c.args.self.now.member (told g.R.Rack c.args.rack.now))
    (snapshot c.establish.new.self.member (told g.R.Rack c.establish.new.rack)) _ c.in_ok-establish.ensures.does
    (snapshot c.find_redo.new.self.member (told g.R.Rack c.find_redo.new.rack)) _ (epoch_refused _ _ _ c.from_residual-in_err-gates.ensures.1)
    c.in_err-gates.ensures.does

pub returns-clause-does : goal.returns-clause-does
returns-clause-does g c =
    journal_cleared _ c.empty.ensures.none c.empty.ensures.well_formed _ _ (snapshot c.args.self.now.member (told g.R.Rack c.args.rack.now))
    (snapshot c.establish.new.self.member (told g.R.Rack c.establish.new.rack)) _ c.in_ok-establish.ensures.does
    (snapshot c.find_redo.new.self.member (told g.R.Rack c.find_redo.new.rack)) _ _
    (snapshot c.clear_journal.new.self.member (told g.R.Rack c.clear_journal.new.rack)) _
    (c.find_redo.ensures.geometry ∙ fence_geometry _ _ _ _ _ _ c.in_ok-establish.ensures.does) c.in_ok-gates.ensures.does c.clear_journal.ensures.does
