-- The body is written, the gates are opened, and then the redo is finished.
use Rattle.std.proofs.Common.{◌∙◌}
use Rattle.stair_rack.specs.Told.{told}
use Rattle.stair_invariant.specs.Effects.{snapshot}
use Rattle.stair_array.proofs.OutLemmas.{handed_on}
use Rattle.stair_array.proofs.RedoLemmas.{body_stops, commit_stops, committed_goes}
use Rattle.stair_array.proofs.session.ArrayCore.redo.Goals as goal

pub returns-in_err-put_body-clause-does : goal.returns-in_err-put_body-clause-does
returns-in_err-put_body-clause-does g c =
    body_stops c.args.redo.now c.args.self.now.stripe (snapshot c.args.self.now.member (told g.R.Rack c.args.rack.now)) _ _
    (snapshot c.put_body.new.self.member (told g.R.Rack c.put_body.new.rack)) (handed_on _ _ c.from_residual.ensures.1)
    c.in_err-put_body.ensures.does

pub returns-in_err-commit-clause-does : goal.returns-in_err-commit-clause-does
returns-in_err-commit-clause-does g c =
    commit_stops c.args.redo.now c.args.self.now.stripe (snapshot c.args.self.now.member (told g.R.Rack c.args.rack.now)) _
    (snapshot c.put_body.new.self.member (told g.R.Rack c.put_body.new.rack)) c.put_body.ensures.geometry c.put_body.new.self.stripe
    c.in_ok-put_body.ensures.does _ (snapshot c.commit.new.self.member (told g.R.Rack c.commit.new.rack))
    (handed_on _ _ c.from_residual-in_err-commit.ensures.1) c.in_err-commit.ensures.does

pub returns-clause-does : goal.returns-clause-does
returns-clause-does g c =
    committed_goes c.args.redo.now c.args.self.now.stripe (snapshot c.args.self.now.member (told g.R.Rack c.args.rack.now)) _
    (snapshot c.put_body.new.self.member (told g.R.Rack c.put_body.new.rack)) c.put_body.ensures.geometry c.put_body.new.self.stripe
    c.in_ok-put_body.ensures.does (snapshot c.commit.new.self.member (told g.R.Rack c.commit.new.rack))
    (snapshot c.finish.new.self.member (told g.R.Rack c.finish.new.rack)) c.commit.new.self.stripe
    (c.commit.ensures.geometry ∙ c.put_body.ensures.geometry) (c.commit.ensures.stripe ∙ c.put_body.ensures.stripe) c.in_ok-commit.ensures.does
    c.finish.ensures.does
