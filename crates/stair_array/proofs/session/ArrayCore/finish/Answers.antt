-- The cells are placed, and then the gates are closed.
use Rattle.stair_rack.specs.Told.{told}
use Rattle.stair_invariant.specs.Effects.{snapshot}
use Rattle.stair_array.proofs.OutLemmas.{handed_on}
use Rattle.stair_array.proofs.RecoveryLemmas.{placing_goes, placing_stops}
use Rattle.stair_array.proofs.session.ArrayCore.finish.Goals as goal

pub returns-in_err-put_in_place-clause-does : goal.returns-in_err-put_in_place-clause-does
returns-in_err-put_in_place-clause-does g c =
    placing_stops _ _ _ c.in_err-put_in_place.field-0.0 _ (snapshot c.args.self.now.member (told g.R.Rack c.args.rack.now))
    (snapshot c.put_in_place.new.self.member (told g.R.Rack c.put_in_place.new.rack)) (handed_on _ _ c.from_residual.ensures.1)
    c.in_err-put_in_place.ensures.does

pub returns-clause-does : goal.returns-clause-does
returns-clause-does g c =
    placing_goes _ _ _ _ (snapshot c.args.self.now.member (told g.R.Rack c.args.rack.now))
    (snapshot c.put_in_place.new.self.member (told g.R.Rack c.put_in_place.new.rack))
    (snapshot c.close.new.self.member (told g.R.Rack c.close.new.rack)) c.in_ok-put_in_place.ensures.does c.close.ensures.does
