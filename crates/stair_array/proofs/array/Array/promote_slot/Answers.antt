-- The slot under way was promoted, dropped or refused.
use Rattle.std.proofs.Common.{◌∙◌, ap}
use Rattle.stair_rack.specs.Told.{told}
use Rattle.stair_invariant.specs.Effects.{snapshot}
use Rattle.stair_array.specs.Arrays.{OpenArray}
use Rattle.stair_array.proofs.StayDownLemmas.{promotes_down}
use Rattle.stair_array.proofs.array.Array.promote_slot.Goals as goal

pub promote_slot-promoted-requires : goal.promote_slot-promoted-requires
promote_slot-promoted-requires g c =
    record { rebuilt = (c.self.invariant.1 _ (ap (λ (a : OpenArray). a.rebuild) c.self.view_is ∙ c.requires.written)).0 }

pub returns-in_err-promoted-clause-stays : goal.returns-in_err-promoted-clause-stays
returns-in_err-promoted-clause-stays g c =
    rw (← c.self.view_is)
    (promotes_down c.args.slot _ (snapshot c.self.inside.session.member (told g.R.Rack c.args.rack.now))
    (snapshot c.promote_slot-promoted.new.self.member (told g.R.Rack c.promote_slot-promoted.new.rack)) c.promote_slot-promoted.ensures.does
    c.geometry.ensures.rules (c.self.invariant.1 _ (ap (λ (a : OpenArray). a.rebuild) c.self.view_is ∙ c.requires.written)).0)

pub returns-clause-stays : goal.returns-clause-stays
returns-clause-stays g c =
    rw (← c.self.view_is)
    (promotes_down c.args.slot _ (snapshot c.self.inside.session.member (told g.R.Rack c.args.rack.now))
    (snapshot c.promote_slot-promoted.new.self.member (told g.R.Rack c.promote_slot-promoted.new.rack)) c.promote_slot-promoted.ensures.does
    c.geometry.ensures.rules (c.self.invariant.1 _ (ap (λ (a : OpenArray). a.rebuild) c.self.view_is ∙ c.requires.written)).0)
