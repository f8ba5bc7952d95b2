-- The block's own cell, or its stripe.
use Rattle.std.proofs.Common.{◌∙◌, sym}
use Rattle.std.proofs.lemmas.Bool.{eqb-true}
use Rattle.stair_rack.specs.Told.{told}
use Rattle.stair_invariant.specs.Effects.{snapshot}
use Rattle.stair_array.proofs.ReadingLemmas.{is_remembered, read_own, read_past, read_recalled, read_refused, read_restored}
use Rattle.stair_array.proofs.NewsLemmas.{read_news}
use Rattle.stair_array.proofs.RebuildingLemmas.{under_after}
use Rattle.stair_array.proofs.array.Array.read.Goals as goal

pub returns-in_err-place-clause-does : goal.returns-in_err-place-clause-does
returns-in_err-place-clause-does g c none =
    rw (← c.self.view_is)
    (read_past _ _ (snapshot c.self.inside.session.member (told g.R.Rack c.args.rack.now)) _ _ _ c.in_err-place.ensures.past c.in_err-place.ensures.fault
    c.from_residual.ensures.1)

pub returns-then-eq-clause-does : goal.returns-then-eq-clause-does
returns-then-eq-clause-does g c none =
    rw (← c.self.view_is)
    (read_recalled _ _ _ _ _ (snapshot c.self.inside.session.member (told g.R.Rack c.args.rack.now)) c.in_ok-place.ensures.place
    c.self.inside.session.stripe _ (is_remembered eqb-true _ _ _ (sym c.eq.ensures ∙ c.if-eq.true)) c.cell.ensures.value)

pub returns-then-read_cell-clause-does : goal.returns-then-read_cell-clause-does
returns-then-read_cell-clause-does g c none =
    rw (← c.self.view_is)
    (read_own _ _ _ _ _ (snapshot c.self.inside.session.member (told g.R.Rack c.args.rack.now)) c.in_ok-place.ensures.place _
    (snapshot c.self.inside.session.member (told g.R.Rack c.read_cell.new.rack)) c.if-read_cell.ensures.does.0 c.if-read_cell.ensures.does.1)

pub returns-in_err-loaded-clause-does : goal.returns-in_err-loaded-clause-does
returns-in_err-loaded-clause-does g c none =
    rw (← c.self.view_is)
    (read_refused _ _ _ _ _ (snapshot c.self.inside.session.member (told g.R.Rack c.args.rack.now)) c.in_ok-place.ensures.place _
    (snapshot c.self.inside.session.member (told g.R.Rack c.read_cell.new.rack)) (snapshot c.load-loaded.new.self.member (told g.R.Rack c.load-loaded.new.rack)) _ _ _
    c.from_residual-in_err-loaded.ensures.1 c.if-read_cell.ensures.does.0 c.in_err-loaded.ensures.does)

pub returns-clause-does : goal.returns-clause-does
returns-clause-does g c none =
    rw (← c.self.view_is)
    (read_restored _ _ _ _ _ (snapshot c.self.inside.session.member (told g.R.Rack c.args.rack.now)) c.in_ok-place.ensures.place _
    (snapshot c.self.inside.session.member (told g.R.Rack c.read_cell.new.rack)) (snapshot c.load-loaded.new.self.member (told g.R.Rack c.load-loaded.new.rack)) _
    c.cell-2.ensures.value c.if-read_cell.ensures.does.0 c.in_ok-loaded.ensures.does)

pub returns-in_err-loaded-clause-news : goal.returns-in_err-loaded-clause-news
returns-in_err-loaded-clause-news g c = rw (← c.self.view_is) (read_news _ _ _ _ _ _ c.add_fallen.ensures)

pub returns-clause-news : goal.returns-clause-news
returns-clause-news g c = rw (← c.self.view_is) (read_news _ _ _ _ _ _ c.add_fallen.ensures)

pub invariant_of-self : goal.invariant_of-self
invariant_of-self g c = (
  c.load-loaded.ensures.fits,
  rw c.left_of-self-inside.ensures (under_after _ _ c.load-loaded.ensures.geometry _ c.self.invariant.1),
)

pub invariant_of-self-2 : goal.invariant_of-self-2
invariant_of-self-2 g c = (
  c.load-loaded.ensures.fits,
  rw c.left_of-self-inside.ensures (under_after _ _ c.load-loaded.ensures.geometry _ c.self.invariant.1),
)
