-- The blocks were put into the stripe, or set in it.
use Rattle.std.proofs.Common.{◌≡◌, ◌∙◌, ap, arith}
use Rattle.stair_model.specs.Geometry.{data_cells}
use Rattle.stair_rack.specs.Told.{told}
use Rattle.stair_invariant.specs.Effects.{snapshot}
use Rattle.stair_array.proofs.WritingLemmas.{filled_ready, set_ready}
use Rattle.stair_array.proofs.session.ArrayCore.make_ready.Goals as goal

pub returns-then-from-clause-does : goal.returns-then-from-clause-does
returns-then-from-clause-does g c =
    filled_ready (snapshot c.args.self.now.member (told g.R.Rack c.args.rack.now)) c.geometry-geometry.result c.args.redo.now c.args.first c.args.from.now
    c.fill.new.stripe c.args.self.now.stripe c.geometry-geometry.ensures.value c.requires.stripe (c.if-from.true ∙ c.from.ensures ∙ c.u.ensures.value)
    c.fill.ensures.set

pub returns-clause-does : goal.returns-clause-does
returns-clause-does g c =
    let full : c.from.result ≡ data_cells c.args.self.now.member.array.geometry = c.from.ensures ∙ c.u.ensures.value ∙ ap data_cells c.geometry-geometry.ensures.value in
    let within = c.requires.together.within in
    set_ready (snapshot c.args.self.now.member (told g.R.Rack c.args.rack.now)) (snapshot c.prepare.new.self.member (told g.R.Rack c.prepare.new.rack))
    c.geometry-geometry.result c.args.redo.now c.args.first c.args.from.now c.prepare.new.self.stripe c.set.new.stripe c.geometry-geometry.ensures.value
    c.requires.change (omega (arith, within, c.if-from.false, full)) c.in_ok-prepare.ensures.does
    c.set.ensures.set
