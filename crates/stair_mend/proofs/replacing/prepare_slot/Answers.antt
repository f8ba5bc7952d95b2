-- The device was looked at, and its journal laid out.
use Rattle.std.proofs.Common.{◌∙◌, sym}
use Rattle.stair_rack.proofs.PassCounts.{Done-compared, Gone-compared}
use Rattle.stair_rack.specs.Told.{told}
use Rattle.stair_mend.proofs.ReplacingLemmas.{prepare_gone, prepare_unfit, prepared}
use Rattle.stair_mend.proofs.replacing.prepare_slot.Goals as goal

pub returns-in_err-places-clause-does : goal.returns-in_err-places-clause-does
returns-in_err-places-clause-does g c =
    prepare_unfit c.args.array.now.member c.args.slot (told g.R.Rack c.args.rack.now) (told g.R.Rack c.look_for.new.rack) _
    c.geometry-geometry.ensures.value _ _ c.from_residual.ensures.1 c.in_err-places.ensures.does

pub returns-then-eq-clause-does : goal.returns-then-eq-clause-does
returns-then-eq-clause-does g c =
    let gone = Gone-compared c.lay_out_journal.result (sym c.eq.ensures ∙ c.if-eq.true) in
    prepare_gone c.args.array.now.member _ c.geometry-geometry.ensures.value c.args.slot c.in_ok-places.places g.R.Rack.is_honest
    (g.R.Rack.history c.args.rack.now) (g.R.Rack.history c.look_for.new.rack) (g.R.Rack.history c.lay_out_journal.new.rack)
    (g.R.Rack.bads c.args.rack.now) (g.R.Rack.bads c.look_for.new.rack) (g.R.Rack.bads c.lay_out_journal.new.rack)
    (g.R.Rack.gones c.args.rack.now) (g.R.Rack.gones c.look_for.new.rack) (g.R.Rack.gones c.lay_out_journal.new.rack)
    c.in_ok-places.ensures.does c.lay_out_journal.result c.lay_out_journal.ensures.does c.lay_out_journal.ensures.counts gone (c.lay_out_journal.ensures.gone gone)

pub returns-clause-does : goal.returns-clause-does
returns-clause-does g c =
    prepared c.args.array.now.member _ c.geometry-geometry.ensures.value c.args.slot c.in_ok-places.places g.R.Rack.is_honest
    (g.R.Rack.history c.args.rack.now) (g.R.Rack.history c.look_for.new.rack) (g.R.Rack.history c.lay_out_journal.new.rack)
    (g.R.Rack.bads c.args.rack.now) (g.R.Rack.bads c.look_for.new.rack) (g.R.Rack.bads c.lay_out_journal.new.rack)
    (g.R.Rack.gones c.args.rack.now) (g.R.Rack.gones c.look_for.new.rack) (g.R.Rack.gones c.lay_out_journal.new.rack)
    c.in_ok-places.ensures.does c.lay_out_journal.result c.lay_out_journal.ensures.does c.lay_out_journal.ensures.counts
    (Done-compared c.lay_out_journal.result (sym c.eq.ensures ∙ c.if-eq.false)) c.note_medium.new.self.member c.note_medium.ensures.is c.note_medium.ensures.rules
