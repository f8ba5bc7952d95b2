-- The gate was written, and then the body.
use Rattle.std.proofs.Common.{◌∙◌, sym}
use Rattle.stair_rack.proofs.PassCounts.{Done-compared, Gone-compared}
use Rattle.stair_array.proofs.NewJournalLemmas.{gate_gone, gate_then}
use Rattle.stair_mend.proofs.replacing.write_journal.Goals as goal

pub returns-then-eq-clause-does : goal.returns-then-eq-clause-does
returns-then-eq-clause-does g c =
    let gone = Gone-compared c.write.result (sym c.eq.ensures ∙ c.if-eq.true) in
    (gate_gone c.args.geometry.now c.args.slot g.R.Rack.is_honest
    (record { history = g.R.Rack.history c.args.rack.now; bads = g.R.Rack.bads c.args.rack.now; gones = g.R.Rack.gones c.args.rack.now; reads = g.R.Rack.reads c.args.rack.now })
    (record { history = g.R.Rack.history c.write.new.self; bads = g.R.Rack.bads c.write.new.self; gones = g.R.Rack.gones c.write.new.self; reads = g.R.Rack.reads c.write.new.self })
    (λ honest. rw (c.closed_gate.ensures, gone) at (c.write.ensures.does honest)) (λ is. c.write.ensures.gone gone)
    c.write.ensures.counts c.write.ensures.reads).told

pub returns-clause-does : goal.returns-clause-does
returns-clause-does g c =
    let done = Done-compared c.write.result (sym c.eq.ensures ∙ c.if-eq.false) in
    (gate_then c.args.geometry.now c.args.slot g.R.Rack.is_honest c.clear_body.result
    (record { history = g.R.Rack.history c.args.rack.now; bads = g.R.Rack.bads c.args.rack.now; gones = g.R.Rack.gones c.args.rack.now; reads = g.R.Rack.reads c.args.rack.now })
    (record { history = g.R.Rack.history c.write.new.self; bads = g.R.Rack.bads c.write.new.self; gones = g.R.Rack.gones c.write.new.self; reads = g.R.Rack.reads c.write.new.self })
    (record { history = g.R.Rack.history c.clear_body.new.rack; bads = g.R.Rack.bads c.clear_body.new.rack; gones = g.R.Rack.gones c.clear_body.new.rack; reads = g.R.Rack.reads c.clear_body.new.rack })
    (λ honest. rw (c.closed_gate.ensures, done) at (c.write.ensures.does honest)) c.write.ensures.counts c.write.ensures.reads
    (record { told = c.clear_body.ensures.does; gone = c.clear_body.ensures.gone; counts = c.clear_body.ensures.counts; reads = c.clear_body.ensures.reads })).told
