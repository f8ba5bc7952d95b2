-- A pass of writes, and the phase's end.
use Rattle.stair_model.specs.Device.{gate_sector}
use Rattle.stair_rack.proofs.PhaseLemmas.{Placed-ended, writing_pass}
use Rattle.stair_journal.specs.Journalling.{gate_writes}
use Rattle.stair_journal.proofs.DoesLemmas.{does_phase, synced_ended}
use Rattle.stair_journal.proofs.ToldLemmas.{are_gone_ended, are_gone_wrote}
use Rattle.stair_journal.proofs.WritesLemmas.{gate_writes_is, gate_writes_there}
use Rattle.stair_journal.proofs.phases.write_gates.Goals as goal

pub returns-clause-does : goal.returns-clause-does
returns-clause-does g c =
    let gate = c.args.gate.now in
    let unwritten = c.write_all-unwritten in
    does_phase (gate_writes gate) c.args.live unwritten.result c.sync_rest.result g.R.Rack.is_honest (record {
      history = g.R.Rack.history c.args.rack.now;
      bads = g.R.Rack.bads c.args.rack.now;
      gones = g.R.Rack.gones c.args.rack.now;
      reads = g.R.Rack.reads c.args.rack.now;
    })
    (record {
      history = g.R.Rack.history unwritten.new.rack;
      bads = g.R.Rack.bads unwritten.new.rack;
      gones = g.R.Rack.gones unwritten.new.rack;
      reads = g.R.Rack.reads unwritten.new.rack;
    }) (g.R.Rack.history c.sync_rest.new.rack) (g.R.Rack.bads c.sync_rest.new.rack) (g.R.Rack.gones c.sync_rest.new.rack) unwritten.ensures.gone unwritten.ensures.counts c.sync_rest.ensures.gone
    c.sync_rest.ensures.counts c.sync_rest.ensures.well_formed
    (λ honest.
    Placed-ended (writing_pass (gate_writes gate) c.args.live unwritten.result gate_sector gate _ _ (unwritten.ensures.does honest) (λ j on. gate_writes_there gate j))
    (λ j k bytes on fine one. (on, (gate_writes_is gate j k bytes one).at)) (c.sync_rest.ensures.does honest))
    (λ honest. are_gone_ended (unwritten.ensures.does honest).ran (are_gone_wrote (unwritten.ensures.does honest)) (c.sync_rest.ensures.does honest))
    (λ honest. synced_ended (unwritten.ensures.does honest).ran (c.sync_rest.ensures.does honest))
