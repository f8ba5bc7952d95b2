-- the sectors after the gate, up to this one, were written, and none was gone
use Rattle.std.proofs.Common.{◌<◌}
use Rattle.stair_model.specs.Device.{gate_sector}
use Rattle.stair_rack.specs.declared.rack.Reply.TheVariants as reply
use Rattle.stair_rack.proofs.PhaseCounts.{WritesSlot}
use Rattle.stair_array.specs.Mends.{new_journal}
use Rattle.stair_array.proofs.NewJournalLemmas.{IsUpTo}
use Rattle.stair_mend.proofs.replacing.clear_body.Given as goal

abbrev pub invariant-loop-sector : goal.invariant-loop-sector
invariant-loop-sector g l =
    WritesSlot (new_journal l.fn.geometry) l.fn.slot reply.Done (IsUpTo l.fn.slot l.sector) g.R.Rack.is_honest
    (record { history = g.R.Rack.history l.initial.rack; bads = g.R.Rack.bads l.initial.rack; gones = g.R.Rack.gones l.initial.rack; reads = g.R.Rack.reads l.initial.rack })
    (record { history = g.R.Rack.history l.rack; bads = g.R.Rack.bads l.rack; gones = g.R.Rack.gones l.rack; reads = g.R.Rack.reads l.rack })
    × (gate_sector < l.sector)
