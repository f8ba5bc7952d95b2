-- the body's cells of the rows before this one were written, and none was gone
use Rattle.std.specs.Prelude.{IsTrue}
use Rattle.stair_rack.specs.Placed.{IsGoneSlot}
use Rattle.stair_rack.specs.declared.rack.Reply.TheVariants as reply
use Rattle.stair_rack.proofs.PhaseCounts.{WritesSlot}
use Rattle.stair_journal.specs.Journalling.{body_writes}
use Rattle.stair_journal.proofs.ToldLemmas.{AreGone}
use Rattle.stair_journal.proofs.WritesLemmas.{IsInRowsTo}
use Rattle.stair_journal.proofs.phases.write_cells.Given as goal

abbrev pub invariant-loop-row : goal.invariant-loop-row
invariant-loop-row g l =
    WritesSlot (body_writes l.fn.geometry l.fn.redo l.fn.stripe) l.fn.slot reply.Done (IsInRowsTo l.fn.geometry l.fn.slot l.row) g.R.Rack.is_honest
    (record {
      history = g.R.Rack.history l.initial.rack;
      bads = g.R.Rack.bads l.initial.rack;
      gones = g.R.Rack.gones l.initial.rack;
      reads = g.R.Rack.reads l.initial.rack;
    })
    (record { history = g.R.Rack.history l.rack; bads = g.R.Rack.bads l.rack; gones = g.R.Rack.gones l.rack; reads = g.R.Rack.reads l.rack })
    × (IsTrue g.R.Rack.is_honest → AreGone (IsGoneSlot l.fn.slot reply.Done) (g.R.Rack.history l.initial.rack) (g.R.Rack.history l.rack))
