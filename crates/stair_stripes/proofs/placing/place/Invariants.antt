-- the cells on the slots below this one were placed
use Rattle.std.specs.Prelude.{IsTrue}
use Rattle.stair_model.specs.Slots.{HasSlot}
use Rattle.stair_rack.proofs.PhaseCounts.{PhaseSoFar}
use Rattle.stair_journal.proofs.ToldLemmas.{AreGone}
use Rattle.stair_stripes.specs.Placing.{cell_writes}
use Rattle.stair_stripes.proofs.placing.place.Given as goal

abbrev pub invariant-loop-slot : goal.invariant-loop-slot
invariant-loop-slot g l =
    PhaseSoFar (cell_writes l.fn.geometry l.fn.redo l.fn.stripe) l.fn.to l.gone l.slot g.R.Rack.is_honest
    (record {
      history = g.R.Rack.history l.initial.rack;
      bads = g.R.Rack.bads l.initial.rack;
      gones = g.R.Rack.gones l.initial.rack;
      reads = g.R.Rack.reads l.initial.rack;
    })
    (record { history = g.R.Rack.history l.rack; bads = g.R.Rack.bads l.rack; gones = g.R.Rack.gones l.rack; reads = g.R.Rack.reads l.rack })
    × (IsTrue g.R.Rack.is_honest → AreGone (HasSlot l.gone) (g.R.Rack.history l.initial.rack) (g.R.Rack.history l.rack))
