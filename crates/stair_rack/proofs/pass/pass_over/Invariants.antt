-- the slots below this one were called
use Rattle.stair_rack.specs.Passes.{call_of}
use Rattle.stair_rack.proofs.PassCounts.{PassSoFar}
use Rattle.stair_rack.proofs.pass.pass_over.Given as goal

abbrev pub invariant-loop-slot : goal.invariant-loop-slot
invariant-loop-slot g l =
    PassSoFar (call_of l.fn.pass) l.fn.to l.gone l.slot g.R.Rack.is_honest
    (record {
      history = g.R.Rack.history l.initial.rack;
      bads = g.R.Rack.bads l.initial.rack;
      gones = g.R.Rack.gones l.initial.rack;
      reads = g.R.Rack.reads l.initial.rack;
    })
    (record { history = g.R.Rack.history l.rack; bads = g.R.Rack.bads l.rack; gones = g.R.Rack.gones l.rack; reads = g.R.Rack.reads l.rack })
