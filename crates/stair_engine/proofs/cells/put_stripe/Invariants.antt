-- The cells of the rows so far, and of the row so far, were put into the sink.
use Rattle.std.proofs.Common.{◌+◌, ◌*◌, ◌≤◌, take}
use Rattle.std.specs.List.{concat}
use Rattle.std.specs.Io.KnownBytes.{Appends}
use Rattle.stair_engine.proofs.cells.put_stripe.Given as goal

abbrev pub invariant-loop-row : goal.invariant-loop-row
invariant-loop-row g l = record {
  bytes : Appends (g.K.Sink.held l.initial.output) (g.K.Sink.held l.output) (concat (take (l.row * l.geometry.n) l.stripe.cells));
  count : g.K.Sink.faults l.initial.output ≤ g.K.Sink.faults l.output;
}

abbrev pub invariant-loop-slot : goal.invariant-loop-slot
invariant-loop-slot g l = record {
  bytes : Appends (g.K.Sink.held l.fn.output) (g.K.Sink.held l.output) (concat (take (l.row * l.geometry.n + l.slot) l.stripe.cells));
  count : g.K.Sink.faults l.fn.output ≤ g.K.Sink.faults l.output;
}
