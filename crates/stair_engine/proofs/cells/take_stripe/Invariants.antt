-- The cells of the rows so far, and of the row so far, were taken from the source.
use Rattle.std.proofs.Common.{◌+◌, ◌*◌}
use Rattle.stair_command.specs.Outside.{source_view}
use Rattle.stair_engine.proofs.CellLaws.{HasTaken}
use Rattle.stair_engine.proofs.cells.take_stripe.Given as goal

abbrev pub invariant-loop-row : goal.invariant-loop-row
invariant-loop-row g l =
    HasTaken (source_view g.S.Source) l.geometry l.initial.intake l.intake l.stripe
    (l.row * l.geometry.n) l.initial.input l.input

abbrev pub invariant-loop-slot : goal.invariant-loop-slot
invariant-loop-slot g l =
    HasTaken (source_view g.S.Source) l.geometry l.fn.intake l.intake l.stripe
    (l.row * l.geometry.n + l.slot) l.fn.input l.input
