-- The parities so far.
use Rattle.std.proofs.Common.{◌+◌, ◌*◌, ◌%◌}
use Rattle.stair_std.proofs.Columns.{HasSet}
use Rattle.stair_std.proofs.units.set_column.Given as goal

abbrev pub invariant-loop-row : goal.invariant-loop-row
invariant-loop-row l =
    HasSet l.geometry l.stripe (l.block % 512) l.block (l.row * l.geometry.n + 0) l.fn.coefficients l.coefficients

abbrev pub invariant-loop-slot : goal.invariant-loop-slot
invariant-loop-slot l =
    HasSet l.geometry l.stripe (l.block % 512) l.block (l.row * l.geometry.n + l.slot) l.fn.coefficients l.coefficients
