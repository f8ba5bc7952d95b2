-- None of the entries so far has a block of it.
use Rattle.std.proofs.Common.{◌≡◌, drop}
use Rattle.stair_volume.specs.Table.{is_free}
use Rattle.stair_volume.proofs.table.end_of_met.Given as goal

abbrev pub invariant-loop-entry : goal.invariant-loop-entry
invariant-loop-entry l = is_free (drop l.entry-index l.entries) l.extent ≡ is_free l.entries l.extent
