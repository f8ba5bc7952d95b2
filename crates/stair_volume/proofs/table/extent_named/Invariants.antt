-- None of the entries so far has the name.
use Rattle.std.proofs.Common.{◌≡◌, drop}
use Rattle.stair_volume.specs.Table.{find_in}
use Rattle.stair_volume.proofs.table.extent_named.Given as goal

abbrev pub invariant-loop-entry : goal.invariant-loop-entry
invariant-loop-entry l = find_in (drop l.entry-index l.entries) l.name ≡ find_in l.entries l.name
